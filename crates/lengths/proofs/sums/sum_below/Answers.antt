-- The total is the sum of what the calls so far gave. Assumes nothing.
use Rattle.std.proofs.Common.{sym, add-mul, arith}
use Rattle.prelude.specs.Sums.Laws.{sum_none, sum_more}
use Rattle.lengths.proofs.sums.sum_below.Goals as goal

pub loop-i-init : goal.loop-i-init
loop-i-init g c = (λ f h. sym (sum_none f), omega arith)

pub loop-i-preserved : goal.loop-i-preserved
loop-i-preserved g c =
    let i = c.loop-i.i in
    let few = c.requires.few i c.f-total.result (omega arith) c.f-total.ensures in (
      λ f h. omega (arith, sum_more i f, c.loop-i.invariant.0 f h, h i c.f-total.result (omega arith) c.f-total.ensures),
      omega (arith, add-mul i 1 c.args.most, c.loop-i.invariant.1),
    )
