-- `parts::joined_to` meets its contract: a sum, term by term. Assumes nothing.
use Rattle.std.proofs.Common.{arith, rules}
use Rattle.lengths.specs.Length.{joined_at, joined_to}
use Rattle.lengths.proofs.parts.joined_to.Goals as goal

pub returns : goal.returns
unfolding joined_to
returns c = (c.sum_below.ensures.sum (joined_at c.args.good.request.r c.args.a) (λ i x h p. search rules), omega (arith, c.sum_below.ensures.most))
