-- The terminals below the index have their new part. Assumes nothing.
use Rattle.std.proofs.Common.{rules, ◌≡◌, true, get_or, arith}
use Rattle.network.specs.Check.{move}
use Rattle.network.proofs.CheckLaws.{move_equal, move_other}
use Rattle.network_check.proofs.Filled.{filled_none, filled_set}
use Rattle.network_check.proofs.Nets.merge.Goals as goal
use Rattle.network_check.proofs.Nets.merge.Goals.{then-parts-i, else-parts-i}

pub loop-i-init : goal.loop-i-init
loop-i-init c = filled_none _ _ _

pub loop-i-preserved : goal.loop-i-preserved
loop-i-preserved c =
    let l = c.loop-i in
    let a = c.args in
    let f : _ → _ = λ i. move true a.p a.q (get_or a.parts i 0) in
    let is : c.if-parts-i.merged ≡ f l.i = elim c.if-parts-i.branch [
      | then-parts-i w ↦ rw w.merged-is (move_equal a.p a.q _ w.if-parts-i.true)
      | else-parts-i w ↦ rw w.merged-is (move_other a.p a.q _ w.if-parts-i.false)
    ] in
    filled_set 0 f _ l.merged l.i _ l.invariant (search rules) is

pub returns : goal.returns
returns c = λ i h. c.loop-i.invariant.done i (omega arith)
