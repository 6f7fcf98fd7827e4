-- After t steps the marks are the terminals within t closed switches of the sink. Assumes nothing.
use Rattle.network.specs.Check.{near_in}
use Rattle.network.proofs.CheckLaws.{near_zero, near_more}
use mathlib.Core.Path.{◌∙◌}
use native.Mathlib.Omega.{arith}
use Rattle.network_check.proofs.Nets.near_source.Goals as goal

pub loop-init : goal.loop-init
loop-init c = λ i h. c.at_sink-marked.ensures i (omega arith) ∙ near_zero _ _ _ i

pub loop-preserved : goal.loop-preserved
loop-preserved c =
    let l = c.loop in
    λ i h. c.one_more-marked.ensures i (omega arith) ∙ near_more _ _ _ l.counter (near_in l.marked) l.invariant i h
