-- The switches below the index are found. Assumes nothing.
use Rattle.std.proofs.Common.{rules}
use Rattle.network_check.proofs.Filled.{filled_none, filled_set}
use Rattle.network_check.proofs.Nets.on_row.Goals as goal

pub loop-s-init : goal.loop-s-init
loop-s-init c = filled_none _ _ _

pub loop-s-preserved : goal.loop-s-preserved
loop-s-preserved c = filled_set _ _ _ c.loop-s.shut c.loop-s.s _ c.loop-s.invariant (search rules) c.literal_on.ensures

pub returns-clause-shut : goal.returns-clause-shut
returns-clause-shut c = λ s h. c.loop-s.invariant.done s (search rules)
