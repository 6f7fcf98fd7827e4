-- The terminals below the index are tested against the sink's label. Assumes nothing.
use Rattle.std.proofs.Common.{rules, arith}
use Rattle.network.proofs.CheckLaws.{sink_test}
use Rattle.network_check.proofs.Filled.{filled_none, filled_set}
use Rattle.network_check.proofs.Nets.at_sink.Goals as goal

pub loop-i-init : goal.loop-i-init
loop-i-init c = filled_none _ _ _

pub loop-i-preserved : goal.loop-i-preserved
loop-i-preserved c = filled_set _ _ _ c.loop-i.marks c.loop-i.i _ c.loop-i.invariant (search rules) (sink_test _ _ c.loop-i.i)

pub returns : goal.returns
returns c = λ i h. c.loop-i.invariant.done i (omega arith)
