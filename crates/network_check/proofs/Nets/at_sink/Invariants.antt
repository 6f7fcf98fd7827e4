-- The terminals below the index are tested against the sink's label. Assumes nothing.
use Rattle.std.proofs.Common.{false}
use Rattle.network.specs.Check.{at_sink, label_in}
use Rattle.network_check.proofs.Filled.{Filled}
use Rattle.network_check.proofs.Nets.at_sink.Given as goal

abbrev pub invariant-loop-i : goal.invariant-loop-i
invariant-loop-i l = Filled false (at_sink l.self.r (label_in l.self.labels)) l.initial.marks l.marks l.i
