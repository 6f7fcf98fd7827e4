-- The terminals below the index have their new mark. Assumes nothing.
use Rattle.std.proofs.Common.{false}
use Rattle.network.specs.Check.{shut_at, label_in, near_in, nearer}
use Rattle.network_check.proofs.Filled.{Filled}
use Rattle.network_check.proofs.Nets.one_more.Given as goal

abbrev pub invariant-loop-i : goal.invariant-loop-i
invariant-loop-i l = Filled false (nearer l.self.r (shut_at l.self.shut) (label_in l.self.labels) (near_in l.marked)) l.marked l.more l.i
