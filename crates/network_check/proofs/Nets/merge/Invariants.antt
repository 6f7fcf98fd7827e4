-- The terminals below the index have their new part. Assumes nothing.
use Rattle.std.proofs.Common.{true, get_or}
use Rattle.network.specs.Check.{move}
use Rattle.network_check.proofs.Filled.{Filled}
use Rattle.network_check.proofs.Nets.merge.Given as goal

abbrev pub invariant-loop-i : goal.invariant-loop-i
invariant-loop-i l = Filled 0 (λ k. move true l.p l.q (get_or l.parts k 0)) l.initial.merged l.merged l.i
