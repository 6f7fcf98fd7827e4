-- The switches below the index are found. Assumes nothing.
use Rattle.std.proofs.Common.{false, get_or}
use Rattle.rows.specs.Rows.{literal_value}
use Rattle.network_check.proofs.Filled.{Filled}
use Rattle.network_check.proofs.Nets.on_row.Given as goal

abbrev pub invariant-loop-s : goal.invariant-loop-s
invariant-loop-s l = Filled false (λ s. literal_value l.q.request.n l.k (get_or l.literals s 0)) l.initial.shut l.shut l.s
