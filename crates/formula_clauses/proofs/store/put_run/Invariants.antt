-- The first i literals of the run are stored. Assumes nothing.
use Rattle.std.proofs.Common.{◌≡◌}
use Rattle.prelude.specs.Written.{written}
use Rattle.formula.specs.Clause.{run}
use Rattle.formula_clauses.specs.Store.{signs}
use Rattle.formula_clauses.proofs.store.put_run.Given as goal

abbrev pub invariant-loop-i : goal.invariant-loop-i
invariant-loop-i l = l.entries ≡ written l.initial.entries 0 (signs (run l.first l.i))
