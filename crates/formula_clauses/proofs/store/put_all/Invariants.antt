-- The first i literals are stored. Assumes nothing.
use Rattle.std.proofs.Common.{◌≡◌, take}
use Rattle.prelude.specs.Written.{written}
use Rattle.formula_clauses.specs.Store.{signs}
use Rattle.formula_clauses.proofs.store.put_all.Given as goal

abbrev pub invariant-loop-i : goal.invariant-loop-i
invariant-loop-i l = l.entries ≡ written l.initial.entries 0 (signs (take l.i l.these))
