-- The number counts the literals with the value that are passed over. Assumes nothing.
use Rattle.std.proofs.Common.{◌≡◌, ◌+◌}
use Rattle.formula.specs.Values.{count_below, has_value}
use Rattle.formula_clauses.proofs.values.literal_with.Given as goal

abbrev pub invariant-loop-v : goal.invariant-loop-v
invariant-loop-v l = l.number ≡ count_below (has_value l.fn.row.n l.fn.row.k l.value) l.v + l.rest
