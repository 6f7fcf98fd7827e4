-- The triples with a lower i are passed over. Assumes nothing.
use Rattle.std.proofs.Common.{◌≡◌, ◌+◌}
use Rattle.formula.specs.Pairs.{triples_before}
use Rattle.formula_clauses.proofs.groups.triple_at.Given as goal

abbrev pub invariant-loop-i : goal.invariant-loop-i
invariant-loop-i l = l.number ≡ triples_before l.count l.i + l.rest
