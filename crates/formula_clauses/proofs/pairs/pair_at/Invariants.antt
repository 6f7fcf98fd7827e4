-- The pairs with a lower v are passed over. Assumes nothing.
use Rattle.std.proofs.Common.{◌≡◌, ◌+◌}
use Rattle.formula.specs.Pairs.{pairs_before}
use Rattle.formula_clauses.proofs.pairs.pair_at.Given as goal

abbrev pub invariant-loop-v : goal.invariant-loop-v
invariant-loop-v l = l.number ≡ pairs_before l.count l.v + l.rest
