-- The invariant: no record so far has the id. Assumes nothing.
use Rattle.std.proofs.Common.{◌≡◌, ℕ, ◌<◌}
use Rattle.added.specs.Record.{id_of}
use Rattle.added.proofs.first.Given as goal

abbrev pub invariant-loop-k : goal.invariant-loop-k
invariant-loop-k l = (j : ℕ) → j < l.k → id_of l.added j ≡ l.id → ⊥
