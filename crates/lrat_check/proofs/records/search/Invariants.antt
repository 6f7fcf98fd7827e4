-- The invariant: a record with the id lies from low on and below high. Assumes nothing.
use Rattle.std.proofs.Common.{◌≡◌, ℕ, ◌-◌, ◌≤◌, ◌<◌}
use Rattle.added.specs.Record.{id_of}
use Rattle.lrat_check.proofs.records.search.Given as goal

abbrev pub invariant-loop-low : goal.invariant-loop-low
invariant-loop-low l = (l.high ≤ l.a) × ((k : ℕ) → k < l.a → id_of l.added k ≡ l.x → (l.low ≤ k) × (k < l.high))

abbrev pub decreases-loop-low : goal.decreases-loop-low
decreases-loop-low l = l.high - l.low
