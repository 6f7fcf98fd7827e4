-- The total is the sum of what the calls so far gave. Assumes nothing.
use Rattle.std.proofs.Common.{◌≡◌, ℕ, ◌*◌, ◌≤◌, ◌<◌}
use Rattle.prelude.specs.Sums.{sum}
use Rattle.lengths.proofs.sums.sum_below.Given as goal

abbrev pub invariant-loop-i : goal.invariant-loop-i
invariant-loop-i g l =
    ((f : ℕ → ℕ) → ((i x : ℕ) → i < l.n → goal.F-post g l.f i x → x ≡ f i) → l.total ≡ sum l.i f) × (l.total ≤ l.i * l.most)
