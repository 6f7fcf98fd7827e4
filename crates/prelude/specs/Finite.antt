-- Facts about the numbers below n, found by one computation. Assumes nothing.
use Rattle.std.proofs.Common.{sym, subst, ⊎_elim, not-suc-le-zero, le_of_suc-le-suc, eq-or-lt_of_le}
use Rattle.std.specs.Prelude.{Bool, true, ◌&&◌, ℕ, zero, suc, ◌<◌, T}
use Rattle.prelude.specs.Tests.{and_l, and_r}

-- the test f holds at each number below n
abbrev pub below : ℕ → (ℕ → Bool) → Bool
below zero f = true
below (suc n) f = f n && below n f

-- what was computed for all of them holds at each
pub below_at : (n : ℕ) (f : ℕ → Bool) → T (below n f) → (k : ℕ) → k < n → T (f k)
below_at zero f t k h = absurd (not-suc-le-zero h)
below_at (suc n) f t k h =
    ⊎_elim (λ e. subst (λ (m : ℕ). T (f m)) (sym e) (and_l (f n) (below n f) t))
    (λ l. below_at n f (and_r (f n) (below n f) t) k l)
    (eq-or-lt_of_le (le_of_suc-le-suc h))
