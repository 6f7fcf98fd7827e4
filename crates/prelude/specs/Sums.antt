-- Sums by an index: over the numbers below a bound, over the pairs of them, and over the triples; how many pass a test. Assumes nothing.
use Rattle.std.specs.Prelude.{Bool, cond, ℕ, zero, suc, ◌+◌, ◌-◌}
pub mod Laws

-- f 0 + f 1 + .. + f (n - 1)
unfoldable pub sum : ℕ → (ℕ → ℕ) → ℕ
sum zero f = 0
sum (suc n) f = sum n f + f n

-- the sum of f v w over v < w below n
abbrev pub pair_sum : ℕ → (ℕ → ℕ → ℕ) → ℕ
pair_sum n f = sum n (λ v. sum (n - (v + 1)) (λ i. f v (v + 1 + i)))

-- the sum of f i j k over i < j < k below n
abbrev pub triple_sum : ℕ → (ℕ → ℕ → ℕ → ℕ) → ℕ
triple_sum n f = sum n (λ i. sum (n - (i + 1)) (λ a. sum (n - (i + 1 + a + 1)) (λ b. f i (i + 1 + a) (i + 1 + a + 1 + b))))

-- how many of the numbers below n pass a test
unfoldable pub many : ℕ → (ℕ → Bool) → ℕ
many n p = sum n (λ i. cond (p i) 1 0)
