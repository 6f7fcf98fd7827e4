-- The numbers below a bound that pass a test, by number; the literals that have a value on a row. Assumes nothing.
use Rattle.std.specs.Prelude.{◌≡◌, Bool, true, not, cond, ℕ, zero, suc, ◌+◌, ◌<◌}
use Rattle.rows.specs.Rows.{literal_on}
pub mod Laws

-- how many numbers below v pass the test
unfoldable pub count_below : (ℕ → Bool) → ℕ → ℕ
count_below p zero = 0
count_below p (suc v) = count_below p v + cond (p v) 1 0

-- v is the number with the number q among those below c that pass the test
pub record NthIs (p : ℕ → Bool) (c q v : ℕ) : Type 0 where
  pub low : v < c
  pub holds : p v ≡ true
  pub place : q ≡ count_below p v

-- literal v has the value b on row k
abbrev pub has_value : ℕ → ℕ → Bool → ℕ → Bool
has_value n k b v = cond b (literal_on n k v) (not (literal_on n k v))
