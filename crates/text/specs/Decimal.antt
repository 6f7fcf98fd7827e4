-- Decimal numerals. Assumes nothing.

use Rattle.std.specs.Prelude.{List, [], ◌∷◌, ◌++◌, cond, ℕ, zero, suc, ◌+◌, ◌/◌, ◌%◌, ltb}
pub mod Laws

-- the last f digits of x at most, the highest first, with no leading zero
unfoldable pub digits : ℕ → ℕ → List ℕ
digits zero x = []
digits (suc f) x = cond (ltb x 10) [] (digits f (x / 10)) ++ ((48 + x % 10) ∷ [])

-- the numeral of x: x has no more than x digits, and one at least
unfoldable pub decimal : ℕ → List ℕ
decimal x = digits (suc x) x

-- the last k digits of x, with leading zeros
abbrev pub padded : ℕ → ℕ → List ℕ
padded zero x = []
padded (suc k) x = padded k (x / 10) ++ ((48 + x % 10) ∷ [])

-- two digits, and four, with leading zeros
abbrev pub two : ℕ → List ℕ
two x = (48 + x / 10) ∷ (48 + x % 10) ∷ []

abbrev pub four : ℕ → List ℕ
four x = two (x / 100) ++ two (x % 100)
