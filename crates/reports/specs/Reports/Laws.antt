-- Laws of the report's lines: the digits of a number below 1,000. Assumes nothing.
use Rattle.std.specs.Prelude.{◌≡◌, List, [], ◌∷◌, ◌++◌, ℕ, ◌+◌, ◌/◌, ◌%◌, ◌≤◌, ◌<◌}
use Rattle.std.proofs.Common.{ap, ◌∙◌, arith}
use Rattle.text.specs.Decimal.{decimal}
use Rattle.text.specs.Decimal.Laws.{decimal_digit, decimal_more}

-- one digit
pub digit_one : (x : ℕ) → x < 10 → decimal x ≡ (48 + x) ∷ []
digit_one x h = let e : x % 10 ≡ x = omega arith in decimal_digit x h ∙ ap (λ (k : ℕ). (48 + k) ∷ []) e

-- the last digit after those of the tenth
digit_last : (x : ℕ) (l : List ℕ) → 10 ≤ x → decimal (x / 10) ≡ l → decimal x ≡ l ++ ((48 + x % 10) ∷ [])
digit_last x l h e = decimal_more x h ∙ ap (λ (k : List ℕ). k ++ ((48 + x % 10) ∷ [])) e

-- two digits
pub digits_two : (x : ℕ) → 10 ≤ x → x / 10 < 10 → decimal x ≡ (48 + x / 10) ∷ (48 + x % 10) ∷ []
digits_two x h l = digit_last x ((48 + x / 10) ∷ []) h (digit_one (x / 10) l)

-- three digits
pub digits_three : (x : ℕ) → 10 ≤ x / 10 → x < 1000 → decimal x ≡ (48 + x / 10 / 10) ∷ (48 + x / 10 % 10) ∷ (48 + x % 10) ∷ []
digits_three x h l = digit_last x ((48 + x / 10 / 10) ∷ (48 + x / 10 % 10) ∷ []) (omega arith) (digits_two (x / 10) h (omega arith))
