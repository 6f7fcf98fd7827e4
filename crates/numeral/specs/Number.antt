-- Numbers in the text: decimal, at most nine digits, no leading zero, no "-0". Assumes nothing.
use Rattle.std.specs.Prelude.{List, Bool, ◌&&◌, ℕ, zero, suc, ◌+◌, ◌-◌, ◌*◌, ◌≤◌, ◌<◌, ◌≡◌, eqb, leb, get_or, cond}
pub mod Laws
pub mod Places
pub mod Words

-- the byte at p; 0, which has no part in any form, past the end
abbrev pub byte_at : List ℕ → ℕ → ℕ
byte_at t p = get_or t p 0

abbrev pub is_digit : ℕ → Bool
is_digit b = leb 48 b && leb b 57

-- what is read at a place: 1 for a minus before a number, the number's value, and the place after it, 0 where no number stands
pub record Read : Type 0 where
  pub minus : ℕ
  pub value : ℕ
  pub next : ℕ

-- a number that was read
abbrev pub word : ℕ → ℕ → ℕ → Read
word m x next = record { minus = m; value = x; next = next }

-- no number stands there
abbrev pub no_word : Read
no_word = word 0 0 0

-- x goes on with the digits from p on, f of them at most
unfoldable pub digits_at : ℕ → ℕ → ℕ → List ℕ → ℕ → Read
digits_at zero m x t p = word m x p
digits_at (suc f) m x t p =
    cond (is_digit (byte_at t p)) (digits_at f m (x * 10 + (byte_at t p - 48)) t (p + 1)) (word m x p)

-- the number from p on, after a minus where m is 1: a 0, or a digit above 0 and eight more at most
unfoldable pub number_at : List ℕ → ℕ → ℕ → Read
number_at t p m =
    cond (eqb (byte_at t p) 48) (cond (eqb m 1) no_word (word 0 0 (p + 1)))
    (cond (is_digit (byte_at t p)) (digits_at 8 m (byte_at t p - 48) t (p + 1)) no_word)

-- the same with a minus where one stands
unfoldable pub literal_at : List ℕ → ℕ → Read
literal_at t p = cond (eqb (byte_at t p) 45) (number_at t (p + 1) 1) (number_at t p 0)

-- the place where a number's digits may go on to no more
pub record Limit (n at r : ℕ) : Type 0 where
  pub above : at < r
  pub inside : r ≤ n
  pub nine : r ≤ at + 9
  pub short : r < at + 9 → r ≡ n
