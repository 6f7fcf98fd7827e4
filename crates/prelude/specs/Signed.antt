-- A literal as a signed number: its sign and its variable. Assumes nothing.
use Rattle.std.specs.Prelude.{Bool, true, false, ℕ, suc, ℤ, pos, negsuc}
pub mod Laws

-- whether a literal is negative
abbrev pub is_negative : ℤ → Bool
is_negative (pos n) = false
is_negative (negsuc n) = true

-- the variable of a literal
abbrev pub variable : ℤ → ℕ
variable (pos n) = n
variable (negsuc n) = suc n
