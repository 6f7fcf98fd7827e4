-- A literal's sign and variable, as an `i32` has them. Assumes nothing.
use Rattle.std.specs.Prelude.{◌≡◌, refl, true, false, ℕ, zero, suc, ◌<◌, T, ℤ, pos, negsuc, nat_abs, neg_ℤ, ◌-ℤ◌}
use Rattle.std.proofs.Common.{ap, ◌∙◌, zero-le, arith, Fits, SFits, to_z, of_z, to_z-of_z, le-ltb}
use Rattle.std.proofs.Math.IntN.{+ℤ_idl}
use Rattle.std.specs.Int.Signed.{lt_z, non_neg}
use Rattle.std.specs.Int.{w32}
use Rattle.std.proofs.Math.Facts.{to_z_pos}
use borrow.Author.Rules.{sfits_of}
use Rattle.prelude.specs.Signed.{is_negative, variable}

-- the test `x < 0` is the sign
pub below_zero : (x : ℤ) → lt_z x (pos 0) ≡ is_negative x
below_zero (pos n) = le-ltb n 0 zero-le
below_zero (negsuc n) = refl

-- the same of the bits of x, read again
pub below_zero_bits : (x : ℤ) → SFits w32 x → lt_z (to_z w32 (of_z w32 x)) (pos 0) ≡ is_negative x
below_zero_bits x h = rw (to_z-of_z {w = w32} h) (below_zero x)

-- minus a negative literal is its variable
pub minus_negative : (x : ℤ) → is_negative x ≡ true → pos 0 -ℤ x ≡ pos (variable x)
minus_negative (pos n) e = cc
minus_negative (negsuc n) e = +ℤ_idl (pos (suc n))

-- a literal that is not negative is its variable
pub positive_is : (x : ℤ) → is_negative x ≡ false → x ≡ pos (variable x)
positive_is (pos n) e = refl
positive_is (negsuc n) e = cc

-- a variable below 2^31 fits an `i32`
pub variable_fits : (n : ℕ) → n < 2147483648 → SFits w32 (pos n)
variable_fits n h = sfits_of h

-- and may be cast from it to a `u32`
pub variable_cast : (n : ℕ) → n < 2147483648 → T (non_neg (pos n)) × Fits w32 (nat_abs (pos n))
variable_cast n h = (tt, omega arith)

-- minus a variable below 2^31, as an `i32` computes it
pub zero_minus : (n : ℕ) → n < 2147483648 → pos 0 -ℤ to_z w32 n ≡ neg_ℤ (pos n)
zero_minus n h = ap (λ (z : ℤ). pos 0 -ℤ z) (to_z_pos w32 h) ∙ +ℤ_idl (neg_ℤ (pos n))

negated_fits : (n : ℕ) → n < 2147483648 → SFits w32 (neg_ℤ (pos n))
negated_fits zero h = sfits_of (omega arith)
negated_fits (suc n) h = sfits_of (omega arith)

-- it fits
pub minus_fits : (n : ℕ) → n < 2147483648 → SFits w32 (pos 0 -ℤ to_z w32 n)
minus_fits n h = rw (zero_minus n h) (negated_fits n h)

-- and its bits, read again, are the negative number
pub minus_is : (n : ℕ) → n < 2147483648 → to_z w32 (of_z w32 (pos 0 -ℤ to_z w32 n)) ≡ neg_ℤ (pos n)
minus_is n h = to_z-of_z (minus_fits n h) ∙ zero_minus n h

-- a variable below 2^31 is itself as an `i32`
pub plus_is : (n : ℕ) → n < 2147483648 → to_z w32 n ≡ pos n
plus_is n h = to_z_pos w32 h
