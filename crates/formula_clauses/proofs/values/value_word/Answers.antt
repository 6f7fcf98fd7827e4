-- The shifts are products with 2^n, which fit the word. Assumes nothing.
use Rattle.formula_clauses.specs.Word.{value_word}
use Rattle.rows.proofs.RowsLaws.{one_shifted}
use lib.Pow.{pow_mono}
use Prim.Native.Nat.{ℕ, ◌-◌, ◌*◌, ◌^◌, ◌≤◌}
use native.Mathlib.Nat.{mul-le-mul}
use native.Mathlib.Omega.{arith}
use Rattle.formula_clauses.proofs.values.value_word.Goals as goal

-- 2^n is small, and so are its products with numbers up to it
small : (n x : ℕ) → n ≤ 8 → x ≤ 2 ^ n → (2 ^ n ≤ 256) × (x * 2 ^ n ≤ 65536)
small n x h l =
    let p : 2 ^ n ≤ 256 = pow_mono {i = n} {j = 8} h in
    (p, mul-le-mul {n₁ = x} {m₁ = 2 ^ n} {n₂ = 256} {m₂ = 256} (omega arith) p)

pub returns-then-value : goal.returns-then-value
unfolding value_word
returns-then-value c =
    rw c.if-value.true (omega (arith, small c.args.row.n c.args.row.k (omega (arith, c.args.row.few.1)) (omega arith)))

pub returns : goal.returns
unfolding value_word
returns c =
    let n = c.args.row.n in
    rw (c.if-value.false, one_shifted n 32 (omega arith))
    (omega (arith, small n (2 ^ n - 1 - c.args.row.k) (omega (arith, c.args.row.few.1)) (omega arith)))
