-- Bounds on the products that numbers of variables and clauses are made of: for 8 inputs, 15 switches and 15 steps where a row is made,
-- for any bytes where the whole is counted. A request has fewer. Assumes nothing.
use Rattle.std.specs.Prelude.{ℕ, ◌+◌, ◌-◌, ◌*◌, ◌/◌, ◌≤◌}
use Rattle.std.proofs.Common.{mul-le-mul, arith}
use Rattle.request.specs.Numbers.{rows_most}
use Rattle.formula.specs.Pairs.{pairs_before}
use Rattle.formula.specs.Pairs.Laws.{pairs_all}

-- N(N−1), and N(N−1)(N−2)
pub pairs_most : (r : ℕ) → r ≤ 255 → (2 * r + 2) * (2 * r + 2 - 1) ≤ 261632
pairs_most r h = mul-le-mul {n₁ = 2 * r + 2} {m₁ = 2 * r + 2 - 1} {n₂ = 512} {m₂ = 511} (omega arith) (omega arith)

pub triples_most : (r : ℕ) → r ≤ 255 → (2 * r + 2) * (2 * r + 2 - 1) * (2 * r + 2 - 2) ≤ 133432320
triples_most r h = mul-le-mul {n₁ = (2 * r + 2) * (2 * r + 2 - 1)} {m₁ = 2 * r + 2 - 2} {n₂ = 261632} {m₂ = 510} (pairs_most r h) (omega arith)

-- i(2N−i−1)
pub joined_most : (i span : ℕ) → i ≤ 1023 → span ≤ 1023 → i * span ≤ 1046529
joined_most i span h k = mul-le-mul {n₁ = i} {m₁ = span} {n₂ = 1023} {m₂ = 1023} h k

-- 2n·s
pub chosen_most : (n s : ℕ) → n ≤ 255 → s ≤ 255 → 2 * n * s ≤ 130050
chosen_most n s h k = mul-le-mul {n₁ = 2 * n} {m₁ = s} {n₂ = 510} {m₂ = 255} (omega arith) k

-- (t−1)(2r+1)
pub entered_most : (r t : ℕ) → r ≤ 255 → t ≤ 256 → (t - 1) * (2 * r + 1) ≤ 130305
entered_most r t h k = mul-le-mul {n₁ = t - 1} {m₁ = 2 * r + 1} {n₂ = 255} {m₂ = 511} (omega arith) (omega arith)

-- r switches with so much each
pub switches_most_lem : (r x : ℕ) → r ≤ 255 → x ≤ 300000 → r * x ≤ 76500000
switches_most_lem r x h k = mul-le-mul {n₁ = r} {m₁ = x} {n₂ = 255} {m₂ = 300000} h k

-- the parts of a row's clauses
pub ends_most : (n r : ℕ) → n ≤ 8 → r ≤ 15 → 2 * r * n ≤ 240
ends_most n r h k = mul-le-mul {n₁ = 2 * r} {m₁ = n} {n₂ = 30} {m₂ = 8} (omega arith) h

pub square_most : (r : ℕ) → r ≤ 15 → 2 * r * (2 * r) ≤ 900
square_most r h = mul-le-mul {n₁ = 2 * r} {m₁ = 2 * r} {n₂ = 30} {m₂ = 30} (omega arith) (omega arith)

pub row_most : (n r m : ℕ) → (n ≤ 8) × (r ≤ 15) × (m ≤ 15)
    → (2 * r * n ≤ 240) × (2 * r * (2 * r) ≤ 900) × (m * (2 * r + 1) ≤ 465) × (m * (2 * r * n) ≤ 3600) × ((m - 1) * (2 * r * (2 * r)) ≤ 12600)
row_most n r m (h, k, l) = (
  ends_most n r h k,
  square_most r k,
  mul-le-mul {n₁ = m} {m₁ = 2 * r + 1} {n₂ = 15} {m₂ = 31} l (omega arith),
  mul-le-mul {n₁ = m} {m₁ = 2 * r * n} {n₂ = 15} {m₂ = 240} l (ends_most n r h k),
  mul-le-mul {n₁ = m - 1} {m₁ = 2 * r * (2 * r)} {n₂ = 14} {m₂ = 900} (omega arith) (square_most r k),
)

-- so much for each row
pub rows_most_lem : (on off a b : ℕ) → on + off ≤ rows_most → a ≤ 50000 → b ≤ 50000 → on * a + off * b ≤ rows_most * 50000
rows_most_lem on off a b h k l =
    let x = mul-le-mul {n₁ = on} {m₁ = a} {n₂ = on} {m₂ = 50000} (omega arith) k in
    let y = mul-le-mul {n₁ = off} {m₁ = b} {n₂ = off} {m₂ = 50000} (omega arith) l in
    omega arith

-- the X and L variables
pub variables_few : (n r : ℕ) → n ≤ 8 → r ≤ 15 → (2 * r + 2) * (2 * r + 2 - 1) / 2 + 2 * n * r ≤ 736
variables_few n r h k =
    let a = mul-le-mul {n₁ = 2 * r + 2} {m₁ = 2 * r + 2 - 1} {n₂ = 32} {m₂ = 31} (omega arith) (omega arith) in
    let b = mul-le-mul {n₁ = 2 * n} {m₁ = r} {n₂ = 16} {m₂ = 15} (omega arith) k in
    omega arith

pub sides_most : (n r : ℕ) → (n ≤ 8) × (r ≤ 15) → (r * (n * 2) ≤ 240) × (pairs_before (2 * r + 2) (2 * r + 2) ≤ 512)
sides_most n r (h, k) =
    let m = mul-le-mul {n₁ = 2 * r + 2} {m₁ = 2 * r + 2} {n₂ = 32} {m₂ = 32} (omega arith) (omega arith) in
    (mul-le-mul {n₁ = r} {m₁ = n * 2} {n₂ = 15} {m₂ = 16} k (omega arith), omega (arith, pairs_all (2 * r + 2)))
