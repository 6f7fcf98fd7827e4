-- Bounds on the products that variable numbers are made of. Assumes nothing.
use Rattle.std.specs.Prelude.{ℕ, ◌+◌, ◌-◌, ◌*◌, ◌≤◌}
use Rattle.std.proofs.Common.{mul-le-mul, arith}
use Rattle.request.specs.Numbers.{inputs_most, switches_most, series_most}
use Rattle.network.specs.Value.{terminals_most}

-- N(N−1)
pub pairs_most : (N : ℕ) → N ≤ terminals_most → N * (N - 1) ≤ terminals_most * (terminals_most - 1)
pairs_most N h = mul-le-mul {n₁ = N} {m₁ = N - 1} {n₂ = terminals_most} {m₂ = terminals_most - 1} h (omega arith)

-- 2n·s
pub chosen_most : (n s : ℕ) → n ≤ inputs_most → s ≤ switches_most → 2 * n * s ≤ 2 * inputs_most * switches_most
chosen_most n s h k = mul-le-mul {n₁ = 2 * n} {m₁ = s} {n₂ = 2 * inputs_most} {m₂ = switches_most} (omega arith) k

-- m(2r+1)
pub steps_most : (r m : ℕ) → r ≤ switches_most → m ≤ series_most → m * (2 * r + 1) ≤ series_most * (2 * switches_most + 1)
steps_most r m h k = mul-le-mul {n₁ = m} {m₁ = 2 * r + 1} {n₂ = series_most} {m₂ = 2 * switches_most + 1} k (omega arith)
