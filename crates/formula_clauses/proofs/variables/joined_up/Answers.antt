-- The code is the definition, where subtraction stops at 0; a product is bounded by law. Assumes nothing.
use Rattle.std.proofs.Common.{◌≡◌, ℕ, ◌+◌, ◌-◌, ◌*◌, ◌/◌, ◌≤◌, ◌<◌, ap, arith}
use mathlib.Core.Logic.{◌⊎◌, inl, inr}
use native.Mathlib.Nat.{mul-zero}
use Rattle.formula.specs.Formula.{pair_number}
use Rattle.formula_clauses.specs.Bounds.{joined_most}
use Rattle.formula_clauses.proofs.variables.joined_up.Goals as goal

-- the product of i and what is left of 2N − 1 past i
span : (high i x : ℕ) → high ≤ 1023 → x ≡ high - i → (i ≤ high) ⊎ (high < i) → i * x ≤ 1046529
span high i x h e (inl l) = joined_most i x (omega arith) (omega arith)
span high i x h e (inr l) = let z : x ≡ 0 = omega arith in rw (z, mul-zero) (omega arith)

pub returns : goal.returns
unfolding pair_number
returns c =
    let a = c.args in
    λ N e. ap (λ (x : ℕ). a.i * x / 2 + (a.j - a.i)) (let z : c.saturating_sub.result ≡ 2 * N - a.i - 1 = omega arith in z)
