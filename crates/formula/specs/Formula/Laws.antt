-- Laws of variable numbers. Assumes nothing.
use Rattle.std.specs.Prelude.{◌≡◌, ℕ, ◌+◌, ◌-◌, ◌*◌, ◌/◌, ◌<◌, ◌≤◌, ltb}
use Rattle.std.proofs.Common.{ap, ◌∙◌, arith, lt→ltb}
use Rattle.std.proofs.Math.Arith.{le→nltb}
use Rattle.prelude.specs.Tests.{cond-true, cond-false}
use Rattle.formula.specs.Pairs.{pairs_before, PairIs}
use Rattle.formula.specs.Pairs.Laws.{pairs_are}
use Rattle.formula.specs.Formula.{pair_number, X, P}

-- X(i,j), i<j
pub joined_low : (N i j : ℕ) → i < j → X N i j ≡ pair_number N i j
unfolding X
joined_low N i j h = cond-true (ltb i j) _ _ (lt→ltb i j h)

-- X(i,j), j<i
pub joined_high : (N i j : ℕ) → j ≤ i → X N i j ≡ pair_number N j i
unfolding X
joined_high N i j h = cond-false (ltb i j) _ _ (le→nltb i j h)

-- the formula of X counts pairs: those of a lower i, and those of i up to j
pub pair_number_lem : (N i j : ℕ) → i ≤ N → pair_number N i j ≡ pairs_before N i + (j - i)
unfolding pair_number
pair_number_lem N i j h = ap (λ (x : ℕ). x + (j - i)) (pairs_are N i h)

-- and P all of them
pub pairs_count : (N : ℕ) → P N ≡ pairs_before N N
unfolding P
pairs_count N = ap (λ (x : ℕ). N * x / 2) (let e : N - 1 ≡ 2 * N - N - 1 = omega arith in e) ∙ pairs_are N N (omega arith)

-- X of the pair with the number p is p + 1
pub pair_x : (N p i j : ℕ) → PairIs N p i j → X N i j ≡ p + 1
pair_x N p i j h =
    let up = h.up in
    let within = h.within in
    let place = h.place in
    let e = pair_number_lem N i j (omega arith) in
    joined_low N i j up ∙ omega arith
