-- The number of pairs by its formula, for every count. Assumes nothing.
use Rattle.std.proofs.Common.{◌≡◌, ℕ, ◌-◌, ◌*◌, ◌/◌, ap, arith}
use native.Mathlib.Nat.{mul-sub}
use Rattle.formula.specs.Formula.{P}
use Rattle.formula.specs.Pairs.Laws.{pairs_all, pairs_small}
use Rattle.formula_clauses.proofs.pairs.pairs_below.Goals as goal

-- N·N − N is N(N − 1)
P_is : (N : ℕ) → (N * N - N) / 2 ≡ P N
unfolding P
P_is N = ap (λ (x : ℕ). x / 2) square
  where
    square : N * N - N ≡ N * (N - 1)
    square = omega (arith, mul-sub N N 1)

pub returns : goal.returns
returns c =
    (pairs_all c.args.count, omega (arith, pairs_all c.args.count, pairs_small c.args.count c.requires), P_is c.args.count)
