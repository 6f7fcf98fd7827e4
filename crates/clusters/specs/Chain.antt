-- Chains of true X and the labels that they give (document 02, U3), over any values of the X of N terminals. Assumes nothing.
use Rattle.std.specs.Prelude.{Bool, ◌&&◌, ◌||◌, cond, List, ◌++◌, ℕ, zero, suc, ◌-◌, T, eqb, leb, replicate}
use Rattle.prelude.specs.Lists.{any_from, tab}
use Rattle.cnf.specs.Cnf.{Assignment}
use Rattle.formula.specs.Formula.{X}
use Rattle.network.specs.Value.{terminals_most}
use Rattle.answer.specs.Decode.{lowest}

module _ (N : ℕ) (α : Assignment) where
  -- a chain of at most t true X joins i to j: the chain of none joins a terminal to itself, and one X more goes on from some terminal k
  -- that the chain has come to (X of a terminal with itself, which is no variable, adds nothing)
  unfoldable pub chained : ℕ → ℕ → ℕ → Bool
  chained zero i j = eqb i j
  chained (suc t) i j = chained t i j || any_from 0 N (λ k. chained t i k && α (X N k j))

  -- a chain of true X, however many, joins i to j
  abbrev pub Chain : ℕ → ℕ → Type 0
  Chain i j = (t : ℕ) × T (chained t i j)

  -- "a terminal's label is the lowest terminal that a chain of true X joins to it"; no chain needs more than N (`chain_short`)
  unfoldable pub chain_label : ℕ → ℕ
  chain_label i = lowest (λ j. chained N j i) N

-- the labels of N terminals in an array, whose other entries are 0, as in every network that we make; of more terminals than an array
-- has entries there are none
unfoldable pub chain_labels : ℕ → Assignment → List ℕ
chain_labels N α =
    cond (leb N terminals_most) (tab 0 N (chain_label N α) ++ replicate (terminals_most - N) 0) (replicate terminals_most 0)
