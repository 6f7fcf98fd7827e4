-- The network that the values of X and L describe. Assumes nothing.
use Rattle.std.specs.Prelude.{Bool, ◌||◌, ◌++◌, ℕ, ◌+◌, ◌-◌, ◌*◌, eqb, replicate}
use Rattle.prelude.specs.Lists.{tab, first_of}
use Rattle.cnf.specs.Cnf.{Assignment}
use Rattle.formula.specs.Formula.{terminals, X, L}
use Rattle.network.specs.declared.Network.{Network}
use Rattle.request.specs.Numbers.{switches_most}
use Rattle.network.specs.Value.{terminals_most}
pub mod Laws
pub mod Meaning

-- the least number below c that passes the test, or c
unfoldable pub lowest : (ℕ → Bool) → ℕ → ℕ
lowest p c = first_of p (tab 0 c (λ i. i))

-- the literal of switch s: the one whose L is true
unfoldable pub literal_for : ℕ → ℕ → Assignment → ℕ → ℕ
literal_for n r α s = lowest (λ v. α (L n (terminals r) s v)) (2 * n)

-- the label of terminal i, the lowest terminal of its net: the lowest j with X(j,i) true, or i
unfoldable pub label_for : ℕ → Assignment → ℕ → ℕ
label_for r α i = lowest (λ j. eqb j i || α (X (terminals r) j i)) (i + 1)

-- the network in arrays; "array entries past r literals and N labels are 0 in a network that we make"
unfoldable pub decoded : ℕ → ℕ → Assignment → Network
decoded n r α =
    record {
      r = r;
      literals = tab 0 r (literal_for n r α) ++ replicate (switches_most - r) 0;
      labels = tab 0 (terminals r) (label_for r α) ++ replicate (terminals_most - terminals r) 0;
    }
