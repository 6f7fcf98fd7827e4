-- Laws of networks as values: what the loops that compare two arrays answer, and that the test is equality. Assumes nothing.
use Rattle.std.specs.Prelude.{◌≡◌, refl, Bool, true, false, ◌&&◌, List, [], ◌∷◌, ℕ, ◌<◌, eqb, length, get_or}
use lib.Pointwise.{pointwise}
use Rattle.std.proofs.Math.Path.{sym}
use Rattle.std.proofs.Common.{ap, ◌∙◌, arith, eq-eqb, ne_eqb, ext_get_or}
use Rattle.prelude.specs.Lists.{equal_lists}
use Rattle.prelude.specs.Lists.Laws.{true_equal, false_equal}
use Rattle.network.specs.Value.{same_network}
use Rattle.network.specs.declared.Network.{Network}

-- lists that differ at an index fail the test of equality
pub differ_at : (a b : List ℕ) (i : ℕ) → (get_or a i 0 ≡ get_or b i 0 → ⊥) → false ≡ equal_lists a b
differ_at a b i h = sym (false_equal a b (λ e. h (ap (λ (l : List ℕ). get_or l i 0) e)))

-- lists of n entries that agree at each index below n pass it
pub agree_below : (n : ℕ) (a b : List ℕ) → length a ≡ n → length b ≡ n → ((k : ℕ) → k < n → get_or a k 0 ≡ get_or b k 0)
    → true ≡ equal_lists a b
agree_below n a b la lb h = sym (true_equal a b (ext_get_or 0 a b (la ∙ sym lb) (λ k g. h k (omega arith))))

-- a network from its parts
made : ℕ → List ℕ → List ℕ → Network
made r literals labels = record { r = r; literals = literals; labels = labels }

module _ (a b : Network) where
  -- networks of different r
  pub same_r : (a.r ≡ b.r → ⊥) → false ≡ same_network a b
  unfolding same_network
  same_r h = rw (ne_eqb a.r b.r h)

  -- literals that differ
  pub same_literals : a.r ≡ b.r → (t : Bool) → t ≡ equal_lists a.literals b.literals → t ≡ false → false ≡ same_network a b
  unfolding same_network
  same_literals e t h f = sym (rw (eq-eqb a.r b.r e, ← h, f))

  -- the labels decide
  pub same_labels : a.r ≡ b.r → (t : Bool) → t ≡ equal_lists a.literals b.literals → t ≡ true
      → equal_lists a.labels b.labels ≡ same_network a b
  unfolding same_network
  same_labels e t h f = sym (rw (eq-eqb a.r b.r e, ← h, f))

-- the comparison entry by entry is that of the lists
pub pointwise_equal : (a b : List ℕ) → pointwise eqb a b ≡ equal_lists a b
unfolding equal_lists
pointwise_equal [] [] = refl
pointwise_equal [] (y ∷ ys) = refl
pointwise_equal (x ∷ xs) [] = refl
pointwise_equal (x ∷ xs) (y ∷ ys) = ap (λ (t : Bool). eqb x y && t) (pointwise_equal xs ys)

-- so the comparison of the three fields is that of the networks
pub fields_same : (a b : Network)
    → eqb a.r b.r && (pointwise eqb a.literals b.literals && pointwise eqb a.labels b.labels) ≡ same_network a b
unfolding same_network
fields_same a b = rw (pointwise_equal a.literals b.literals, pointwise_equal a.labels b.labels) refl
