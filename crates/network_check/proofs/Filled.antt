-- An array that a loop fills from its start: below the loop's index its entries are a function's values, from there on what they
-- were. Assumes nothing.
use mathlib.Core.Path.{◌≡◌, refl, ◌∙◌}
use mathlib.Core.List.{List}
use Prim.Native.Nat.{ℕ, ◌+◌, ◌≤◌, ◌<◌}
use native.Mathlib.Omega.{arith}
use borrow.Author.Count.{below_none, below_more}
use lib.ListN.{length, get_or, set, length-set}
use lib.Seq.{get_or-set_same, get_or-set_other}

-- `now`, which was `old`, is filled with f's values below i
pub record Filled {A : Type 0} (d : A) (f : ℕ → A) (old now : List A) (i : ℕ) : Type 0 where
  pub long : length now ≡ length old
  pub done : (k : ℕ) → k < i → get_or now k d ≡ f k
  pub rest : (k : ℕ) → i ≤ k → get_or now k d ≡ get_or old k d

module _ {A : Type 0} (d : A) (f : ℕ → A) (old : List A) where
  -- before the loop
  pub filled_none : Filled d f old old 0
  filled_none = record { long = refl; done = below_none _; rest = λ k h. refl }

  -- an entry is stored
  pub filled_set : (l : List A) (i : ℕ) (v : A) → Filled d f old l i → i < length old → v ≡ f i → Filled d f old (set l i v) (i + 1)
  filled_set l i v p h e =
      record {
        long = length-set l i v ∙ p.long;
        done = below_more (λ (k : ℕ). get_or (set l i v) k d ≡ f k) i (λ k g. get_or-set_other l i k v d (λ z. omega arith) ∙ p.done k g)
            (get_or-set_same l i v d (let g = p.long in omega arith) ∙ e);
        rest = λ k g. get_or-set_other l i k v d (λ z. omega arith) ∙ p.rest k (omega arith);
      }

  -- an entry stays
  pub filled_kept : (l : List A) (i : ℕ) → Filled d f old l i → get_or old i d ≡ f i → Filled d f old l (i + 1)
  filled_kept l i p e =
      record {
        long = p.long;
        done = below_more (λ (k : ℕ). get_or l k d ≡ f k) i p.done (p.rest i (omega arith) ∙ e);
        rest = λ k g. p.rest k (omega arith);
      }
