-- The labels in an array, for any X: they have the form that the check of a network asks, and where group 1 holds they are those of
-- the network that the values describe. Assumes nothing.
use Rattle.std.specs.Prelude.{◌≡◌, true, ℕ, ◌+◌, ◌-◌, ◌≤◌, ◌<◌, T, eqb, leb, length, get_or}
use Rattle.std.proofs.Common.{sym, ◌∙◌, subst, ⊎_elim, arith, eqb→eq, le→leb, length-append}
use Rattle.std.proofs.Math.Path.{ap}
use mathlib.Core.List.{List, ◌++◌}
use Rattle.std.proofs.Math.Dec.{eqb_refl}
use Rattle.std.proofs.Math.Arith.{lt→nleb}
use Rattle.std.proofs.Math.ListN.{replicate, get_or-append}
use Rattle.std.proofs.lemmas.List.{length-replicate, get_or-replicate}
use Rattle.prelude.specs.Tests.{cond-true, cond-false, or_l, or_r, or_cases}
use Rattle.prelude.specs.Lists.{tab}
use Rattle.prelude.specs.Lists.Laws.{length_tab, get_d_tab, get_d_right, tab_same}
use Rattle.cnf.specs.Cnf.{Assignment, Sat}
use Rattle.request.specs.Numbers.{switches_most}
use Rattle.formula.specs.Formula.{terminals, X, transitivity}
use Rattle.network.specs.Value.{terminals_most}
use Rattle.network.specs.Check.{label_in, labels_lowest}
use Rattle.network.proofs.CheckLaws.{labels_right}
use Rattle.answer.specs.Decode.{label_for, decoded}
use Rattle.answer.specs.Decode.Meaning.{meets, label_low as label_for_low, label_meets, label_least, meets_through}
use Rattle.clusters.specs.Chain.{Chain, chain_label, chain_labels}
use Rattle.clusters.proofs.ChainLaws.{none_in, chain_more, chain_each, label_chain, label_lowest, label_low, label_own}

-- of more terminals than an array holds there are none
pub labels_past : (N : ℕ) (α : Assignment) → terminals_most < N → chain_labels N α ≡ replicate terminals_most 0
unfolding chain_labels
labels_past N α h =
    cond-false (leb N terminals_most) (tab 0 N (chain_label N α) ++ replicate (terminals_most - N) 0) (replicate terminals_most 0)
    (lt→nleb N terminals_most h)

module _ (N : ℕ) (α : Assignment) (fits : N ≤ terminals_most) where
  -- an array that holds them
  pub labels_fit : chain_labels N α ≡ tab 0 N (chain_label N α) ++ replicate (terminals_most - N) 0
  unfolding chain_labels
  labels_fit =
      cond-true (leb N terminals_most) (tab 0 N (chain_label N α) ++ replicate (terminals_most - N) 0) (replicate terminals_most 0)
      (le→leb N terminals_most fits)

  -- its entries
  pub labels_entry : (i : ℕ) → i < N → label_in (chain_labels N α) i ≡ chain_label N α i
  labels_entry i h =
      let long = length_tab 0 N (chain_label N α) in
      ap (λ (l : List ℕ). get_or l i 0) labels_fit
      ∙ get_or-append (tab 0 N (chain_label N α)) (replicate (terminals_most - N) 0) 0 i (omega arith)
      ∙ get_d_tab 0 N (chain_label N α) i 0 h ∙ ap (chain_label N α) (let z : 0 + i ≡ i = omega arith in z)

  -- its length, and the entries past them
  pub labels_long : length (chain_labels N α) ≡ terminals_most
  labels_long =
      let a = length_tab 0 N (chain_label N α) in
      let b = length-replicate {A = ℕ} (terminals_most - N) 0 in
      let c = length-append (tab 0 N (chain_label N α)) (replicate (terminals_most - N) 0) in
      ap length labels_fit ∙ (let z : length (tab 0 N (chain_label N α) ++ replicate (terminals_most - N) 0) ≡ terminals_most = omega arith in z)

  pub labels_rest : (i : ℕ) → N ≤ i → i < terminals_most → label_in (chain_labels N α) i ≡ 0
  labels_rest i h k =
      let a = length_tab 0 N (chain_label N α) in
      ap (λ (l : List ℕ). get_or l i 0) labels_fit
      ∙ get_d_right (tab 0 N (chain_label N α)) (replicate (terminals_most - N) 0) i 0 (omega arith)
      ∙ get_or-replicate (terminals_most - N) (i - length (tab 0 N (chain_label N α))) 0 0 (omega arith)

-- the form that the check of a network asks, whatever the X
pub labels_form : (r : ℕ) (α : Assignment) → r ≤ switches_most → labels_lowest r (label_in (chain_labels (terminals r) α)) ≡ true
labels_form r α few = sym (labels_right r (label_in (chain_labels (terminals r) α)) (λ i h. (low i h, own i h)))
  where
    is : (i : ℕ) → i < terminals r → label_in (chain_labels (terminals r) α) i ≡ chain_label (terminals r) α i
    is = labels_entry (terminals r) α (omega arith)

    low : (i : ℕ) → i < terminals r → label_in (chain_labels (terminals r) α) i ≤ i
    low i h = subst (λ (x : ℕ). x ≤ i) (sym (is i h)) (label_low (terminals r) α i h)

    own : (i : ℕ) → i < terminals r
        → label_in (chain_labels (terminals r) α) (label_in (chain_labels (terminals r) α) i) ≡ label_in (chain_labels (terminals r) α) i
    own i h =
        let below = label_low (terminals r) α i h in
        ap (label_in (chain_labels (terminals r) α)) (is i h) ∙ is (chain_label (terminals r) α i) (omega arith)
        ∙ label_own (terminals r) α i h ∙ sym (is i h)

-- Where group 1 holds
module _ (r : ℕ) (α : Assignment) (sat : Sat α (transitivity (terminals r))) where
  -- a chain is one true X, or none
  chain_meets : (i j : ℕ) → i < terminals r → j < terminals r → Chain (terminals r) α i j → T (meets r α i j)
  chain_meets i j h l c =
      chain_each (terminals r) α (λ j. j < terminals r → T (meets r α i j)) i
      (λ h. or_l (eqb i i) (α (X (terminals r) i i)) (eqb_refl i))
      (λ k j g v x l. meets_through r α sat i k j h g l (v g) (or_r (eqb k j) (α (X (terminals r) k j)) x))
      j c l

  -- and what meets is a chain
  meets_chain : (i j : ℕ) → i < terminals r → T (meets r α i j) → Chain (terminals r) α i j
  meets_chain i j h m =
      ⊎_elim (λ (e : T (eqb i j)). subst (Chain (terminals r) α i) (eqb→eq i j e) (0, none_in (terminals r) α i))
      (λ (x : T (α (X (terminals r) i j))). chain_more (terminals r) α i i j h (0, none_in (terminals r) α i) x)
      (or_cases (eqb i j) (α (X (terminals r) i j)) m)

  -- the label that the search gives is the one that the definition of the decoded network has
  pub label_decoded : (i : ℕ) → i < terminals r → chain_label (terminals r) α i ≡ label_for r α i
  label_decoded i h =
      let own = label_low (terminals r) α i h in
      let old = label_for_low r α i in
      let a = label_lowest (terminals r) α i (label_for r α i) h (omega arith) (meets_chain (label_for r α i) i (omega arith) (label_meets r α i)) in
      let b = label_least r α i (chain_label (terminals r) α i) own (chain_meets (chain_label (terminals r) α i) i (omega arith) h (label_chain (terminals r) α i h)) in
      omega arith

  -- so the labels are those of the decoded network
  pub labels_decoded : (n : ℕ) → r ≤ switches_most → chain_labels (terminals r) α ≡ (decoded n r α).labels
  unfolding decoded
  labels_decoded n few =
      labels_fit (terminals r) α (omega arith)
      ∙ ap (λ (l : List ℕ). l ++ replicate (terminals_most - terminals r) 0)
      (tab_same 0 (terminals r) (chain_label (terminals r) α) (label_for r α) (λ i l u. label_decoded i (omega arith)))
