-- Laws of chains and labels, for any X: a chain joins either way and through, N true X are enough for it, a label is the lowest
-- terminal of its cluster, and two terminals have one label exactly when a chain joins them. Assumes nothing.
use Rattle.std.specs.Prelude.{◌≡◌, Bool, false, not, ◌&&◌, ◌⊎◌, ℕ, zero, suc, ◌≤◌, ◌<◌}
use Rattle.std.proofs.Common.{sym, subst, T_not}
use Rattle.std.proofs.Math.Logic.{inl, inr, ⊎_elim}
use native.Mathlib.Omega.{arith}
use Rattle.std.proofs.Math.Dec.{T, eqb→eq, eqb_refl}
use Rattle.prelude.specs.Tests.{T-cases, and_in, and_l, and_r, or_l, or_r, or_cases}
use Rattle.prelude.specs.Lists.{any_from}
use Rattle.prelude.specs.Lists.Laws.{any_out, any_in}
use Rattle.prelude.specs.Sums.{many}
use Rattle.prelude.specs.Sums.Laws.{many_most, many_less}
use Rattle.cnf.specs.Cnf.{Assignment}
use Rattle.formula.specs.Formula.{X}
use Rattle.answer.specs.Decode.Meaning.{lowest_found, X-sym}
use Rattle.clusters.specs.Chain.{chained, Chain, chain_label}

module _ (N : ℕ) (α : Assignment) where
  -- a chain of at most t + 1 is one of at most t, or comes by one X more from a terminal k
  abbrev Step : ℕ → ℕ → ℕ → Type 0
  Step t i j = T (chained N α t i j) ⊎ ((k : ℕ) × (k < N) × T (chained N α t i k) × T (α (X N k j)))

  step_out : (t i j : ℕ) → T (chained N α (suc t) i j) → Step t i j
  unfolding chained
  step_out t i j c =
      ⊎_elim (λ (s : T (chained N α t i j)). inl s)
      (λ (s : T (any_from 0 N (λ k. chained N α t i k && α (X N k j)))).
      let w = any_out 0 N (λ k. chained N α t i k && α (X N k j)) s in
      inr (w.0, omega arith, and_l (chained N α t i w.0) (α (X N w.0 j)) w.3, and_r (chained N α t i w.0) (α (X N w.0 j)) w.3))
      (or_cases (chained N α t i j) (any_from 0 N (λ k. chained N α t i k && α (X N k j))) c)

  step_in : (t i j : ℕ) → Step t i j → T (chained N α (suc t) i j)
  unfolding chained
  step_in t i j (inl s) = or_l (chained N α t i j) (any_from 0 N (λ k. chained N α t i k && α (X N k j))) s
  step_in t i j (inr (k, h, s, x)) =
      or_r (chained N α t i j) (any_from 0 N (λ k. chained N α t i k && α (X N k j)))
      (any_in 0 N (λ k. chained N α t i k && α (X N k j)) k (omega arith) (omega arith) (and_in (chained N α t i k) (α (X N k j)) s x))

  -- the chain of none joins a terminal to itself, and to no other
  pub none_in : (i : ℕ) → T (chained N α 0 i i)
  unfolding chained
  none_in i = eqb_refl i

  pub none_out : (i j : ℕ) → T (chained N α 0 i j) → i ≡ j
  unfolding chained
  none_out i j c = eqb→eq i j c

  -- a chain goes on by a true X
  pub chain_more : (i k j : ℕ) → k < N → Chain N α i k → T (α (X N k j)) → Chain N α i j
  chain_more i k j h (t, s) x = (suc t, step_in t i j (inr (k, h, s, x)))

  -- what holds of i, and goes on by each true X, holds of every terminal that a chain joins to i
  pub chain_each : (P : ℕ → Type 0) (i : ℕ) → P i → ((k j : ℕ) → k < N → P k → T (α (X N k j)) → P j) → (j : ℕ) → Chain N α i j → P j
  chain_each P i p more j (zero, c) = subst P (none_out i j c) p
  chain_each P i p more j (suc t, c) =
      ⊎_elim (λ (s : T (chained N α t i j)). chain_each P i p more j (t, s))
      (λ (s : (k : ℕ) × (k < N) × T (chained N α t i k) × T (α (X N k j))).
      more s.0 j s.1 (chain_each P i p more s.0 (t, s.2)) s.3)
      (step_out t i j c)

  -- two chains are one
  pub chain_join : (i j k : ℕ) → Chain N α i j → Chain N α j k → Chain N α i k
  chain_join i j k w c = chain_each (Chain N α i) j w (λ m k h v x. chain_more i m k h v x) k c

  -- a chain joins either way
  pub chain_back : (i j : ℕ) → j < N → Chain N α i j → Chain N α j i
  chain_back i j l c =
      chain_each (λ j. j < N → Chain N α j i) i (λ h. (0, none_in i))
      (λ k j h v x l.
      chain_join j k i (chain_more j j k l (0, none_in j) (subst (λ (m : ℕ). T (α m)) (X-sym N k j) x)) (v h))
      j c l

-- ---- no chain needs more than N true X
-- The terminals within t true X of i are more than t, or nothing is joined to them besides; there are only N.
module _ (N : ℕ) (α : Assignment) (i : ℕ) (low : i < N) where
  -- how many they are
  abbrev reached : ℕ → ℕ
  reached t = many N (λ j. chained N α t i j)

  -- nothing is joined to them besides
  abbrev Closed : ℕ → Type 0
  Closed t = (k j : ℕ) → k < N → j < N → T (chained N α t i k) → T (α (X N k j)) → T (chained N α t i j)

  -- one is reached by t + 1 and not by t
  abbrev fresh : ℕ → ℕ → Bool
  fresh t j = chained N α (suc t) i j && not (chained N α t i j)

  -- one of the two
  abbrev Grown : ℕ → Type 0
  Grown t = Closed t ⊎ (t < reached t)

  -- what is within t is within t + 1
  longer : (t j : ℕ) → T (chained N α t i j) → T (chained N α (suc t) i j)
  longer t j c = step_in N α t i j (inl c)

  -- where t + 1 reach nothing new, nothing is joined besides
  closed : (t : ℕ) → ((j : ℕ) → j < N → T (chained N α (suc t) i j) → T (chained N α t i j)) → Closed (suc t)
  closed t old k j h l c x = longer t j (old j l (step_in N α t i j (inr (k, h, old k h c, x))))

  -- where they do, there are more
  grows : (t : ℕ) → t < reached t → T (any_from 0 N (fresh t)) → suc t < reached (suc t)
  grows t h f =
      let w = any_out 0 N (fresh t) f in
      let l = many_less N (λ j. chained N α t i j) (λ j. chained N α (suc t) i j) (λ j l. longer t j)
      w.0 (omega arith) (and_r (chained N α (suc t) i w.0) (not (chained N α t i w.0)) w.3)
      (and_l (chained N α (suc t) i w.0) (not (chained N α t i w.0)) w.3) in
      omega arith

  -- so it is for every t
  grown : (t : ℕ) → Grown t
  grown zero = let l = many_less N (λ j. false) (λ j. chained N α 0 i j) (λ j l z. absurd z) i low tt (none_in N α i) in inr (omega arith)
  grown (suc t) =
      ⊎_elim
      (λ (c : Closed t). inl (closed t (λ j l s. ⊎_elim (λ (z : T (chained N α t i j)). z) (λ z. c z.0 j z.1 l z.2 z.3) (step_out N α t i j s))))
      (λ (h : t < reached t).
      ⊎_elim (λ (f : T (any_from 0 N (fresh t))). inr (grows t h f))
      (λ (f : T (not (any_from 0 N (fresh t)))).
      inl (closed t (λ j l s.
      ⊎_elim (λ (z : T (chained N α t i j)). z)
      (λ (z : T (not (chained N α t i j))).
      absurd (T_not (any_from 0 N (fresh t)) f
      (any_in 0 N (fresh t) j (omega arith) (omega arith) (and_in (chained N α (suc t) i j) (not (chained N α t i j)) s z))))
      (T-cases (chained N α t i j)))))
      (T-cases (any_from 0 N (fresh t))))
      (grown t)

  -- there cannot be more than N
  all_closed : Closed N
  all_closed =
      ⊎_elim (λ (c : Closed N). c)
      (λ (h : N < reached N).
      let l = many_most N (λ j. chained N α N i j) in
      absurd (omega arith))
      (grown N)

  -- a terminal is within t of itself
  itself : (t : ℕ) → T (chained N α t i i)
  itself zero = none_in N α i
  itself (suc t) = longer t i (itself t)

  -- a chain of any number of true X has one of at most N beside it
  pub chain_short : (j : ℕ) → j < N → Chain N α i j → T (chained N α N i j)
  chain_short j l c = chain_each N α (λ j. j < N → T (chained N α N i j)) i (λ h. itself N) (λ k j h s x l. all_closed k j h l (s h) x) j c l

-- ---- labels
module _ (N : ℕ) (α : Assignment) where
  -- a chain joins a terminal's label to it, and the label is at or below every terminal that some chain joins to it
  found : (i j : ℕ) → i < N → j < N → Chain N α j i → T (chained N α N (chain_label N α i) i) × (chain_label N α i ≤ j)
  unfolding chain_label
  found i j h l c = lowest_found (λ j. chained N α N j i) N j l (chain_short N α j l i h c)

  -- the first, and the second
  pub label_chain : (i : ℕ) → i < N → Chain N α (chain_label N α i) i
  label_chain i h = (N, (found i i h h (0, none_in N α i)).0)

  pub label_lowest : (i j : ℕ) → i < N → j < N → Chain N α j i → chain_label N α i ≤ j
  label_lowest i j h l c = (found i j h l c).1

  -- so it is at or below its terminal
  pub label_low : (i : ℕ) → i < N → chain_label N α i ≤ i
  label_low i h = label_lowest i i h h (0, none_in N α i)

  -- terminals that a chain joins have one label
  at_most : (i j : ℕ) → i < N → j < N → Chain N α i j → chain_label N α j ≤ chain_label N α i
  at_most i j h l c =
      let low = label_low i h in
      label_lowest j (chain_label N α i) l (omega arith) (chain_join N α (chain_label N α i) i j (label_chain i h) c)

  pub label_same : (i j : ℕ) → i < N → j < N → Chain N α i j → chain_label N α i ≡ chain_label N α j
  label_same i j h l c =
      let a = at_most i j h l c in
      let b = at_most j i l h (chain_back N α i j l c) in
      omega arith

  -- and terminals of one label are joined by a chain
  pub same_label : (i j : ℕ) → i < N → j < N → chain_label N α i ≡ chain_label N α j → Chain N α i j
  same_label i j h l e =
      chain_join N α i (chain_label N α i) j (chain_back N α (chain_label N α i) i h (label_chain i h))
      (subst (λ (k : ℕ). Chain N α k j) (sym e) (label_chain j l))

  -- a label is its own label
  pub label_own : (i : ℕ) → i < N → chain_label N α (chain_label N α i) ≡ chain_label N α i
  label_own i h = let low = label_low i h in label_same (chain_label N α i) i (omega arith) h (label_chain i h)
