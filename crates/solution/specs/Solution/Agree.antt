-- Assignments that agree on the X and L variables: groups 1 and 2 and decoding look at no others. Assumes nothing.
use Rattle.std.specs.Prelude.{◌≡◌, refl, Bool, true, not, ◌||◌, cond, get_or}
use Rattle.std.proofs.Math.Path.{ap, ap₂}
use Rattle.std.proofs.Common.{◌∙◌, arith, eq-eqb}
use mathlib.Core.List.{List, [], ◌∷◌, ◌++◌}
use Rattle.std.proofs.Math.Logic.{⊎_elim}
use Prim.Native.Nat.{ℕ, zero, suc, ◌+◌, ◌-◌, ◌*◌, ◌≤◌, ◌<◌}
use Rattle.std.proofs.Math.Dec.{eqb}
use Rattle.std.proofs.Math.ListN.{length, replicate}
use Rattle.prelude.specs.Tests.{T-eq, eq?, le?}
use Rattle.prelude.specs.Lists.{tab, first_of, Each}
use Rattle.prelude.specs.Lists.Laws.{tab_same, each_out}
use Rattle.cnf.specs.Cnf.{Assignment, Clause, Formula, clause_holds, Sat}
use Rattle.request.specs.declared.Request.{Request}
use Rattle.request.specs.Numbers.{switches_most, Good}
use Rattle.formula.specs.Formula.{terminals, X, L, transitivity, choices, formula, formula_of}
use Rattle.formula.proofs.FormulaRange.{ClauseIn, joined_in, chosen_in, transitivity_in, choices_in}
use Rattle.formula.specs.Number.{clause_of}
use Rattle.formula.proofs.NumberLaws.{clause_good, in_nets, in_choices}
use Rattle.answer.specs.Values.{kept}
use Rattle.answer.specs.Decode.{lowest, literal_for, label_for, decoded}
use Rattle.cnf.specs.Cnf.Laws.{sat_at}
use Rattle.network.specs.Value.{terminals_most}
use Rattle.formula.specs.Count.{network_count}
use Rattle.formula.proofs.CountLaws.{network_length}
use Rattle.cnf.specs.Cnf.Parts.{Sat-split}

-- ---- tests that agree on a range
-- the first of a range at which tests that agree on it hold
first_same : (p q : ℕ → Bool) (a n : ℕ) → ((i : ℕ) → a ≤ i → i < a + n → p i ≡ q i)
    → first_of p (tab a n (λ i. i)) ≡ first_of q (tab a n (λ i. i))
unfolding first_of
first_same p q a zero h = refl
first_same p q a (suc n) h =
    ap₂ (λ (b : Bool) (k : ℕ). cond b 0 (suc k)) (h a (omega arith) (omega arith))
    (first_same p q (suc a) n (λ i l u. h i (omega arith) (omega arith)))

-- and the lowest number
lowest_same : (p q : ℕ → Bool) (c : ℕ) → ((i : ℕ) → i < c → p i ≡ q i) → lowest p c ≡ lowest q c
unfolding lowest
lowest_same p q c h = first_same p q 0 c (λ i l u. h i (omega arith))

-- ---- clauses of variables on which two assignments agree
module _ (top : ℕ) (α β : Assignment) (agree : (x : ℕ) → 1 ≤ x → x ≤ top → α x ≡ β x) where
  -- it holds of both or of none
  clause_same : (c : Clause) → ClauseIn top c → clause_holds α c ≡ clause_holds β c
  clause_same [] h = refl
  clause_same (l ∷ c) h =
      ap₂ ◌||◌ (ap (λ (b : Bool). cond l.negative (not b) b) (agree l.variable h.0.0 h.0.1)) (clause_same c h.1)

  -- a clause of a formula that one of them satisfies holds of the other
  clause_kept : (f : Formula) → Each (ClauseIn top) f → Sat β f → (k : ℕ) → k < length f → clause_holds α (get_or f k []) ≡ true
  clause_kept f e s k h =
      clause_same (get_or f k []) (each_out (ClauseIn top) f [] e k h) ∙ T-eq (clause_holds β (get_or f k [])) (sat_at β f s k h)

-- ---- a request's
module _ (q : Request) (good : Good q) (α β : Assignment) (agree : (x : ℕ) → 1 ≤ x → x ≤ kept q.n q.r → α x ≡ β x) where
  -- the clauses of groups 1 and 2
  pub groups_kept : Sat β (formula_of q) → (k : ℕ) → k < network_count q.n q.r
      → clause_holds α (clause_of q k) ≡ true
  unfolding formula_of formula
  groups_kept s k h =
      let one = Sat-split β (transitivity (terminals q.r)) _ s in
      let two = Sat-split β (choices q.n (terminals q.r) q.r) _ one.1 in
      ⊎_elim (λ (l : length (transitivity (terminals q.r)) ≤ k).
      let j : ℕ = k - length (transitivity (terminals q.r)) in
      let i : j < length (choices q.n (terminals q.r) q.r) = omega (arith, network_length q.n q.r) in
      ap (clause_holds α) (clause_good q k good ∙ in_choices q k j (omega arith) i)
      ∙ clause_kept keep α β agree (choices q.n (terminals q.r) q.r) (choices_in q.n q.r q.m keep (omega arith))
      two.0 j i)
      (λ (l : k < length (transitivity (terminals q.r))).
      ap (clause_holds α) (clause_good q k good ∙ in_nets q k l)
      ∙ clause_kept keep α β agree (transitivity (terminals q.r)) (transitivity_in q.n q.r q.m keep (omega arith))
      one.0 k l)
      (le? (length (transitivity (terminals q.r))) k)
    where
      keep : ℕ
      keep = kept q.n q.r

  -- the literals
  literal_same : (s : ℕ) → s < q.r → literal_for q.n q.r α s ≡ literal_for q.n q.r β s
  unfolding literal_for
  literal_same s h =
      lowest_same (λ v. α (L q.n (terminals q.r) s v)) (λ v. β (L q.n (terminals q.r) s v)) (2 * q.n) (λ v l.
      let w = chosen_in q.n (terminals q.r) q.r s v h l in agree (L q.n (terminals q.r) s v) w.0 w.1)

  -- the labels
  label_same : (i : ℕ) → i < terminals q.r → label_for q.r α i ≡ label_for q.r β i
  unfolding label_for
  label_same i h =
      lowest_same (λ j. eqb j i || α (X (terminals q.r) j i)) (λ j. eqb j i || β (X (terminals q.r) j i)) (i + 1) (λ j l.
      ⊎_elim (λ (e : j ≡ i). rw (eq-eqb j i e))
      (λ (d : j ≡ i → ⊥).
      let w = joined_in (terminals q.r) j i (omega arith) h d in
      ap (λ (b : Bool). eqb j i || b) (agree (X (terminals q.r) j i) w.0 (omega (arith, w.1))))
      (eq? j i))

  -- the network
  pub decoded_same : decoded q.n q.r α ≡ decoded q.n q.r β
  unfolding decoded
  decoded_same =
      ap₂
      (λ (x y : List ℕ).
      record { r = q.r; literals = x ++ replicate (switches_most - q.r) 0; labels = y ++ replicate (terminals_most - terminals q.r) 0 })
      (tab_same 0 q.r (literal_for q.n q.r α) (literal_for q.n q.r β) (λ s l u. literal_same s (omega arith)))
      (tab_same 0 (terminals q.r) (label_for q.r α) (label_for q.r β) (λ i l u. label_same i (omega arith)))
