-- The values that a line of every variable names: those of the assignment, for the X and L variables. Assumes nothing.
use Rattle.std.specs.Prelude.{◌≡◌, Bool, not, cond, List, ◌++◌, ◌⊎◌, set}
use Rattle.std.proofs.Math.Path.{refl, ap}
use Rattle.std.proofs.Common.{sym, ◌∙◌, inl, inr, add-one, eq-eqb}
use Rattle.std.proofs.Math.Bool.{true, false}
use Prim.Native.Nat.{ℕ, zero, suc, ◌+◌, ◌-◌, ◌≤◌, ◌<◌}
use native.Mathlib.Omega.{arith}
use Rattle.std.proofs.Math.Dec.{eqb}
use Rattle.std.proofs.Math.ListN.{get_or, replicate, get_or-append}
use Rattle.std.proofs.Math.Seq.{get_or_at}
use Rattle.prelude.specs.Tests.{le?}
use Rattle.prelude.specs.Lists.{tab, Each}
use Rattle.prelude.specs.Lists.Laws.{length_tab, get_d_tab}
use Rattle.cnf.specs.Cnf.{Assignment, pos, neg}
use Rattle.cnf.specs.declared.Literal.{Literal}
use Rattle.answer.specs.Values.{named, refused_by, kept_by, named_from, complete, assigned}
use Rattle.answer.proofs.ValuesLaws.{refused_other, refused_again, kept_in, kept_out, complete_all}
use Rattle.answer.specs.Decode.Laws.{fill_more}
use Rattle.formula.specs.Count.{values_most}
use Rattle.solution.specs.Solution.{truth, truths}
use Rattle.solution.specs.Solution.Numerals.{minus_of, end_of, Short}
use Rattle.solution.specs.Solution.Line.{Spaced, line_after_lem, named_after, named_end}

-- a true literal's variable is the number that it is the literal of
truth_variable : (α : Assignment) (x : ℕ) → (truth α x).variable ≡ x
truth_variable α x = go (α x)
  where
    go : (b : Bool) → (cond b (pos x) (neg x)).variable ≡ x
    go true = refl
    go false = refl

-- all are short
pub truths_short : (α : Assignment) (a n : ℕ) → 0 < a → a + n ≤ 1000000000 → Each Short (tab a n (truth α))
truths_short α a zero h l = tt
truths_short α a (suc n) h l =
    let v = truth_variable α a in
    ((omega arith, omega arith), truths_short α (suc a) n (omega arith) (omega arith))

module _ (α : Assignment) where
  -- the value of the variable after i: 1 true, 2 false
  abbrev value_at : ℕ → ℕ
  value_at i = 1 + minus_of (truth α (suc i))

  -- the values once those of the variables 1 to k are named
  unfoldable pub values_to : ℕ → List ℕ
  values_to k = tab 0 k value_at ++ replicate (values_most - k) 0

  -- none yet
  pub values_none : replicate values_most 0 ≡ values_to 0
  unfolding values_to
  values_none = refl

  -- the next is unnamed
  next_unnamed : (k : ℕ) → k < values_most → get_or (values_to k) k 0 ≡ 0
  unfolding values_to
  next_unnamed k h =
      let z : values_most - k ≡ suc (values_most - (k + 1)) = omega arith in
      ap (λ (z : ℕ). get_or (tab 0 k value_at ++ replicate z 0) k 0) z
      ∙ get_or_at (tab 0 k value_at) 0 (replicate (values_most - (k + 1)) 0) 0 k (length_tab 0 k value_at)

  -- one more
  next_named : (k : ℕ) → k < values_most → set (values_to k) k (value_at k) ≡ values_to (suc k)
  unfolding values_to
  next_named k h = fill_more value_at values_most k h ∙ ap (λ (z : ℕ). tab 0 z value_at ++ replicate (values_most - z) 0) (add-one k)

  -- a value by its index
  value_named : (keep i : ℕ) → i < keep → get_or (values_to keep) i 0 ≡ value_at i
  unfolding values_to
  value_named keep i h =
      let n = length_tab 0 keep value_at in
      get_or-append (tab 0 keep value_at) (replicate (values_most - keep) 0) 0 i (omega arith)
      ∙ get_d_tab 0 keep value_at i 0 h ∙ ap value_at (let z : 0 + i ≡ i = omega arith in z)

  -- none is missing
  pub values_complete : (keep : ℕ) → true ≡ complete keep (values_to keep)
  values_complete keep = complete_all keep (values_to keep) (λ i h e. let v = value_named keep i h in omega arith)

  -- they are the assignment's
  pub values_agree : (keep x : ℕ) → 1 ≤ x → x ≤ keep → assigned (values_to keep) x ≡ α x
  unfolding assigned
  values_agree keep x l h =
      ap (λ (v : ℕ). eqb v 1) (value_named keep (x - 1) (omega arith))
      ∙ ap (λ (k : ℕ). eqb (1 + minus_of (truth α k)) 1) (let z : suc (x - 1) ≡ x = omega arith in z) ∙ go (α x)
    where
      go : (b : Bool) → eqb (1 + minus_of (cond b (pos x) (neg x))) 1 ≡ b
      go true = refl
      go false = refl

  module _ (top keep : ℕ) (small : keep ≤ values_most) (fits : keep ≤ top) where
    -- c values are kept of the k variables that are named
    abbrev Kept : ℕ → ℕ → Type 0
    Kept k c = ((k ≤ keep) × (c ≡ k)) ⊎ ((keep ≤ k) × (c ≡ keep))

    -- the next variable is taken
    record Taken (k c : ℕ) : Type 0 where
      now : ℕ
      kept : Kept (suc k) now
      passes : false ≡ refused_by top keep (values_to c) (suc k)
      step : values_to now ≡ kept_by keep (values_to c) (suc k) (minus_of (truth α (suc k)))

    -- each is
    next_taken : (k c : ℕ) → k < top → Kept k c → Taken k c
    next_taken k c h s = go (le? (suc k) keep) s
      where
        low : (c ≡ k) → suc k ≤ keep → Taken k c
        low e l =
            let z : suc k - 1 ≡ k = omega arith in
            record {
              now = suc k;
              kept = inl (l, refl);
              passes = rw e (
                  ap not (sym (eq-eqb (get_or (values_to k) (suc k - 1) 0) 0 (ap (λ (i : ℕ). get_or (values_to k) i 0) z ∙ next_unnamed k (omega arith))))
                  ∙ refused_again top keep (values_to k) (suc k) h l);
              step = rw e (
                  sym (next_named k (omega arith)) ∙ ap (λ (i : ℕ). set (values_to k) i (value_at k)) (sym z)
                  ∙ kept_in keep (values_to k) (suc k) (minus_of (truth α (suc k))) l);
            }

        high : (c ≡ keep) → keep < suc k → Taken k c
        high e l =
            record {
              now = keep;
              kept = inr (omega arith, refl);
              passes = rw e (refused_other top keep (values_to keep) (suc k) h l);
              step = rw e (kept_out keep (values_to keep) (suc k) (minus_of (truth α (suc k))) l);
            }

        go : (suc k ≤ keep) ⊎ (keep < suc k) → Kept k c → Taken k c
        go (inl l) (inl w) = low w.1 l
        go (inl l) (inr w) = let o = w.0 in absurd (omega arith)
        go (inr l) (inl w) = let o = w.0 in let e = w.1 in high (omega arith) l
        go (inr l) (inr w) = high w.1 l

    -- so the line of the variables after k is
    named_line : (t : List ℕ) (n k c f p : ℕ) → k + n ≡ top → Kept k c → n < f → Each Short (tab (suc k) n (truth α))
        → Spaced t p (tab (suc k) n (truth α)) → named false (values_to keep) ≡ named_from f top keep t p (values_to c)
    named_line t n k c zero p e s l d h = absurd (omega arith)
    named_line t zero k c (suc f) p e s l d h =
        ap (λ (i : ℕ). named false (values_to i)) (all s) ∙ named_end t p h f top keep (values_to c)
      where
        all : Kept k c → keep ≡ c
        all (inl w) = let o = w.0 in let z = w.1 in omega arith
        all (inr w) = sym w.1
    named_line t (suc n) k c (suc f) p e s l d h =
        let r : Taken k c = next_taken k c (omega arith) s in
        let v : Literal = truth α (suc k) in
        let ls : List Literal = tab (suc (suc k)) n (truth α) in
        named_line t n (suc k) r.now f (end_of (p + 1) v) (omega arith) r.kept (omega arith) d.1
        (line_after_lem t p v ls d.0 h)
        ∙ named_after t p v ls d.0 h f top keep (values_to c) (values_to r.now)
        (r.passes ∙ ap (refused_by top keep (values_to c)) (sym (truth_variable α (suc k))))
        (r.step ∙ ap (λ (x : ℕ). kept_by keep (values_to c) x (minus_of v)) (sym (truth_variable α (suc k))))

    -- and so is the whole line
    pub values_line : (t : List ℕ) (f p : ℕ) → top < f → top < 1000000000 → Spaced t p (truths top α)
        → named false (values_to keep) ≡ named_from f top keep t p (values_to 0)
    values_line t f p l b h =
        named_line t top 0 0 f p (omega arith) (inl (omega arith, refl)) l (truths_short α 1 top (omega arith) (omega arith)) h
