-- Laws of Values: where a number of the text ends, one number of a line and one turn over its numbers, and the tests of the values
-- by index. Assumes nothing.
use Rattle.std.specs.Prelude.{◌≡◌, refl, List, [], ◌∷◌, Bool, true, false, not, ◌||◌, ℕ, zero, suc, ◌+◌, ◌-◌, ◌≤◌, ◌<◌, length, get_or, set}
use Rattle.std.proofs.Math.Path.{sym, ap, subst}
use Rattle.std.proofs.Common.{ap₂, ◌∙◌, arith}
use Rattle.std.proofs.Math.Dec.{T, eqb}
use borrow.Author.Tests.{le-leb, lt-leb, eq-eqb, ne_eqb, lt-ltb, le-ltb}
use Rattle.prelude.specs.Tests.{T-eq, T_of, not_true_false, or_r, neqb→ne, ne→neqb}
use Rattle.prelude.specs.Lists.{all_from}
use Rattle.prelude.specs.Lists.Laws.{all_in, all_out}
use Rattle.cnf.specs.Cnf.{Assignment, Clause, pos, literal_holds, clause_holds}
use Rattle.cnf.specs.declared.Literal.{Literal}
use Rattle.formula.specs.Clause.{run}
use Rattle.formula.proofs.ClauseLaws.{run_length_lem, run_at}
use Rattle.formula.specs.Number.{clause_of}
use Rattle.request.specs.declared.Request.{Request}
use Rattle.numeral.specs.Number.{Read, byte_at, literal_at}
use Rattle.numeral.specs.Number.Laws.{byte_past}
use Rattle.answer.specs.Values.{Named, named, refused_by, kept_by, named_from, complete, assigned, holding}

-- ---- one number of a line
module _ (top keep : ℕ) (values : List ℕ) (x : ℕ) where
  -- a variable above top
  pub refused_above : top < x → true ≡ refused_by top keep values x
  unfolding refused_by
  refused_above h = sym (rw (lt-ltb top x h))

  -- a variable whose value is not kept
  pub refused_other : x ≤ top → keep < x → false ≡ refused_by top keep values x
  unfolding refused_by
  refused_other h l = sym (rw (le-ltb top x h, lt-leb x keep l))

  -- any other, which must not be named before
  pub refused_again : x ≤ top → x ≤ keep → not (eqb (get_or values (x - 1) 0) 0) ≡ refused_by top keep values x
  unfolding refused_by
  refused_again h l = sym (rw (le-ltb top x h, le-leb x keep l))

-- a value that is kept, and one that is not
module _ (keep : ℕ) (values : List ℕ) (x minus : ℕ) where
  pub kept_in : x ≤ keep → set values (x - 1) (1 + minus) ≡ kept_by keep values x minus
  unfolding kept_by
  kept_in h = sym (rw (le-leb x keep h))

  pub kept_out : keep < x → values ≡ kept_by keep values x minus
  unfolding kept_by
  kept_out h = sym (rw (lt-leb x keep h))

-- ---- one turn over the numbers of a line
module _ (f top keep : ℕ) (t : List ℕ) (p : ℕ) (values : List ℕ) (w : Read) (read : w ≡ literal_at t (p + 1)) where
  abbrev rest : ℕ → Named
  rest g = named_from g top keep t p values

  one_more : 0 < f → rest (suc (f - 1)) ≡ rest f
  one_more h = ap rest (let z : suc (f - 1) ≡ f = omega arith in z)

  -- the 0 at the end
  pub name_zero : 0 < f → w.value ≡ 0 → named false values ≡ named_from f top keep t p values
  unfolding named_from
  name_zero h e = sym (rw (← read, eq-eqb w.value 0 e)) ∙ one_more h

  module _ (r : Bool) (done : r ≡ refused_by top keep values w.value) (d : w.value ≡ 0 → ⊥) where
    -- a number that is refused
    pub name_refused : 0 < f → r ≡ true → named true values ≡ named_from f top keep t p values
    unfolding named_from
    name_refused h e = sym (rw (← read, ne_eqb w.value 0 d, sym done ∙ e)) ∙ one_more h

    -- the last number, where a newline follows; k are the values after it
    pub name_last : (k : List ℕ) → 0 < f → r ≡ false → k ≡ kept_by keep values w.value w.minus → (b : ℕ) → b ≡ byte_at t w.next → b ≡ 10
        → named false k ≡ named_from f top keep t p values
    unfolding named_from
    name_last k h e c b g l =
        ap (named false) c ∙ sym (rw (← read, ne_eqb w.value 0 d, sym done ∙ e, ← g, eq-eqb b 10 l)) ∙ one_more h

    -- a number that others follow
    pub name_more : (k : List ℕ) → 0 < f → r ≡ false → k ≡ kept_by keep values w.value w.minus → (b : ℕ) → b ≡ byte_at t w.next
        → (b ≡ 10 → ⊥) → named_from (f - 1) top keep t w.next k ≡ named_from f top keep t p values
    unfolding named_from
    name_more k h e c b g l =
        ap (named_from (f - 1) top keep t w.next) c
        ∙ sym (rw (← read, ne_eqb w.value 0 d, sym done ∙ e, ← g, ne_eqb b 10 l)) ∙ one_more h

-- no more numbers
pub name_none : (f top keep : ℕ) (t : List ℕ) (p : ℕ) (values : List ℕ) → f ≡ 0 → named false values ≡ named_from f top keep t p values
unfolding named_from
name_none f top keep t p values e = rw e refl

-- ---- all named
-- a value that is missing
pub complete_not : (keep : ℕ) (values : List ℕ) (i : ℕ) → i < keep → get_or values i 0 ≡ 0 → false ≡ complete keep values
unfolding complete
complete_not keep values i l e =
    sym (not_true_false (all_from 0 keep (λ i. not (eqb (get_or values i 0) 0))) (λ t.
    neqb→ne (get_or values i 0) 0 (all_out 0 keep (λ i. not (eqb (get_or values i 0) 0)) (T_of _ t) i (omega arith) (omega arith)) e))

-- none missing
pub complete_all : (keep : ℕ) (values : List ℕ) → ((i : ℕ) → i < keep → get_or values i 0 ≡ 0 → ⊥) → true ≡ complete keep values
unfolding complete
complete_all keep values h =
    sym (T-eq (all_from 0 keep (λ i. not (eqb (get_or values i 0) 0)))
    (all_in 0 keep (λ i. not (eqb (get_or values i 0) 0)) (λ i l u. ne→neqb (get_or values i 0) 0 (h i (omega arith)))))

-- ---- the value of a variable
module _ (values : List ℕ) (x : ℕ) where
  -- a variable past the end, by its place
  pub assigned_past : (i : ℕ) → i ≡ x - 1 → length values ≤ i → false ≡ assigned values x
  unfolding assigned
  assigned_past i e h = sym (ne_eqb (get_or values (x - 1) 0) 1 (λ z. omega (arith, byte_past values (x - 1) (omega arith))))

  -- any other
  pub assigned_at : (i : ℕ) → i ≡ x - 1 → eqb (get_or values i 0) 1 ≡ assigned values x
  unfolding assigned
  assigned_at i e = ap (λ (k : ℕ). eqb (get_or values k 0) 1) e

-- ---- literals and clauses
or_false : (b : Bool) → b ≡ (b || false)
or_false true = refl
or_false false = refl

module _ (α : Assignment) where
  -- a literal with a minus
  pub holds_negative : (l : Literal) (b : Bool) → b ≡ α l.variable → l.negative ≡ true → not b ≡ literal_holds α l
  holds_negative l b e h = sym (rw (h, ← e))

  -- a literal without
  pub holds_plain : (l : Literal) (b : Bool) → b ≡ α l.variable → l.negative ≡ false → b ≡ literal_holds α l
  holds_plain l b e h = sym (rw (h, ← e))

  -- a clause of one literal
  pub holds_one : (x : Literal) (a : Bool) → a ≡ literal_holds α x → a ≡ clause_holds α (x ∷ [])
  holds_one x a e = e ∙ or_false (literal_holds α x)

  -- the first literal holds
  pub holds_first : (x : Literal) (c : Clause) (a : Bool) → a ≡ literal_holds α x → a ≡ true → true ≡ clause_holds α (x ∷ c)
  holds_first x c a e h = sym (ap (λ (b : Bool). b || clause_holds α c) (sym e ∙ h))

  -- or does not
  pub holds_next : (x : Literal) (c : Clause) (a b : Bool) → a ≡ literal_holds α x → a ≡ false → b ≡ clause_holds α c
      → b ≡ clause_holds α (x ∷ c)
  holds_next x c a b e h g = g ∙ sym (ap (λ (b : Bool). b || clause_holds α c) (sym e ∙ h))

  -- a literal that holds, by index
  holds_at_lem : (c : Clause) (d : Literal) (i : ℕ) → i < length c → literal_holds α (get_or c i d) ≡ true → clause_holds α c ≡ true
  holds_at_lem [] d i l e = absurd (omega arith)
  holds_at_lem (x ∷ c) d zero l e = ap (λ (b : Bool). b || clause_holds α c) e
  holds_at_lem (x ∷ c) d (suc i) l e =
      T-eq (literal_holds α x || clause_holds α c)
      (or_r (literal_holds α x) (clause_holds α c) (T_of (clause_holds α c) (holds_at_lem c d i (omega arith) e)))

  -- none that holds
  holds_none : (c : Clause) (d : Literal) → ((i : ℕ) → i < length c → literal_holds α (get_or c i d) ≡ false) → clause_holds α c ≡ false
  holds_none [] d h = refl
  holds_none (x ∷ c) d h = ap₂ ◌||◌ (h 0 (omega arith)) (holds_none c d (λ i l. h (suc i) (omega arith)))

  -- a variable of a run that is true
  pub run_true : (first count i : ℕ) (b : Bool) → i < count → b ≡ α (first + i) → b ≡ true → true ≡ clause_holds α (run first count)
  run_true first count i b l e h =
      sym (holds_at_lem (run first count) (pos 0) i (omega (arith, run_length_lem first count))
      (ap (literal_holds α) (run_at first count i (pos 0) l) ∙ sym e ∙ h))

  -- none that is
  pub run_false : (first count : ℕ) → ((i : ℕ) → i < count → α (first + i) ≡ false) → false ≡ clause_holds α (run first count)
  run_false first count h =
      sym (holds_none (run first count) (pos 0) (λ i l.
      let k : i < count = omega (arith, run_length_lem first count) in
      ap (literal_holds α) (run_at first count i (pos 0) k) ∙ h i k))

-- ---- the clauses of a request
module _ (q : Request) (count : ℕ) (values : List ℕ) where
  abbrev holds_at : ℕ → Bool
  holds_at k = clause_holds (assigned values) (clause_of q k)

  -- a clause that fails
  pub holding_not : (k : ℕ) (x : Clause) (b : Bool) → k < count → x ≡ clause_of q k → b ≡ clause_holds (assigned values) x → b ≡ false
      → false ≡ holding q count values
  unfolding holding
  holding_not k x b l g e h =
      sym (not_true_false (all_from 0 count holds_at) (λ t.
      subst T (sym (e ∙ ap (clause_holds (assigned values)) g) ∙ h) (all_out 0 count holds_at (T_of _ t) k (omega arith) (omega arith))))

  -- a clause that holds
  pub holding_one : (k : ℕ) (x : Clause) (b : Bool) → x ≡ clause_of q k → b ≡ clause_holds (assigned values) x → b ≡ true
      → clause_holds (assigned values) (clause_of q k) ≡ true
  holding_one k x b g e h = sym (e ∙ ap (clause_holds (assigned values)) g) ∙ h

  -- every clause holds
  pub holding_all : ((k : ℕ) → k < count → clause_holds (assigned values) (clause_of q k) ≡ true) → true ≡ holding q count values
  unfolding holding
  holding_all h = sym (T-eq (all_from 0 count holds_at) (all_in 0 count holds_at (λ k l u. T_of (holds_at k) (h k (omega arith)))))
