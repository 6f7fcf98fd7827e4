-- A formula and a clause by their parts: joined, by an index, or by a test; and what clauses of one to three literals say, both
-- ways. Assumes nothing.
use Rattle.std.specs.Prelude.{◌≡◌, refl, Bool, true, false, not, ◌||◌, cond, [], ◌∷◌, ◌++◌, ◌⊎◌, ℕ, zero, suc, ◌+◌, ◌-◌, ◌≤◌, ◌<◌, T}
use Rattle.std.proofs.Common.{subst, inl, inr, ⊎_elim, arith}
use Rattle.prelude.specs.Tests.{or_l, or_r, or_cases, le?}
use Rattle.prelude.specs.Blocks.{each, for}
use Rattle.cnf.specs.Cnf.{pos, Clause, Formula, Assignment, literal_holds, clause_holds, Sat}

-- ---- where the whole holds
-- clauses of two formulas joined
pub Sat-split : (α : Assignment) (f g : Formula) → Sat α (f ++ g) → Sat α f × Sat α g
Sat-split α [] g h = (tt, h)
Sat-split α (c ∷ f) g h = ((h.0, (Sat-split α f g h.1).0), (Sat-split α f g h.1).1)

-- formulas by an index: each of them holds
pub each_sat : (α : Assignment) (n : ℕ) (f : ℕ → Formula) → Sat α (each n f) → (i : ℕ) → i < n → Sat α (f i)
unfolding each
each_sat α zero f h i l = absurd (omega arith)
each_sat α (suc n) f h i l =
    let two = Sat-split α (each n f) (f n) h in
    ⊎_elim (λ (g : n ≤ i). subst (λ (k : ℕ). Sat α (f k)) (let z : n ≡ i = omega arith in z) two.1)
    (λ (g : i < n). each_sat α n f two.0 i g)
    (le? n i)

-- the same from a on
pub for_out : (α : Assignment) (a n : ℕ) (f : ℕ → Formula) → Sat α (for a n f) → (i : ℕ) → a ≤ i → i < a + n → Sat α (f i)
for_out α a n f h i l u =
    subst (λ (k : ℕ). Sat α (f k)) (let z : a + (i - a) ≡ i = omega arith in z) (each_sat α n (λ j. f (a + j)) h (i - a) (omega arith))

-- a disjunction's second part taken apart
or_second : (a b c : Bool) {D : Type 0} → T (a || b) → (T b → T c ⊎ D) → T (a || c) ⊎ D
or_second true b c t f = inl tt
or_second false b c t f = f t

-- where two clauses joined hold, one of them does
pub clause_split : (α : Assignment) (c d : Clause) → T (clause_holds α (c ++ d)) → T (clause_holds α c) ⊎ T (clause_holds α d)
clause_split α [] d t = inr t
clause_split α (l ∷ c) d t = or_second (literal_holds α l) (clause_holds α (c ++ d)) (clause_holds α c) t (λ x. clause_split α c d x)

-- a clause of variables by an index holds: one of them is true
pub some_out : (α : Assignment) (n : ℕ) (g : ℕ → ℕ) → T (clause_holds α (each n (λ i. pos (g i) ∷ []))) → (i : ℕ) × (i < n) × T (α (g i))
unfolding each
some_out α zero g t = absurd t
some_out α (suc n) g t =
    ⊎_elim (λ (x : T (clause_holds α (each n (λ i. pos (g i) ∷ [])))). let w = some_out α n g x in (w.0, omega arith, w.2))
    (λ (x : T (α (g n) || false)). ⊎_elim (λ (y : T (α (g n))). (n, omega arith, y)) (λ (y : ⊥). absurd y) (or_cases (α (g n)) false x))
    (clause_split α (each n (λ i. pos (g i) ∷ [])) (pos (g n) ∷ []) t)

-- ---- and where the parts do
-- two formulas joined
pub Sat-join : (α : Assignment) (f g : Formula) → Sat α f → Sat α g → Sat α (f ++ g)
Sat-join α [] g p q = q
Sat-join α (c ∷ f) g p q = (p.0, Sat-join α f g p.1 q)

-- formulas by an index, from a on
pub for_in : (α : Assignment) (a n : ℕ) (f : ℕ → Formula) → ((i : ℕ) → a ≤ i → i < a + n → Sat α (f i)) → Sat α (for a n f)
unfolding each
for_in α a zero f h = tt
for_in α a (suc n) f h =
    Sat-join α (for a n f) (f (a + n)) (for_in α a n f (λ i l u. h i l (omega arith))) (h (a + n) (omega arith) (omega arith))

-- one of two formulas, by a test
pub cond_in : (α : Assignment) (t : Bool) (f g : Formula) → (T t → Sat α f) → (T (not t) → Sat α g) → Sat α (cond t f g)
cond_in α true f g h k = h tt
cond_in α false f g h k = k tt

-- the first of them, where the test holds
pub then_out : (α : Assignment) (t : Bool) (f g : Formula) → Sat α (cond t f g) → T t → Sat α f
then_out α true f g s h = s
then_out α false f g s h = absurd h

-- the second, where it does not
pub else_out : (α : Assignment) (t : Bool) (f g : Formula) → Sat α (cond t f g) → T (not t) → Sat α g
else_out α true f g s h = absurd h
else_out α false f g s h = s

-- a clause joined to another, before it
pub clause_left : (α : Assignment) (c d : Clause) → T (clause_holds α c) → T (clause_holds α (c ++ d))
clause_left α [] d t = absurd t
clause_left α (l ∷ c) d t = one (literal_holds α l) (clause_holds α c) (clause_holds α (c ++ d)) t (clause_left α c d)
  where
    one : (a b e : Bool) → T (a || b) → (T b → T e) → T (a || e)
    one true b e t f = tt
    one false b e t f = f t

-- and after it
pub clause_right : (α : Assignment) (c d : Clause) → T (clause_holds α d) → T (clause_holds α (c ++ d))
clause_right α [] d t = t
clause_right α (l ∷ c) d t = or_r (literal_holds α l) (clause_holds α (c ++ d)) (clause_right α c d t)

-- a clause of variables by an index, from a on: where it holds, one of them is true
pub some_from : (α : Assignment) (a n : ℕ) (g : ℕ → ℕ) → T (clause_holds α (for a n (λ i. pos (g i) ∷ [])))
    → (i : ℕ) × (a ≤ i) × (i < a + n) × T (α (g i))
some_from α a n g t = let x = some_out α n (λ i. g (a + i)) t in (a + x.0, omega arith, omega arith, x.2)

-- and it holds where one of them is
pub some_in : (α : Assignment) (a n : ℕ) (g : ℕ → ℕ) (i : ℕ) → a ≤ i → i < a + n → T (α (g i))
    → T (clause_holds α (for a n (λ i. pos (g i) ∷ [])))
unfolding each
some_in α a zero g i l u t = absurd (omega arith)
some_in α a (suc n) g i l u t =
    ⊎_elim
    (λ (h : a + n ≤ i). clause_right α (for a n (λ i. pos (g i) ∷ [])) (pos (g (a + n)) ∷ [])
    (or_l (α (g (a + n))) false (rw (let z : a + n ≡ i = omega arith in z) t)))
    (λ (h : i < a + n). clause_left α (for a n (λ i. pos (g i) ∷ [])) (pos (g (a + n)) ∷ []) (some_in α a n g i l h t))
    (le? (a + n) i)

-- ---- clauses of one to three literals
-- (−a −b c) as an implication
pub imp2 : (a b c : Bool) → T (not a || (not b || (c || false))) → T a → T b → T c
imp2 true true true h p q = tt
imp2 true true false h p q = h
imp2 true false c h p q = absurd q
imp2 false b c h p q = absurd p

-- (−a −b): not both
pub no2 : (a b : Bool) → T (not a || (not b || false)) → T a → T b → ⊥
no2 true true h p q = h
no2 true false h p q = q
no2 false b h p q = p

-- one literal alone
pub one_out : (a : Bool) → T (a || false) → T a
one_out true h = tt
one_out false h = h

-- (−a b): a implies b
pub imp1 : (a b : Bool) → T (not a || (b || false)) → T a → T b
imp1 true b h p = one_out b h
imp1 false b h p = absurd p

-- and back
pub imp1_in : (a b : Bool) → (T a → T b) → T (not a || (b || false))
imp1_in true b h = or_l b false (h tt)
imp1_in false b h = tt

-- (−a −b c): a and b imply c
pub imp2_in : (a b c : Bool) → (T a → T b → T c) → T (not a || (not b || (c || false)))
imp2_in true b c h = imp1_in b c (h tt)
imp2_in false b c h = tt

-- (−a −b): not both
pub no2_in : (a b : Bool) → (T a → T b → ⊥) → T (not a || (not b || false))
no2_in true true h = h tt tt
no2_in true false h = tt
no2_in false b h = tt

-- (−x −a b) and (−x a −b): where x is true, a is b
pub same_out : (x a b : Bool) → T (not x || (not a || (b || false))) → T (not x || (a || (not b || false))) → T x → a ≡ b
same_out true true true h g t = refl
same_out true true false h g t = absurd h
same_out true false true h g t = absurd g
same_out true false false h g t = refl
same_out false a b h g t = absurd t

-- and back
pub same_in : (x a b : Bool) → (T x → a ≡ b) → T (not x || (not a || (b || false))) × T (not x || (a || (not b || false)))
same_in true true true h = (tt, tt)
same_in true true false h = absurd (let e = h tt in let z : ◌≡◌ {A = ℕ} 0 1 = cc in omega arith)
same_in true false true h = absurd (let e = h tt in let z : ◌≡◌ {A = ℕ} 0 1 = cc in omega arith)
same_in true false false h = (tt, tt)
same_in false a b h = (tt, tt)
