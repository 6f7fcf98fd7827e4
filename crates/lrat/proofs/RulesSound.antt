-- A line whose hints end in the conflict follows from the clauses that stand. Assumes nothing.
use Rattle.std.specs.Prelude.{◌≡◌, refl, Bool, true, false, not, ◌||◌, cond, List, [], ◌∷◌, ℕ, ◌≤◌, T, eqb}
use Rattle.std.proofs.Common.{ap, ◌∙◌, subst, ⊎_elim, arith, eqb→eq}
use Rattle.std.proofs.Math.Option.{Option, none, some}
use Rattle.prelude.specs.Tests.{T-cases, T_of, or_cases}
use Rattle.cnf.specs.Cnf.{Assignment, Clause, literal_holds, clause_holds}
use Rattle.cnf.specs.declared.Literal.{Literal}
use Rattle.lrat.specs.declared.Found.{Found}
use Rattle.lrat.specs.declared.Found.TheVariants.{AllFalse, Unset, Other}
use Rattle.lrat.specs.Rules.{Values, unset, assign, turned, literal_value, falsified, before, found, after_found, hinted}

-- an assignment makes every clause that stands true
abbrev pub Models : Assignment → (ℕ → Bool) → (ℕ → Clause) → Type 0
Models α stands clause = (x : ℕ) → stands x ≡ true → T (clause_holds α (clause x))

-- an assignment has each value that is set
abbrev pub Agrees : Assignment → Values → Type 0
Agrees α τ = (u : ℕ) (b : Bool) → τ u ≡ some b → α u ≡ b

-- a literal with a value has it in an assignment that agrees
literal_agrees : (α : Assignment) (τ : Values) → Agrees α τ → (l : Literal) (b : Bool) → literal_value τ l ≡ some b → literal_holds α l ≡ b
literal_agrees α τ a l b e = go (τ l.variable) refl e
  where
    go : (o : Option Bool) → τ l.variable ≡ o → turned l.negative o ≡ some b → literal_holds α l ≡ b
    go none q f = cc
    go (some x) q f = ap (λ (y : Bool). cond l.negative (not y) y) (a l.variable x q) ∙ (let z : cond l.negative (not x) x ≡ b = cc in z)

-- a value that the assignment has may be set
assign_agrees : (α : Assignment) (τ : Values) (v : ℕ) (b : Bool) → Agrees α τ → α v ≡ b → Agrees α (assign τ v b)
assign_agrees α τ v b a e u c = go (eqb u v) refl
  where
    go : (t : Bool) → eqb u v ≡ t → cond t (some b) (τ u) ≡ some c → α u ≡ c
    go true q h = ap α (eqb→eq u v (T_of (eqb u v) q)) ∙ e ∙ (let z : b ≡ c = cc in z)
    go false q h = a u c h

-- a literal that does not hold, by its variable
literal_fails : (b n : Bool) → T (not (cond n (not b) b)) → b ≡ n
literal_fails true true h = refl
literal_fails true false h = absurd h
literal_fails false true h = absurd h
literal_fails false false h = refl

nor_l : (x y : Bool) → T (not (x || y)) → T (not x)
nor_l true y h = h
nor_l false y h = tt

nor_r : (x y : Bool) → T (not (x || y)) → T (not y)
nor_r true y h = absurd h
nor_r false y h = h

-- an assignment under which a clause fails agrees with its literals set false
falsified_agrees : (α : Assignment) (c : Clause) (τ : Values) → Agrees α τ → T (not (clause_holds α c)) → Agrees α (falsified τ c)
falsified_agrees α [] τ a t = a
falsified_agrees α (l ∷ c) τ a t =
    falsified_agrees α c (assign τ l.variable l.negative)
    (assign_agrees α τ l.variable l.negative a (literal_fails (α l.variable) l.negative (nor_l (literal_holds α l) (clause_holds α c) t)))
    (nor_r (literal_holds α l) (clause_holds α c) t)

-- what is found of a clause, said of an assignment that agrees and satisfies it
Says : Assignment → Found → Type 0
Says α AllFalse = ⊥
Says α (Unset v m) = α v ≡ not m
Says α Other = Unit {0}

literal_true : (b n : Bool) → T (cond n (not b) b) → b ≡ not n
literal_true true true h = absurd h
literal_true true false h = refl
literal_true false true h = refl
literal_true false false h = absurd h

before_says : (α : Assignment) (τ : Values) → Agrees α τ → (l : Literal) (c : Clause) → T (literal_holds α l || clause_holds α c)
    → (o : Option Bool) → literal_value τ l ≡ o → (f : Found) → (T (clause_holds α c) → Says α f) → Says α (before o l f)
unfolding Says
before_says α τ a l c t none e AllFalse g =
    ⊎_elim (λ y. literal_true (α l.variable) l.negative y) (λ y. absurd (g y)) (or_cases (literal_holds α l) (clause_holds α c) t)
before_says α τ a l c t none e (Unset v m) g = tt
before_says α τ a l c t none e Other g = tt
before_says α τ a l c t (some false) e f g =
    ⊎_elim (λ y. absurd (subst T (literal_agrees α τ a l false e) y)) g (or_cases (literal_holds α l) (clause_holds α c) t)
before_says α τ a l c t (some true) e f g = tt

found_says : (α : Assignment) (τ : Values) → Agrees α τ → (c : Clause) → T (clause_holds α c) → Says α (found τ c)
unfolding Says
found_says α τ a [] t = t
found_says α τ a (l ∷ c) t = before_says α τ a l c t (literal_value τ l) refl (found τ c) (found_says α τ a c)

-- the hints do not end in the conflict under values that a model of the standing clauses has
hinted_says : (α : Assignment) (stands : ℕ → Bool) (clause : ℕ → Clause) → Models α stands clause
    → (xs : List ℕ) (τ : Values) → Agrees α τ → hinted stands clause τ xs ≡ 0 → ⊥
unfolding Says
hinted_says α stands clause m [] τ a e = omega arith
hinted_says α stands clause m (x ∷ xs) τ a e =
    go (λ v k s q. hinted_says α stands clause m xs (assign τ v (not k)) (assign_agrees α τ v (not k) a s) q) (stands x) refl e
  where
    Rest : Type 0
    Rest = (v : ℕ) (k : Bool) → α v ≡ not k → hinted stands clause (assign τ v (not k)) xs ≡ 0 → ⊥

    after : Rest → (f : Found) → Says α f → after_found f (λ v k. hinted stands clause (assign τ v (not k)) xs) ≡ 0 → ⊥
    after h AllFalse s q = s
    after h (Unset v k) s q = h v k s q
    after h Other s q = omega arith

    go : Rest → (b : Bool) → stands x ≡ b → cond b (after_found (found τ (clause x)) (λ v k. hinted stands clause (assign τ v (not k)) xs)) 19 ≡ 0 → ⊥
    go h true s q = after h (found τ (clause x)) (found_says α τ a (clause x) (m x s)) q
    go h false s q = omega arith

-- so the line's clause holds in every model of the clauses that stand
pub hinted_sound : (α : Assignment) (stands : ℕ → Bool) (clause : ℕ → Clause) → Models α stands clause
    → (c : Clause) (xs : List ℕ) → hinted stands clause (falsified unset c) xs ≡ 0 → T (clause_holds α c)
hinted_sound α stands clause m c xs e =
    ⊎_elim (λ t. t)
    (λ n. absurd (hinted_says α stands clause m xs (falsified unset c) (falsified_agrees α c unset (λ u b z. cc) n) e))
    (T-cases (clause_holds α c))

-- no run of hints ends in 1, which the lines keep for "none"
pub hinted_not_one : (stands : ℕ → Bool) (clause : ℕ → Clause) (xs : List ℕ) (τ : Values) → hinted stands clause τ xs ≡ 1 → ⊥
hinted_not_one stands clause [] τ e = omega arith
hinted_not_one stands clause (x ∷ xs) τ e = go (stands x) (λ v m q. hinted_not_one stands clause xs (assign τ v (not m)) q) e
  where
    Rest : Type 0
    Rest = (v : ℕ) (m : Bool) → hinted stands clause (assign τ v (not m)) xs ≡ 1 → ⊥

    after : Rest → (f : Found) → after_found f (λ v m. hinted stands clause (assign τ v (not m)) xs) ≡ 1 → ⊥
    after h AllFalse q = omega arith
    after h (Unset v m) q = h v m q
    after h Other q = omega arith

    go : (b : Bool) → Rest → cond b (after_found (found τ (clause x)) (λ v m. hinted stands clause (assign τ v (not m)) xs)) 19 ≡ 1 → ⊥
    go true h q = after h (found τ (clause x)) q
    go false h q = omega arith

-- nor in a number above the last refusal's
pub hinted_low : (stands : ℕ → Bool) (clause : ℕ → Clause) (xs : List ℕ) (τ : Values) → hinted stands clause τ xs ≤ 24
hinted_low stands clause [] τ = omega arith
hinted_low stands clause (x ∷ xs) τ = go (stands x) (λ v m. hinted_low stands clause xs (assign τ v (not m)))
  where
    Rest : Type 0
    Rest = (v : ℕ) (m : Bool) → hinted stands clause (assign τ v (not m)) xs ≤ 24

    after : Rest → (f : Found) → after_found f (λ v m. hinted stands clause (assign τ v (not m)) xs) ≤ 24
    after h AllFalse = omega arith
    after h (Unset v m) = h v m
    after h Other = omega arith

    go : (b : Bool) → Rest → cond b (after_found (found τ (clause x)) (λ v m. hinted stands clause (assign τ v (not m)) xs)) 19 ≤ 24
    go true h = after h (found τ (clause x))
    go false h = omega arith
