-- An on row: its clauses hold of some values of W and Z exactly when a walk from the source to the sink uses at most M closed
-- switches. Assumes nothing.
use Rattle.std.specs.Prelude.{◌≡◌, refl, Bool, not, cond, ◌⊎◌, ◌≢◌, eqb, get_or}
use Rattle.std.proofs.Common.{sym, ◌∙◌, inl, inr, eqb→eq}
use Rattle.std.proofs.Math.Path.{ap, subst}
use Rattle.std.proofs.Math.Bool.{false}
use mathlib.Core.List.{List, [], ◌∷◌, ◌++◌}
use Rattle.std.proofs.Math.Logic.{⊎_elim}
use Prim.Native.Nat.{ℕ, zero, suc, ◌+◌, ◌-◌, ◌*◌, ◌≤◌, ◌<◌}
use native.Mathlib.Omega.{arith}
use Rattle.std.proofs.Math.Dec.{T, T_not, eqb_refl}
use Rattle.std.proofs.Math.ListN.{length, get_or-eq_default}
use Rattle.prelude.specs.Tests.{T-cases, eq→eqb, ne→neqb, neqb→ne, eq?, le?, or_l}
use Rattle.prelude.specs.Blocks.{for}
use Rattle.prelude.specs.Blocks.Laws.{for_last}
use Rattle.cnf.specs.Cnf.{pos, neg, Clause, Formula, Assignment, clause_holds, Sat}
use Rattle.cnf.specs.Cnf.Parts.{Sat-split, for_out, imp2, no2, Sat-join, for_in, cond_in, then_out, else_out, some_from, some_in, one_out, imp1, imp1_in, imp2_in, no2_in}
use Rattle.rows.specs.Rows.{Row}
use Rattle.rows.specs.declared.Kind.TheVariants.{On}
use Rattle.network.specs.Networks.{Net, source, sink, switch_of, other, literal_at, label_at, closed_on, Enters, Walk, DoneIf}
use Rattle.formula.specs.Formula.{terminals, X, L, W, Z, some_step, closed_step, first_step, link_step, last_step, on_row}
use Rattle.encoding.specs.Stands.{Stands, joined_in, joined_out, chosen_in, chosen_out}

-- what an on row's clauses say: step t e is the value of W(t,e), and at e = 2r+1 of Z(t)
pub record Steps (r m : ℕ) (shut : ℕ → Bool) (label : ℕ → ℕ) (step : ℕ → ℕ → Bool) : Type 0 where
  pub some : (t : ℕ) → 1 ≤ t → t ≤ m → (e : ℕ) × (1 ≤ e) × (e ≤ 2 * r + 1) × T (step t e)
  pub closed : (t e : ℕ) → 1 ≤ t → t ≤ m → 1 ≤ e → e ≤ 2 * r → T (step t e) → T (shut (switch_of e))
  pub first : (e : ℕ) → 1 ≤ e → e ≤ 2 * r + 1 → T (step 1 e) → label source ≡ label e
  pub link : (t e g : ℕ) → 1 ≤ t → t < m → 1 ≤ e → e ≤ 2 * r → 1 ≤ g → g ≤ 2 * r + 1 → T (step t e) → T (step (t + 1) g)
      → label (other e) ≡ label g
  pub last : (e : ℕ) → 1 ≤ e → e ≤ 2 * r → T (step m e) → label (other e) ≡ label (sink r)

-- the other end of an end's switch is an end
pub other_high : (r e : ℕ) → 1 ≤ e → e ≤ 2 * r → other e ≤ 2 * r
other_high r e l h = omega arith

-- ---- a walk from the steps
module _ (r m : ℕ) (shut : ℕ → Bool) (label : ℕ → ℕ) (step : ℕ → ℕ → Bool) (h : Steps r m shut label step) where
  -- step t: it enters a switch on the net of a and the walk goes on from there, or the walk has stopped before t
  take_step : (t a d : ℕ) → 1 ≤ t → t ≤ m → ((g : ℕ) → 1 ≤ g → g ≤ 2 * r + 1 → T (step t g) → label a ≡ label g)
      → ((g : ℕ) → 1 ≤ g → g ≤ 2 * r → T (step t g) → (es : List ℕ) × (length es ≤ d) × Walk r shut label (other g) es (sink r))
      → (es : List ℕ) × (length es ≤ suc d) × Walk r shut label a es (sink r)
  take_step t a d l u net rest =
      let g = h.some t l u in
      ⊎_elim
      (λ (k : g.0 ≤ 2 * r).
      let on = rest g.0 g.1 k g.3 in (
        g.0 ∷ on.0,
        omega arith,
        (
          net g.0 g.1 g.2 g.3,
          record { low = g.1; high = k; closed = h.closed t g.0 l u g.1 k g.3 },
          on.2,
        ),
      ))
      (λ (k : 2 * r < g.0).
      let e : g.0 ≡ sink r = omega (arith, g.2) in
      ([], omega arith, net g.0 g.1 g.2 g.3 ∙ ap label e))
      (le? g.0 (2 * r))

  -- on from the switch that step t enters, with d steps left
  walk_on : (d t e : ℕ) → t + d ≡ m → 1 ≤ t → 1 ≤ e → e ≤ 2 * r → T (step t e)
      → (es : List ℕ) × (length es ≤ d) × Walk r shut label (other e) es (sink r)
  walk_on zero t e p l k u x =
      ([], omega arith, h.last e k u (subst (λ (i : ℕ). T (step i e)) (let z : t ≡ m = omega arith in z) x))
  walk_on (suc d) t e p l k u x =
      take_step (t + 1) (other e) d (omega arith) (omega arith) (λ g a b y. h.link t e g l (omega arith) k u a b x y)
      (λ g a b y. walk_on d (t + 1) g (omega arith) (omega arith) a b y)

  -- from the source
  pub steps_walk : 1 ≤ m → (es : List ℕ) × (length es ≤ m) × Walk r shut label source es (sink r)
  steps_walk l =
      let x = take_step 1 source (m - 1) (omega arith) l h.first
      (λ g a b y. walk_on (m - 1) 1 g (omega arith) (omega arith) a b y) in
      (x.0, omega (arith, x.1), x.2)

-- ---- the steps of a walk
module _ (r : ℕ) (shut : ℕ → Bool) (label : ℕ → ℕ) where
  -- a walk's first end is on the net that it starts from; 2r+1 stands past its last
  walk_first : (a : ℕ) (es : List ℕ) → Walk r shut label a es (sink r) → label a ≡ label (get_or es 0 (sink r))
  walk_first a [] w = w
  walk_first a (e ∷ es) w = w.0

  -- the end at place i: there is none, or it is of a closed switch and its other end is on the net of the next
  walk_at : (a : ℕ) (es : List ℕ) (i : ℕ) → Walk r shut label a es (sink r)
      → (get_or es i (sink r) ≡ sink r)
      ⊎ (Enters r shut label (get_or es i (sink r)) × (label (other (get_or es i (sink r))) ≡ label (get_or es (suc i) (sink r))))
  walk_at a [] i w = inl refl
  walk_at a (e ∷ es) zero w = inr (w.1, walk_first (other e) es w.2)
  walk_at a (e ∷ es) (suc i) w = walk_at (other e) es i w.2

-- W(t,e) where the walk's step t enters at e, Z(t) past its last step
abbrev pub entered : ℕ → List ℕ → ℕ → ℕ → Bool
entered r es t e = eqb (get_or es (t - 1) (sink r)) e

module _ (r m : ℕ) (shut : ℕ → Bool) (label : ℕ → ℕ)
    (es : List ℕ) (short : length es ≤ m) (w : Walk r shut label source es (sink r))
    (step : ℕ → ℕ → Bool) (is : (t e : ℕ) → 1 ≤ t → t ≤ m → 1 ≤ e → e ≤ 2 * r + 1 → step t e ≡ entered r es t e) where
  -- the end of a step
  end_of : (t e : ℕ) → 1 ≤ t → t ≤ m → 1 ≤ e → e ≤ 2 * r + 1 → T (step t e) → get_or es (t - 1) (sink r) ≡ e
  end_of t e l u k h x = eqb→eq (get_or es (t - 1) (sink r)) e (subst T (is t e l u k h) x)

  -- it is one of a closed switch, and leads to the net of the next
  end_at : (t e : ℕ) → 1 ≤ t → t ≤ m → 1 ≤ e → e ≤ 2 * r → T (step t e)
      → Enters r shut label e × (label (other e) ≡ label (get_or es (suc (t - 1)) (sink r)))
  end_at t e l u k h x =
      let eq : get_or es (t - 1) (sink r) ≡ e = end_of t e l u k (omega arith) x in
      ⊎_elim (λ p. absurd (let z : e ≡ sink r = sym eq ∙ p in omega arith))
      (λ p. subst (λ (i : ℕ). Enters r shut label i × (label (other i) ≡ label (get_or es (suc (t - 1)) (sink r)))) eq p)
      (walk_at r shut label source es (t - 1) w)

  -- what stands at a step is an end, or 2r+1
  end_low : (t : ℕ) → (1 ≤ get_or es (t - 1) (sink r)) × (get_or es (t - 1) (sink r) ≤ 2 * r + 1)
  end_low t =
      ⊎_elim (λ p. (omega arith, omega arith)) (λ p. let a = p.0.low in let b = p.0.high in (a, omega arith))
      (walk_at r shut label source es (t - 1) w)

  -- values that are the steps of a walk say what the clauses say
  pub walk_steps : 1 ≤ m → Steps r m shut label step
  walk_steps some =
      record {
        some = λ t l u.
            let e : ℕ = get_or es (t - 1) (sink r) in
            let low = end_low t in
            (e, low.0, low.1, subst T (sym (is t e l u low.0 low.1)) (eqb_refl e));
        closed = λ t e l u k h x. (end_at t e l u k h x).0.closed;
        first = λ e k h x. walk_first r shut label source es w ∙ ap label (end_of 1 e (omega arith) some k h x);
        link = λ t e g l u k h a b x y.
            (end_at t e l (omega arith) k h x).1
            ∙ ap (λ (i : ℕ). label (get_or es i (sink r))) (let z : suc (t - 1) ≡ t + 1 - 1 = omega arith in z)
            ∙ ap label (end_of (t + 1) g (omega arith) (omega arith) a b y);
        last = λ e k h x.
            (end_at m e some (omega arith) k h x).1
            ∙ ap label (get_or-eq_default es (sink r) {n = suc (m - 1)} (omega arith));
      }

-- ---- the clauses of an on row, with B variables before it
module _ (n r m : ℕ) (w : Net) (α : Assignment) (stands : Stands n r w α) (B : ℕ) (row : Row) where
  -- the values of W and Z
  abbrev step : ℕ → ℕ → Bool
  step t e = α (W r B t e)

  -- what the clauses say of them
  abbrev Says : Type 0
  Says = Steps r m (closed_on row w) (label_at w) step

  -- "W(t,1)..W(t,2r) Z(t)": a clause of 2r+1 variables
  abbrev entered_at : ℕ → ℕ → Clause
  entered_at t e = pos (W r B t e) ∷ []

  -- the same as the definition has it
  abbrev some_at : ℕ → Formula
  some_at t = (for 1 (2 * r) (entered_at t) ++ (pos (Z r B t) ∷ [])) ∷ []

  -- it says that step t enters somewhere, or the walk has stopped
  some_out : Sat α (some_step r m B) → (t : ℕ) → 1 ≤ t → t ≤ m → (e : ℕ) × (1 ≤ e) × (e ≤ 2 * r + 1) × T (step t e)
  unfolding some_step
  some_out s t l u =
      let c = (for_out α 1 m some_at s t l (omega arith)).0 in
      let x = some_from α 1 (2 * r + 1) (W r B t)
      (subst (λ (c : Clause). T (clause_holds α c)) (for_last (2 * r) (entered_at t)) c) in
      (x.0, x.1, omega (arith, x.2), x.3)

  -- and holds where it does
  some_hold : Says → Sat α (some_step r m B)
  unfolding some_step
  some_hold h =
      for_in α 1 m some_at (λ t l u.
      let x = h.some t l (omega arith) in (
        subst (λ (c : Clause). T (clause_holds α c)) (sym (for_last (2 * r) (entered_at t)))
            (some_in α 1 (2 * r + 1) (W r B t) x.0 x.1 (omega (arith, x.2)) x.3),
        tt,
      ))

  -- "(−W(t,e) −L(s,v))" for a v that is 0 on the row
  abbrev not_open : ℕ → ℕ → ℕ → Formula
  not_open t e v = cond (row.value v) [] ((neg (W r B t e) ∷ neg (L n (terminals r) (switch_of e) v) ∷ []) ∷ [])

  -- for each v
  abbrev not_open_at : ℕ → ℕ → Formula
  not_open_at t e = for 0 (2 * n) (not_open t e)

  -- they say that a switch that is entered is closed
  closed_out : Sat α (closed_step n r m B row.value) → (t e : ℕ) → 1 ≤ t → t ≤ m → 1 ≤ e → e ≤ 2 * r → T (step t e)
      → T (closed_on row w (switch_of e))
  unfolding closed_step
  closed_out s t e l u k h x =
      let v : ℕ = literal_at w (switch_of e) in
      let there : switch_of e < r = omega arith in
      let low : v < 2 * n = stands.low (switch_of e) there in
      let c : Sat α (not_open_at t e) =
      for_out α 1 (2 * r) (not_open_at t) (for_out α 1 m (λ t. for 1 (2 * r) (not_open_at t)) s t l (omega arith))
      e k (omega arith) in
      let d : Sat α (not_open t e v) = for_out α 0 (2 * n) (not_open t e) c v (omega arith) (omega arith) in
      ⊎_elim (λ (y : T (row.value v)). y)
      (λ (y : T (not (row.value v))).
      absurd (no2 (step t e) (α (L n (terminals r) (switch_of e) v)) (else_out α (row.value v) _ _ d y).0 x
      (chosen_in n r w α stands (switch_of e) there)))
      (T-cases (row.value v))

  -- and hold where it is
  closed_hold : Says → Sat α (closed_step n r m B row.value)
  unfolding closed_step
  closed_hold h =
      for_in α 1 m (λ t. for 1 (2 * r) (not_open_at t)) (λ t l u. for_in α 1 (2 * r) (not_open_at t) (λ e k a.
      for_in α 0 (2 * n) (not_open t e) (λ v _ b. cond_in α (row.value v) _ _ (λ _. tt) (λ y. (
        no2_in (step t e) (α (L n (terminals r) (switch_of e) v)) (λ x z.
            let is : literal_at w (switch_of e) ≡ v = chosen_out n r w α stands (switch_of e) v (omega arith) (omega arith) z in
            T_not (row.value v) y (subst (λ (i : ℕ). T (row.value i)) is (h.closed t e l (omega arith) k (omega arith) x))),
        tt,
      )))))

  -- "(−W(1,e) X(0,e)); then (−Z(1) X(0,2r+1))": the second is the first at e = 2r+1
  abbrev first_at : ℕ → Formula
  first_at e = (neg (W r B 1 e) ∷ pos (X (terminals r) source e) ∷ []) ∷ []

  -- they say that step 1 starts on the source's net
  first_out : Sat α (first_step r B) → (e : ℕ) → 1 ≤ e → e ≤ 2 * r + 1 → T (step 1 e) → label_at w source ≡ label_at w e
  unfolding first_step
  first_out s e l u x =
      let c = for_out α 1 (2 * r + 1) first_at (subst (Sat α) (for_last (2 * r) first_at) s) e l (omega arith) in
      joined_out n r w α stands source e (omega arith) (omega arith) (omega arith) (imp1 (step 1 e) (α (X (terminals r) source e)) c.0 x)

  -- and hold where it does
  first_hold : Says → Sat α (first_step r B)
  unfolding first_step
  first_hold h =
      subst (Sat α) (sym (for_last (2 * r) first_at)) (for_in α 1 (2 * r + 1) first_at (λ e l u. (
        imp1_in (step 1 e) (α (X (terminals r) source e)) (λ x.
            joined_in n r w α stands source e (omega arith) (omega arith) (omega arith) (h.first e l (omega arith) x)),
        tt,
      )))

  -- "(−W(t,e) −W(t+1,g) X(e',g))"; at g = 2r+1 "(−W(t,e) −Z(t+1) X(e',2r+1))"
  abbrev link_to : ℕ → ℕ → ℕ → Formula
  link_to t e g = (neg (W r B t e) ∷ neg (W r B (t + 1) g) ∷ pos (X (terminals r) (other e) g) ∷ []) ∷ []

  -- for g "except e'"
  abbrev link_but : ℕ → ℕ → ℕ → Formula
  link_but t e g = cond (eqb g (other e)) [] (link_to t e g)

  -- for each g
  abbrev link_at : ℕ → ℕ → Formula
  link_at t e = for 1 (2 * r) (link_but t e) ++ link_to t e (sink r)

  -- they say that step t+1 starts on the net where step t ended
  link_out : Sat α (link_step r m B) → (t e g : ℕ) → 1 ≤ t → t < m → 1 ≤ e → e ≤ 2 * r → 1 ≤ g → g ≤ 2 * r + 1
      → T (step t e) → T (step (t + 1) g) → label_at w (other e) ≡ label_at w g
  unfolding link_step
  link_out s t e g l u k h a b x y =
      let c : Sat α (link_at t e) =
      for_out α 1 (2 * r) (link_at t) (for_out α 1 (m - 1) (λ t. for 1 (2 * r) (link_at t)) s t l (omega arith))
      e k (omega arith) in
      let two = Sat-split α (for 1 (2 * r) (link_but t e)) (link_to t e (sink r)) c in
      let clause : g ≢ other e → Sat α (link_to t e g) =
      λ d.
      ⊎_elim
      (λ (c : g ≤ 2 * r).
      else_out α (eqb g (other e)) _ _ (for_out α 1 (2 * r) (link_but t e) two.0 g a (omega arith)) (ne→neqb g (other e) d))
      (λ (c : 2 * r < g). subst (λ (i : ℕ). Sat α (link_to t e i)) (let z : sink r ≡ g = omega arith in z) two.1)
      (le? g (2 * r)) in
      ⊎_elim (λ (z : g ≡ other e). ap (label_at w) (sym z))
      (λ (d : g ≢ other e).
      joined_out n r w α stands (other e) g (omega arith) (omega arith) (λ z. d (sym z))
      (imp2 (step t e) (step (t + 1) g) (α (X (terminals r) (other e) g)) (clause d).0 x y))
      (eq? g (other e))

  -- and hold where it does
  link_hold : Says → Sat α (link_step r m B)
  unfolding link_step
  link_hold h =
      for_in α 1 (m - 1) (λ t. for 1 (2 * r) (link_at t)) (λ t l u. for_in α 1 (2 * r) (link_at t) (λ e k a.
      let high : other e ≤ 2 * r = other_high r e k (omega arith) in
      Sat-join α (for 1 (2 * r) (link_but t e)) (link_to t e (sink r))
      (for_in α 1 (2 * r) (link_but t e) (λ g b c. cond_in α (eqb g (other e)) _ _ (λ _. tt) (λ z.
      one t e g l (omega arith) k (omega arith) b (omega arith) (neqb→ne g (other e) z))))
      (one t e (sink r) l (omega arith) k (omega arith) (omega arith) (omega arith) (omega arith))))
    where
      one : (t e g : ℕ) → 1 ≤ t → t < m → 1 ≤ e → e ≤ 2 * r → 1 ≤ g → g ≤ 2 * r + 1 → g ≢ other e → Sat α (link_to t e g)
      one t e g l u k a b c d = (
        imp2_in (step t e) (step (t + 1) g) (α (X (terminals r) (other e) g)) (λ x y.
            joined_in n r w α stands (other e) g (omega arith) (omega arith) (λ z. d (sym z)) (h.link t e g l u k a b c x y)),
        tt,
      )

  -- "(−W(M,e) X(e',2r+1))"
  abbrev last_at : ℕ → Formula
  last_at e = (neg (W r B m e) ∷ pos (X (terminals r) (other e) (sink r)) ∷ []) ∷ []

  -- it says that step M ends on the sink's net
  last_out : Sat α (last_step r m B) → (e : ℕ) → 1 ≤ e → e ≤ 2 * r → T (step m e) → label_at w (other e) ≡ label_at w (sink r)
  unfolding last_step
  last_out s e l u x =
      let high = other_high r e l u in
      joined_out n r w α stands (other e) (sink r) (omega arith) (omega arith) (omega arith)
      (imp1 (step m e) (α (X (terminals r) (other e) (sink r))) (for_out α 1 (2 * r) last_at s e l (omega arith)).0 x)

  -- and holds where it does
  last_hold : Says → Sat α (last_step r m B)
  unfolding last_step
  last_hold h =
      for_in α 1 (2 * r) last_at (λ e l u. (
        imp1_in (step m e) (α (X (terminals r) (other e) (sink r))) (λ x.
            let high = other_high r e l (omega arith) in
            joined_in n r w α stands (other e) (sink r) (omega arith) (omega arith) (omega arith) (h.last e l (omega arith) x)),
        tt,
      ))

  -- the five together
  abbrev five : Formula
  five = some_step r m B ++ (closed_step n r m B row.value ++ (first_step r B ++ (link_step r m B ++ last_step r m B)))

  -- what they say
  five_out : Sat α five → Says
  five_out s =
      let a = Sat-split α (some_step r m B) _ s in
      let b = Sat-split α (closed_step n r m B row.value) _ a.1 in
      let c = Sat-split α (first_step r B) _ b.1 in
      let d = Sat-split α (link_step r m B) (last_step r m B) c.1 in
      record {
        some = some_out a.0;
        closed = closed_out b.0;
        first = first_out c.0;
        link = link_out d.0;
        last = last_out d.1;
      }

  -- and that they hold where it is so
  five_hold : Says → Sat α five
  five_hold h =
      Sat-join α (some_step r m B) _ (some_hold h)
      (Sat-join α (closed_step n r m B row.value) _ (closed_hold h)
      (Sat-join α (first_step r B) _ (first_hold h) (Sat-join α (link_step r m B) (last_step r m B) (link_hold h) (last_hold h))))

  -- where an on row's clauses hold, a walk of at most M closed switches joins the source and the sink
  pub on_walk : Sat α (on_row n r m B row.value) → DoneIf On r m (closed_on row w) (label_at w)
  unfolding on_row
  on_walk s =
      ⊎_elim
      (λ (z : m ≡ 0). (
        [],
        omega arith,
        joined_out n r w α stands source (sink r) (omega arith) (omega arith) (omega arith)
            (one_out (α (X (terminals r) source (sink r))) (then_out α (eqb m 0) _ _ s (eq→eqb m 0 z)).0),
      ))
      (λ (z : m ≢ 0).
      steps_walk r m (closed_on row w) (label_at w) step (five_out (else_out α (eqb m 0) _ _ s (ne→neqb m 0 z))) (omega arith))
      (eq? m 0)

  -- and they hold where the values of W and Z are the steps of such a walk
  pub walk_on_row : (es : List ℕ) → length es ≤ m → Walk r (closed_on row w) (label_at w) source es (sink r)
      → ((t e : ℕ) → 1 ≤ t → t ≤ m → 1 ≤ e → e ≤ 2 * r + 1 → step t e ≡ entered r es t e) → Sat α (on_row n r m B row.value)
  unfolding on_row
  walk_on_row es short v is =
      cond_in α (eqb m 0) _ _ (λ z. (or_l (α (X (terminals r) source (sink r))) false (none (eqb→eq m 0 z) es short v), tt))
      (λ z.
      let some : 1 ≤ m = omega (arith, neqb→ne m 0 z) in
      five_hold (walk_steps r m (closed_on row w) (label_at w) es short v step is some))
    where
      none : m ≡ 0 → (es : List ℕ) → length es ≤ m → Walk r (closed_on row w) (label_at w) source es (sink r)
          → T (α (X (terminals r) source (sink r)))
      none z [] k v = joined_in n r w α stands source (sink r) (omega arith) (omega arith) (omega arith) v
      none z (e ∷ es) k v = absurd (omega arith)
