-- "none" means that the formula is unsatisfiable. Assumes nothing.
use Rattle.std.specs.Prelude.{◌≡◌, Bool, not, ◌&&◌, cond, ◌⊎◌, T, eqb, leb, get_or, Some, None}
use Rattle.std.proofs.Math.Path.{refl}
use Rattle.std.proofs.Common.{Option, sym, ap, ◌∙◌, subst, inl, inr, eq-eqb, ne_eqb, le-leb}
use Rattle.std.proofs.Math.Bool.{true, false}
use mathlib.Core.List.{List, [], ◌∷◌}
use Rattle.std.proofs.Math.Option.{Option as Maybe}
use Prim.Native.Nat.{ℕ, zero, suc, ◌+◌, ◌-◌, ◌≤◌, ◌<◌}
use native.Mathlib.Omega.{arith}
use Rattle.std.proofs.Math.Dec.{ltb}
use Rattle.std.proofs.Math.ListN.{length}
use Rattle.std.proofs.lemmas.Bool.{lt-leb}
use Rattle.prelude.specs.Tests.{eq?, le?}
use Rattle.cnf.specs.Cnf.{Assignment, Clause, Formula, clause_holds, Satisfiable}
use Rattle.cnf.specs.Cnf.Laws.{sat_at}
use Rattle.lrat.specs.Rules.{unset, falsified, literals_good}
use Rattle.lrat.proofs.RulesSound.{Models, hinted_sound, hinted_not_one}
use Rattle.lrat.specs.Words.{literals_at, ids_at, Line, no_line, addition, deletion, line_at}
use Rattle.added.specs.Record.{Room, fits, offset_of, length_of, emptied, first_with}
use Rattle.added.proofs.RecordLaws.{fits_room, recorded_length, recorded_offset, recorded_size, recorded_offset_here, emptied_length, emptied_offset, emptied_was, with_less, with_room, first_emptied, first_recorded}
use Rattle.lrat.specs.State.{stands_in, Standing, clause_at, last_id, hints_of, deleted, emptied_at, without, delete_all}
use Rattle.lrat.proofs.StateLaws.{stands_original, stands_added, stands_found, stands_named}
use Rattle.lrat.specs.Check.{Left, left, stop, is_empty, pushed, concluded, add_step, delete_step, step_of, line_step, on_left, lines_from, lines_of}

module _ (F : Formula) (t : List ℕ) (variables : ℕ) (α : Assignment) where
  -- α makes every clause that stands true
  abbrev ModelOf : ℕ → List ℕ → Type 0
  ModelOf a added = Models α (stands_in (length F) a added) (clause_at F t a added)

  -- an original clause, and an added one by its record
  of_formula : (a : ℕ) (added : List ℕ) (x : ℕ) → x ≤ length F → clause_at F t a added x ≡ get_or F (x - 1) []
  unfolding clause_at
  of_formula a added x h = rw (le-leb x (length F) h)

  of_text : (a : ℕ) (added : List ℕ) (x k : ℕ) → length F < x → Some k ≡ first_with a added x → literals_at t (offset_of added k - 1) ≡ clause_at F t a added x
  unfolding clause_at
  of_text a added x k h e = rw (lt-leb x (length F) h, ← e)

  -- a clause that stands after a change holds where it was an original one, or its record is that of one that stood, at the same place
  same_models : (a b : ℕ) (l m : List ℕ) → ModelOf a l → (x : ℕ) → true ≡ stands_in (length F) b m x
      → ((k : ℕ) → length F < x → Standing b m x k → T (clause_holds α (literals_at t (offset_of m k - 1)))) → T (clause_holds α (clause_at F t b m x))
  same_models a b l m g x e later = go (le? x (length F))
    where
      go : (x ≤ length F) ⊎ (length F < x) → T (clause_holds α (clause_at F t b m x))
      go (inl h) =
          subst (λ (c : Clause). T (clause_holds α c)) (of_formula a l x h ∙ sym (of_formula b m x h))
          (g x (sym (stands_original (length F) a l x (stands_named (length F) b m x e) h)))
      go (inr h) =
          let s = stands_found (length F) b m x e h in
          subst (λ (c : Clause). T (clause_holds α c)) (of_text b m x s.0 h s.1.found) (later s.0 h s.1)

  -- a record of a clause that stood, at the same place
  stood : (a : ℕ) (l m : List ℕ) → ModelOf a l → (x k : ℕ) → length F < x → Some k ≡ first_with a l x → (length_of l k ≡ 0 → ⊥) → offset_of m k ≡ offset_of l k
      → T (clause_holds α (literals_at t (offset_of m k - 1)))
  stood a l m g x k h e d o =
      subst (λ (c : Clause). T (clause_holds α c)) (sym (ap (λ (i : ℕ). literals_at t (i - 1)) o ∙ of_text a l x k h e))
      (g x (sym (stands_added (length F) a l x h k e d)))

  -- a deletion leaves what stands true
  emptied_models : (a : ℕ) (added : List ℕ) (k : ℕ) → Room (k + 1) added → ModelOf a added → ModelOf a (emptied added k)
  emptied_models a added k room g x e =
      same_models a a added (emptied added k) g x (sym e)
      (λ j h s. stood a added (emptied added k) g x j h (s.found ∙ first_emptied a added k x) (emptied_was added k room j s.long) (emptied_offset added k j))

  -- before and after each step: the records are inside their slice, and α makes every clause that stands true
  pub record Modelled (a : ℕ) (added : List ℕ) : Type 0 where
    pub room : Room a added
    pub models : ModelOf a added

  without_modelled : (a : ℕ) (added : List ℕ) (y : ℕ) → Modelled a added → Modelled a (without (length F) a added y)
  unfolding without
  without_modelled a added y k = go (leb y (length F)) (first_with a added y) refl
    where
      go : (b : Bool) (o : Option ℕ) → o ≡ first_with a added y → Modelled a (cond b added (emptied_at added o))
      go true o e = k
      go false None e = k
      go false (Some j) e =
          record {
            room = omega (arith, k.room, emptied_length added j);
            models = emptied_models a added j (with_room added a y j e) k.models;
          }

  deleted_modelled : (a : ℕ) (ys added : List ℕ) → Modelled a added → Modelled a (delete_all (length F) a added ys).added
  unfolding delete_all
  deleted_modelled a [] added k = k
  deleted_modelled a (y ∷ ys) added k =
      go (stands_in (length F) a added y) (deleted_modelled a ys (without (length F) a added y) (without_modelled a added y k))
    where
      go : (b : Bool) → Modelled a (delete_all (length F) a (without (length F) a added y) ys).added
          → Modelled a (cond b (delete_all (length F) a (without (length F) a added y) ys) (deleted 19 added)).added
      go true rest = rest
      go false rest = k

  -- a clause that follows may be added
  pushed_modelled : (a : ℕ) (added : List ℕ) (id at end : ℕ) → Room (a + 1) added → Modelled a added → T (clause_holds α (literals_at t at))
      → Modelled (a + 1) (pushed added a id at end)
  pushed_modelled a added id at end room k holds =
      record {
        room = omega (arith, room, recorded_length added a id (at + 1) (end - (at + 1)));
        models = λ x e. same_models a (a + 1) added new k.models x (sym e) (λ j h s. later x j h s (first_recorded a added id (at + 1) (end - (at + 1)) x j room s.found));
      }
    where
      new : List ℕ
      new = pushed added a id at end

      later : (x j : ℕ) → length F < x → Standing (a + 1) new x j → ((j < a) × (Some j ≡ first_with a added x)) ⊎ ((j ≡ a) × (id ≡ x))
          → T (clause_holds α (literals_at t (offset_of new j - 1)))
      later x j h s (inl (l, f)) =
          let d : j ≡ a → ⊥ = λ e. omega arith in
          stood a added new k.models x j h f (λ z. s.long (recorded_size added a id (at + 1) (end - (at + 1)) j d ∙ z)) (recorded_offset added a id (at + 1) (end - (at + 1)) j d)
      later x j h s (inr (e, q)) =
          let o : offset_of new j ≡ at + 1 = ap (offset_of new) e ∙ recorded_offset_here added a id (at + 1) (end - (at + 1)) room in
          subst (λ (c : Clause). T (clause_holds α c)) (ap (literals_at t) (let z : at ≡ offset_of new j - 1 = omega (arith, o) in z)) holds

  -- what a line leaves: not "none", and where the check goes on, α is a model still
  pub record Says (l : Left) : Type 0 where
    pub not_none : l.code ≡ 1 → ⊥
    pub modelled : l.code ≡ 0 → Modelled l.a l.added

  refused : (k a : ℕ) (added : List ℕ) → (k ≡ 0 → ⊥) → (k ≡ 1 → ⊥) → Says (stop k a added)
  refused k a added d e = record { not_none = e; modelled = λ z. absurd (d z) }

  -- the empty clause has no literal that could hold
  empty_none : (c : Clause) → is_empty c ≡ true → T (clause_holds α c) → ⊥
  empty_none [] e h = h
  empty_none (l ∷ c) e h = let z : ◌≡◌ {A = ℕ} 0 1 = cc in omega arith

  deleted_not_one : (a : ℕ) (ys added : List ℕ) → (delete_all (length F) a added ys).code ≡ 1 → ⊥
  unfolding delete_all
  deleted_not_one a [] added e = omega arith
  deleted_not_one a (y ∷ ys) added e = go (stands_in (length F) a added y) (deleted_not_one a ys (without (length F) a added y)) e
    where
      go : (b : Bool) → ((delete_all (length F) a (without (length F) a added y) ys).code ≡ 1 → ⊥)
          → (cond b (delete_all (length F) a (without (length F) a added y) ys) (deleted 19 added)).code ≡ 1 → ⊥
      go true rest x = rest x
      go false rest x = omega arith

  -- no run of hints ends in 1
  hints_not_one : (a : ℕ) (added : List ℕ) (τ : ℕ → Maybe Bool) (p : ℕ) → hints_of F t a added τ p ≡ 1 → ⊥
  unfolding hints_of
  hints_not_one a added τ p = hinted_not_one (stands_in (length F) a added) (clause_at F t a added) (ids_at t p) τ

  concluded_says : (a : ℕ) (added : List ℕ) (id at end hints next : ℕ) → Modelled a added
      → (b : Bool) → is_empty (literals_at t at) ≡ b → (not b && not (fits (a + 1) added)) ≡ false
      → Says (concluded (hints_of F t a added (falsified unset (literals_at t at)) hints) b a added id at end next)
  unfolding concluded hints_of
  concluded_says a added id at end hints next k b z room = go (eq? h 0) b z room
    where
      h : ℕ
      h = hints_of F t a added (falsified unset (literals_at t at)) hints

      holds : h ≡ 0 → T (clause_holds α (literals_at t at))
      holds e = hinted_sound α (stands_in (length F) a added) (clause_at F t a added) k.models (literals_at t at) (ids_at t hints) e

      there : (b : Bool) → not b ≡ false → true ≡ b
      there true y = refl
      there false y = cc

      go : (h ≡ 0) ⊎ (h ≡ 0 → ⊥) → (b : Bool) → is_empty (literals_at t at) ≡ b → (not b && not (fits (a + 1) added)) ≡ false
          → Says (cond (eqb h 0) (cond b (stop 1 a added) (left 0 (a + 1) next (pushed added a id at end))) (stop h a added))
      go (inl e) true z room = absurd (empty_none (literals_at t at) z (holds e))
      go (inl e) false z room =
          rw (eq-eqb h 0 e) (record { not_none = λ y. omega arith; modelled = λ _. pushed_modelled a added id at end (fits_room (a + 1) added (there (fits (a + 1) added) room)) k (holds e) })
      go (inr d) b z room = rw (ne_eqb h 0 d) (refused h a added d (hints_not_one a added (falsified unset (literals_at t at)) hints))

  step_says : (a : ℕ) (added : List ℕ) (l : Line) → Modelled a added → Says (step_of F t variables a added l)
  unfolding step_of add_step delete_step
  step_says a added no_line k = refused 16 a added (λ e. omega arith) (λ e. omega arith)
  step_says a added (deletion at next) k =
      record { not_none = deleted_not_one a (ids_at t at) added; modelled = λ _. deleted_modelled a (ids_at t at) added k }
  step_says a added (addition id at end hints next) k =
      by_id (ltb (last_id (length F) a added) id)
    where
      place : (b : Bool) → (not (is_empty (literals_at t at)) && not (fits (a + 1) added)) ≡ b
          → Says (cond b (stop 22 a added) (concluded (hints_of F t a added (falsified unset (literals_at t at)) hints) (is_empty (literals_at t at)) a added id at end next))
      place true e = refused 22 a added (λ y. omega arith) (λ y. omega arith)
      place false e = concluded_says a added id at end hints next k (is_empty (literals_at t at)) refl e

      lits : (b : Bool) → Says (cond b (cond (not (is_empty (literals_at t at)) && not (fits (a + 1) added)) (stop 22 a added)
          (concluded (hints_of F t a added (falsified unset (literals_at t at)) hints) (is_empty (literals_at t at)) a added id at end next)) (stop 18 a added))
      lits true = place (not (is_empty (literals_at t at)) && not (fits (a + 1) added)) refl
      lits false = refused 18 a added (λ y. omega arith) (λ y. omega arith)

      by_id : (b : Bool) → Says (cond b (cond (literals_good variables (literals_at t at)) (cond (not (is_empty (literals_at t at)) && not (fits (a + 1) added)) (stop 22 a added)
          (concluded (hints_of F t a added (falsified unset (literals_at t at)) hints) (is_empty (literals_at t at)) a added id at end next)) (stop 18 a added)) (stop 17 a added))
      by_id true = lits (literals_good variables (literals_at t at))
      by_id false = refused 17 a added (λ y. omega arith) (λ y. omega arith)

  -- no line of a text says "none", then
  lines_say : (f a : ℕ) (added : List ℕ) (p : ℕ) → Modelled a added → (lines_from f F t variables a added p).code ≡ 1 → ⊥
  unfolding lines_from line_step
  lines_say zero a added p k e = omega arith
  lines_say (suc f) a added p k e = go (ltb p (length t)) (step_says a added (line_at t p) k) (λ b l q w. lines_say f b l q w) e
    where
      on : (l : Left) → Says l → ((b : ℕ) (m : List ℕ) (q : ℕ) → Modelled b m → (lines_from f F t variables b m q).code ≡ 1 → ⊥)
          → (l.code ≡ 0) ⊎ (l.code ≡ 0 → ⊥) → (on_left l (λ b m q. lines_from f F t variables b m q)).code ≡ 1 → ⊥
      on l s rest (inl z) x = rest l.a l.added l.next (s.modelled z) (rw (eq-eqb l.code 0 z) at x)
      on l s rest (inr d) x = s.not_none (rw (ne_eqb l.code 0 d) at x)

      go : (b : Bool) → Says (step_of F t variables a added (line_at t p)) → ((b : ℕ) (m : List ℕ) (q : ℕ) → Modelled b m → (lines_from f F t variables b m q).code ≡ 1 → ⊥)
          → (cond b (on_left (step_of F t variables a added (line_at t p)) (λ b l q. lines_from f F t variables b l q)) (stop 23 a added)).code ≡ 1 → ⊥
      go true s rest x = on (step_of F t variables a added (line_at t p)) s rest (eq? (step_of F t variables a added (line_at t p)).code 0) x
      go false s rest x = omega arith

-- "none" means that the formula is unsatisfiable
pub none_sound : (F : Formula) (t : List ℕ) (variables : ℕ) (added : List ℕ) → (lines_of F t variables added).code ≡ 1 → Satisfiable F → ⊥
unfolding lines_of
none_sound F t variables added e s =
    lines_say F t variables s.0 (length t) 0 added 0
    (record {
      room = omega arith;
      models = λ x z. start x (sym z) (le? x (length F));
    })
    e
  where
    start : (x : ℕ) → true ≡ stands_in (length F) 0 added x → (x ≤ length F) ⊎ (length F < x) → T (clause_holds s.0 (clause_at F t 0 added x))
    start x z (inl h) =
        subst (λ (c : Clause). T (clause_holds s.0 c)) (sym (of_formula F t variables s.0 0 added x h))
        (sat_at s.0 F s.1 (x - 1) (let l = stands_named (length F) 0 added x z in omega arith))
    start x z (inr h) = absurd (let l = stands_found (length F) 0 added x z h in let m = with_less added 0 x l.0 l.1.found in omega arith)
