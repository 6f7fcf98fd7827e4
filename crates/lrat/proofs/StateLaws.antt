-- A clause by its id, one hint, and one deletion. Assumes nothing.
use Rattle.std.proofs.Math.Path.{◌≡◌, sym, ap}
use Rattle.std.specs.Prelude.{refl, Bool, not, cond, List, [], ◌∷◌, ◌⊎◌, ℕ, ◌+◌, ◌-◌, ◌*◌, ◌≤◌, ◌<◌, eqb, ℤ, length, get_or, set, Some, None}
use Rattle.std.proofs.Common.{Option, ◌∙◌, subst, inl, inr}
use Rattle.std.proofs.Math.Bool.{true, false}
use Rattle.std.proofs.Math.Logic.{⊎_elim}
use Rattle.std.proofs.Math.Option.{Option as Maybe, none, some}
use native.Mathlib.Omega.{arith}
use Rattle.added.specs.Record.{offset_of, length_of, emptied, first_with}
use Rattle.added.proofs.RecordLaws.{emptied_length, with_less}
use borrow.Author.Tests.{eq-eqb, ne_eqb, le-leb, lt-leb}
use Rattle.prelude.specs.Tests.{eq?, le?}
use Rattle.prelude.specs.Lists.Laws.{length_tab, get_d_tab}
use Rattle.cnf.specs.Cnf.{Clause, Formula}
use Rattle.numeral.specs.Number.{Read, byte_at}
use Rattle.lrat.specs.declared.Found.{Found}
use Rattle.lrat.specs.declared.Found.TheVariants.{AllFalse, Unset, Other}
use Rattle.lrat.specs.Rules.{Values, assign, literal_value, minus_of, before, found, after_found, hinted}
use Rattle.lrat.specs.Words.{plain_at, literals_at, ids_at, Run, run, run_at}
use Rattle.lrat.specs.Words.Laws.{plain_reads, ids_none, ids_more, run_unspaced, run_wordless, run_last, run_more}
use Rattle.lrat.specs.Bytes.{values_in, DuringLine, found_in, Below, stored_clause, store_from, formula_in}
use Rattle.lrat.specs.Bytes.Laws.{set_false, set_during}
use Rattle.lrat.proofs.BytesScan.{minus_most, sign_back}
use Rattle.lrat.specs.State.{not_deleted, stands_in, Standing, clause_at, hints_of, deleted, without, delete_all, OriginalsInStore, AddedInText, AfterHint, Hinted, AfterHints}

-- ---- whether a clause stands, by its tests
module _ (C a : ℕ) (added : List ℕ) (x : ℕ) where
  pub stands_original : 1 ≤ x → x ≤ C → true ≡ stands_in C a added x
  unfolding stands_in
  stands_original l h = rw (le-leb x C h, le-leb 1 x l)

  -- above C, by the first record with the id
  module _ (above : C < x) where
    stands_record : (o : Option ℕ) → o ≡ first_with a added x → not_deleted added o ≡ stands_in C a added x
    unfolding stands_in
    stands_record o e = rw (lt-leb x C above) (ap (not_deleted added) e)

    pub stands_nowhere : None ≡ first_with a added x → false ≡ stands_in C a added x
    stands_nowhere = stands_record None

    module _ (k : ℕ) (found : Some k ≡ first_with a added x) where
      pub stands_deleted : length_of added k ≡ 0 → false ≡ stands_in C a added x
      stands_deleted z = rw (eq-eqb (length_of added k) 0 z) at (stands_record (Some k) found)

      pub stands_added : (length_of added k ≡ 0 → ⊥) → true ≡ stands_in C a added x
      stands_added d = rw (ne_eqb (length_of added k) 0 d) at (stands_record (Some k) found)

  -- an added clause that stands has a record, of some length
  pub stands_found : true ≡ stands_in C a added x → C < x → (k : ℕ) × Standing a added x k
  stands_found e h = go (first_with a added x) refl
    where
      go : (o : Option ℕ) → o ≡ first_with a added x → (k : ℕ) × Standing a added x k
      go None q = absurd (let z = stands_nowhere h q in cc)
      go (Some k) q = (k, record { found = q; long = λ z. (let n = stands_deleted h k q z in absurd (cc)) })

  pub stands_named : true ≡ stands_in C a added x → 1 ≤ x
  unfolding stands_in
  stands_named e = ⊎_elim (λ (l : 1 ≤ x). l) (λ (l : x < 1). none l (rw (lt-leb 1 x l, le-leb x C (let z : x ≤ C = omega arith in z)) at e)) (le? 1 x)
    where
      none : {A : Type 0} → x < 1 → true ≡ false → A
      none l z = absurd (let w : ◌≡◌ {A = ℕ} 0 1 = cc in omega arith)

-- ---- the store's clauses as a formula
pub formula_in_length : (C : ℕ) (lits : List ℤ) (pairs : List ℕ) → length (formula_in C lits pairs) ≡ C
unfolding formula_in
formula_in_length C lits pairs = length_tab 0 C (stored_clause lits pairs)

pub clause_original : (C : ℕ) (lits : List ℤ) (pairs t : List ℕ) (a : ℕ) (added : List ℕ) (x : ℕ) → 1 ≤ x → x ≤ C
    → clause_at (formula_in C lits pairs) t a added x ≡ stored_clause lits pairs (x - 1)
unfolding clause_at formula_in
clause_original C lits pairs t a added x l h =
    rw (length_tab 0 C (stored_clause lits pairs), le-leb x C h) (get_d_tab 0 C (stored_clause lits pairs) (x - 1) [] (omega arith) ∙ ap (stored_clause lits pairs) (let z : 0 + (x - 1) ≡ x - 1 = omega arith in z))

pub clause_added : (C : ℕ) (lits : List ℤ) (pairs t : List ℕ) (a : ℕ) (added : List ℕ) (x k : ℕ) → C < x → Some k ≡ first_with a added x
    → literals_at t (offset_of added k - 1) ≡ clause_at (formula_in C lits pairs) t a added x
unfolding clause_at formula_in
clause_added C lits pairs t a added x k h e = rw (length_tab 0 C (stored_clause lits pairs), lt-leb x C h, ← e)

-- the same over the numbers that its pair holds
pub original_is : (C : ℕ) (lits : List ℤ) (pairs t : List ℕ) (a : ℕ) (added : List ℕ) (x from k : ℕ) → 1 ≤ x → x ≤ C
    → from ≡ get_or pairs (2 * (x - 1)) 0 → k ≡ get_or pairs (2 * (x - 1) + 1) 0 → store_from k lits from ≡ clause_at (formula_in C lits pairs) t a added x
unfolding stored_clause
original_is C lits pairs t a added x from k l h e f = rw (e, f) (sym (clause_original C lits pairs t a added x l h))

pub stored_below : (n : ℕ) (lits : List ℤ) (pairs : List ℕ) (j from k : ℕ) → from ≡ get_or pairs (2 * j) 0 → k ≡ get_or pairs (2 * j + 1) 0
    → Below n (stored_clause lits pairs j) → Below n (store_from k lits from)
unfolding stored_clause
stored_below n lits pairs j from k e f b = rw (e, f) b

-- the variables of a clause that stands
pub clause_below : (C a : ℕ) (lits : List ℤ) (pairs t added : List ℕ) (n x : ℕ) → OriginalsInStore C lits pairs n → AddedInText C t a added n → true ≡ stands_in C a added x
    → Below n (clause_at (formula_in C lits pairs) t a added x)
clause_below C a lits pairs t added n x holds additions e = go (le? x C)
  where
    go : (x ≤ C) ⊎ (C < x) → Below n (clause_at (formula_in C lits pairs) t a added x)
    go (inl h) =
        let l = stands_named C a added x e in
        subst (Below n) (sym (clause_original C lits pairs t a added x l h)) (holds.below (x - 1) (omega arith))
    go (inr h) =
        let s = stands_found C a added x e h in
        subst (Below n) (clause_added C lits pairs t a added x s.0 h s.1.found)
        (additions.placed s.0 (with_less added a x s.0 s.1.found) s.1.long).below

-- ---- the unset literal is one of the clause's
found_inside : (τ : Values) (n : ℕ) (c : Clause) (v : ℕ) (m : Bool) → Below n c → found τ c ≡ Unset v m → v < n
found_inside τ n [] v m b e = let z : ◌≡◌ {A = ℕ} 0 1 = cc in absurd (omega arith)
found_inside τ n (l ∷ c) v m b e = go (literal_value τ l) (found τ c) e (found_inside τ n c v m b.1)
  where
    go : (o : Maybe Bool) (f : Found) → before o l f ≡ Unset v m → (f ≡ Unset v m → v < n) → v < n
    go none AllFalse q k =
        let z : l.variable ≡ v = cc in
        subst (λ (j : ℕ). j < n) z b.0.1
    go none (Unset w j) q k = let z : ◌≡◌ {A = ℕ} 0 1 = cc in absurd (omega arith)
    go none Other q k = let z : ◌≡◌ {A = ℕ} 0 1 = cc in absurd (omega arith)
    go (some false) f q k = k q
    go (some true) f q k = let z : ◌≡◌ {A = ℕ} 0 1 = cc in absurd (omega arith)

pub found_below : (g : ℕ) (vs : List ℕ) (n : ℕ) (c : Clause) (v : ℕ) (m : Bool) → Below n c → Unset v m ≡ found_in g vs c → v < n
unfolding found_in
found_below g vs n c v m b e = found_inside (values_in g vs) n c v m b (sym e)

-- ---- one hint
module _ (F : Formula) (t : List ℕ) (a : ℕ) (added : List ℕ) (g x : ℕ) (vs : List ℕ) (during : DuringLine g vs) where
  pub hint_gone : (r : ℕ) → r ≡ 19 → false ≡ stands_in (length F) a added x → AfterHint F t a added g x vs r vs
  hint_gone r z e = record { during = during; so = λ xs. rw (← e, z) }

  module _ (stands : true ≡ stands_in (length F) a added x) (f : Found) (is : f ≡ found_in g vs (clause_at F t a added x)) where
    turn : (xs : List ℕ) → hinted (stands_in (length F) a added) (clause_at F t a added) (values_in g vs) (x ∷ xs)
        ≡ after_found f (λ v m. hinted (stands_in (length F) a added) (clause_at F t a added) (assign (values_in g vs) v (not m)) xs)
    unfolding found_in
    turn xs = rw (← stands, ← is)

    pub hint_conflict : (r : ℕ) → r ≡ 0 → f ≡ AllFalse → AfterHint F t a added g x vs r vs
    hint_conflict r z e = record { during = during; so = λ xs. turn xs ∙ rw (e, z) }

    pub hint_other : (r : ℕ) → r ≡ 20 → f ≡ Other → AfterHint F t a added g x vs r vs
    hint_other r z e = record { during = during; so = λ xs. turn xs ∙ rw (e, z) }

    pub hint_unset : (r : ℕ) → r ≡ 21 → (v : ℕ) (m : Bool) → f ≡ Unset v m → v < length vs → AfterHint F t a added g x vs r (set vs v (g + minus_of (not m)))
    hint_unset r z v m e l =
        record {
          during = set_during g vs v (g + minus_of (not m)) (omega (arith, minus_most (not m))) during;
          so = λ xs. turn xs ∙ rw (e, z, set_false g vs (minus_of (not m)) v (minus_most (not m)) l, sign_back (not m));
        }

-- ---- hints under way: all of them end as those from p on do under the values so far, unless the code says more
pub record Hinting (F : Formula) (t : List ℕ) (at a : ℕ) (added : List ℕ) (g : ℕ) (vs₀ : List ℕ) (p code : ℕ) (vs : List ℕ) : Type 0 where
  pub during : DuringLine g vs
  pub long : length vs ≡ length vs₀
  pub form : run_at plain_at t at ≡ run_at plain_at t p
  pub so_far : hinted (stands_in (length F) a added) (clause_at F t a added) (values_in g vs₀) (ids_at t at)
      ≡ cond (eqb code 21) (hinted (stands_in (length F) a added) (clause_at F t a added) (values_in g vs) (ids_at t p)) code

pub hinting_start : (F : Formula) (t : List ℕ) (at a : ℕ) (added : List ℕ) (g : ℕ) (vs : List ℕ) → DuringLine g vs → Hinting F t at a added g vs at 21 vs
hinting_start F t at a added g vs s = record { during = s; long = refl; form = refl; so_far = refl }

module _ {F : Formula} {t : List ℕ} {at a : ℕ} {added : List ℕ} {g : ℕ} {vs₀ : List ℕ} {p code : ℕ} {vs : List ℕ} (s : Hinting F t at a added g vs₀ p code vs) where
  pub hints_bad : (run_at plain_at t p).next ≡ 0 → (r : Hinted) → r.next ≡ 0 → AfterHints F t at a added g vs₀ r vs
  hints_bad e r y = record { during = s.during; form = y ∙ sym (ap (λ (q : Run). q.next) s.form ∙ e); code = λ d. absurd (d y) }

  bad_run : run_at plain_at t p ≡ run 0 0 → (r : Hinted) → r.next ≡ 0 → AfterHints F t at a added g vs₀ r vs
  bad_run e = hints_bad (ap (λ (q : Run). q.next) e)

  -- a hint ended them: the others are read for their form
  pub hinting_ended : (code ≡ 21 → ⊥) → (r : Hinted) → r.next ≡ (run_at plain_at t p).next → r.code ≡ code → AfterHints F t at a added g vs₀ r vs
  unfolding hints_of
  hinting_ended d r y q =
      record {
        during = s.during;
        form = y ∙ sym (ap (λ (n : Run). n.next) s.form);
        code = λ _. q ∙ sym (s.so_far ∙ rw (ne_eqb code 21 d));
      }

  pub hints_unspaced : (byte_at t p ≡ 32 → ⊥) → (r : Hinted) → r.next ≡ 0 → AfterHints F t at a added g vs₀ r vs
  hints_unspaced d = bad_run (run_unspaced plain_at plain_reads t p d)

  module _ (w : Read) (is : w ≡ plain_at t (p + 1)) (space : byte_at t p ≡ 32) where
    pub hints_wordless : w.next ≡ 0 → (r : Hinted) → r.next ≡ 0 → AfterHints F t at a added g vs₀ r vs
    hints_wordless e = bad_run (run_wordless plain_at plain_reads t p w is space e)

    module _ (there : w.next ≡ 0 → ⊥) where
      spent : (k : ℕ) → cond (eqb k 21) 21 k ≡ k
      spent k = ⊎_elim (λ (e : k ≡ 21). rw (e)) (λ (d : k ≡ 21 → ⊥). rw (ne_eqb k 21 d)) (eq? k 21)

      pub hints_end : w.value ≡ 0 → (r : Hinted) → r.next ≡ w.next → r.code ≡ code → AfterHints F t at a added g vs₀ r vs
      unfolding hints_of
      hints_end z r y q =
          record {
            during = s.during;
            form = y ∙ sym (ap (λ (n : Run). n.next) (s.form ∙ run_last plain_at plain_reads t p w is space there z));
            code = λ _. q ∙ sym (s.so_far ∙ rw (ids_none t p w is z) (spent code));
          }

      module _ (more : w.value ≡ 0 → ⊥) where
        on : run_at plain_at t at ≡ run_at plain_at t w.next
        on = s.form ∙ run_more plain_at plain_reads t p w is space there more

        -- an earlier hint ended them
        pub hinting_unread : (code ≡ 21 → ⊥) → Hinting F t at a added g vs₀ w.next code vs
        hinting_unread d = record { during = s.during; long = s.long; form = on; so_far = s.so_far ∙ rw (ne_eqb code 21 d) }

        -- this one is read
        pub hinting_more : code ≡ 21 → (r : ℕ) (us : List ℕ) → length us ≡ length vs → AfterHint F t a added g w.value vs r us
            → Hinting F t at a added g vs₀ w.next r us
        hinting_more e r us l h =
            record {
              during = h.during;
              long = l ∙ s.long;
              form = on;
              so_far = s.so_far ∙ rw (e, ids_more t p w is more) (h.so (ids_at t w.next));
            }

-- ---- deletions under way
pub record Deleting (t : List ℕ) (C a : ℕ) (added₀ : List ℕ) (at : ℕ) (added : List ℕ) (p : ℕ) : Type 0 where
  pub so_far : delete_all C a added₀ (ids_at t at) ≡ delete_all C a added (ids_at t p)
  pub long : length added ≡ length added₀

pub deleting_start : {t : List ℕ} {C a : ℕ} {added : List ℕ} {p : ℕ} → Deleting t C a added p added p
deleting_start = record { so_far = refl; long = refl }

module _ {t : List ℕ} {C a : ℕ} {added₀ : List ℕ} {at : ℕ} {added : List ℕ} {p : ℕ} (s : Deleting t C a added₀ at added p) where
  pub delete_end : ids_at t p ≡ [] → deleted 0 added ≡ delete_all C a added₀ (ids_at t at)
  unfolding delete_all
  delete_end e = sym (s.so_far ∙ ap (delete_all C a added) e)

  module _ (x q : ℕ) (step : ids_at t p ≡ x ∷ ids_at t q) where
    turned : delete_all C a added₀ (ids_at t at) ≡ cond (stands_in C a added x) (delete_all C a (without C a added x) (ids_at t q)) (deleted 19 added)
    unfolding delete_all
    turned = s.so_far ∙ ap (delete_all C a added) step

    pub delete_gone : false ≡ stands_in C a added x → deleted 19 added ≡ delete_all C a added₀ (ids_at t at)
    delete_gone e = sym (turned ∙ rw (← e))

    pub delete_original : true ≡ stands_in C a added x → x ≤ C → Deleting t C a added₀ at added q
    unfolding without
    delete_original e l = record { so_far = turned ∙ rw (← e, le-leb x C l); long = s.long }

    pub delete_added : true ≡ stands_in C a added x → C < x → (k : ℕ) → Some k ≡ first_with a added x → Deleting t C a added₀ at (emptied added k) q
    unfolding without
    delete_added e l k f = record { so_far = turned ∙ rw (← e, lt-leb x C l, ← f); long = emptied_length added k ∙ s.long }
