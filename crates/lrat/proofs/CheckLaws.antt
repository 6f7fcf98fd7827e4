-- A line by its tests, and the lines one by one. Assumes nothing.
use Rattle.std.specs.Prelude.{◌≡◌, refl, Bool, true, not, ◌&&◌, cond, List, [], ◌∷◌, ◌⊎◌, eqb, ltb, length, Result, Ok, Err, Some, None}
use Rattle.std.proofs.Common.{Option}
use Rattle.std.proofs.Math.Path.{sym, ap}
use Rattle.std.proofs.Common.{◌∙◌, subst, inl, inr, ⊎_elim, arith}
use Rattle.std.proofs.Math.Bool.{false}
use Prim.Native.Nat.{ℕ, zero, suc, ◌+◌, ◌-◌, ◌≤◌, ◌<◌}
use borrow.Author.Tests.{ltb-true, eq-eqb, ne_eqb, lt-ltb, le-ltb}
use Rattle.prelude.specs.Tests.{eq?}
use Rattle.cnf.specs.Cnf.{Formula}
use Rattle.numeral.specs.Number.{Read, byte_at, literal_at}
use Rattle.numeral.specs.Number.Places.{byte_in}
use Rattle.lrat.specs.declared.LiteralsRead.{LiteralsRead}
use Rattle.lrat.specs.declared.Step.{Step}
use Rattle.lrat.specs.Rules.{Values, unset, falsified, literals_good}
use Rattle.lrat.specs.Words.{plain_at, literals_at, ids_at, Run, run_at, Line, no_line, addition, deletion, deletion_at, addition_at, line_at}
use Rattle.lrat.specs.Words.Laws.{plain_reads, literal_reads, read_there, literals_none, literals_more, run_last, run_more, run_spaced, run_worded}
use Rattle.lrat.specs.Words.Lines.{Ran, ran, deletion_none, deletion_open, deletion_good, addition_none, addition_hintless, addition_open, addition_good, line_none, line_open, line_deletion, line_addition}
use Rattle.lrat.specs.Bytes.{AfterLiterals}
use Rattle.lrat.specs.State.{stands_in, clause_at, last_id, without, hints_of, Deleted, deleted, delete_all, AddedInText, Hinted, AfterHints}
use Rattle.lrat.specs.Outcome.{Outcome, outcome_number, outcome_of, end_number}
use Rattle.lrat.specs.Outcome.Ending.{refused, ending_of, in_numbers}
use Rattle.lrat.specs.Results.{step_of_left, Leaves, Deletes, Ends}
use Rattle.lrat.proofs.OutcomeLaws.{outcome_none}
use Rattle.lrat.proofs.RulesSound.{hinted_low, hinted_not_one}
use Rattle.refusal.specs.declared.Refusal.{Refusal}
use Rattle.refusal.specs.declared.Refusal.TheVariants.{TextEnds}
use Rattle.refusal.specs.Refusal.{number, number_of}
use Rattle.refusal.specs.Refusal.Laws.{numbered_number, unless-ok, unless-number_of, number_some, numbered_back}
use Rattle.added.specs.Record.{Room, fits}
use Rattle.added.proofs.RecordLaws.{fits_room}
use Rattle.lrat.proofs.StateAdded.{good_below, spelled_at, additions_none, additions_more, additions_deleted}
use Rattle.lrat.specs.Check.{Left, left, stop, is_empty, pushed, concluded, add_step, delete_step, step_of, line_step, on_left, lines_from, lines_of}

-- ---- a line's result, by what it leaves
-- a refusal by its number, which is not that of "none"
pub refused_is : (e : Refusal) (k a next : ℕ) (added : List ℕ) → k ≡ number e → (k ≡ 1 → ⊥) → Err e ≡ step_of_left (left k a next added)
refused_is e k a next added z d =
    let n : k ≡ 0 → ⊥ = λ y. number_some e (sym z ∙ y) in
    rw (ne_eqb k 0 n, ne_eqb k 1 d, z, numbered_number e)

-- what a line that stops, or goes on, gives and leaves
pub leaves : {m l : Left} {r : Result (Option Step) Refusal} → m ≡ l → r ≡ step_of_left m → Leaves l r m.added
leaves {m = m} e f = record { result = f ∙ ap step_of_left e; records = ap (λ (x : Left). x.added) e }

-- what is known of a line that stops is so of what the code returns
pub stops_as : {l : Left} {r : Result (Option Step) Refusal} {k a : ℕ} {added : List ℕ} → r ≡ step_of_left (stop k a added) → stop k a added ≡ l → Leaves l r added
stops_as e f = leaves f e

-- and back: where the check goes on, where it ends in "none", and where it is refused
pub on_is : (l : Left) (s : Step) → Ok (Some s) ≡ step_of_left l → (l.code ≡ 0) × (s.a ≡ l.a) × (s.next ≡ l.next)
on_is l s e = go (eq? l.code 0) (eq? l.code 1)
  where
    go : (l.code ≡ 0) ⊎ (l.code ≡ 0 → ⊥) → (l.code ≡ 1) ⊎ (l.code ≡ 1 → ⊥) → (l.code ≡ 0) × (s.a ≡ l.a) × (s.next ≡ l.next)
    go (inl z) b = let f = rw (eq-eqb l.code 0 z) at e in (z, (cc), (cc))
    go (inr d) (inl z) = let f = rw (ne_eqb l.code 0 d, eq-eqb l.code 1 z) at e in absurd (cc)
    go (inr d) (inr n) = let f = rw (ne_eqb l.code 0 d, ne_eqb l.code 1 n) at e in absurd (cc)

pub none_is : (l : Left) → Ok None ≡ step_of_left l → l.code ≡ 1
none_is l e = go (eq? l.code 0) (eq? l.code 1)
  where
    go : (l.code ≡ 0) ⊎ (l.code ≡ 0 → ⊥) → (l.code ≡ 1) ⊎ (l.code ≡ 1 → ⊥) → l.code ≡ 1
    go (inl z) b = let f = rw (eq-eqb l.code 0 z) at e in absurd (cc)
    go (inr d) (inl z) = z
    go (inr d) (inr n) = let f = rw (ne_eqb l.code 0 d, ne_eqb l.code 1 n) at e in absurd (cc)

pub err_is : (l : Left) (x : Refusal) → Err x ≡ step_of_left l → (l.code ≡ 0 → ⊥) × (Err x ≡ outcome_of l.code)
unfolding outcome_of
err_is l x e = go (eq? l.code 0) (eq? l.code 1)
  where
    go : (l.code ≡ 0) ⊎ (l.code ≡ 0 → ⊥) → (l.code ≡ 1) ⊎ (l.code ≡ 1 → ⊥) → (l.code ≡ 0 → ⊥) × (Err x ≡ outcome_of l.code)
    go (inl z) b = let f = rw (eq-eqb l.code 0 z) at e in absurd (cc)
    go (inr d) (inl z) = let f = rw (ne_eqb l.code 0 d, eq-eqb l.code 1 z) at e in absurd (cc)
    go (inr d) (inr n) = let f = rw (ne_eqb l.code 0 d, ne_eqb l.code 1 n) at e in (d, rw (ne_eqb l.code 1 n) (cc))

-- ---- whether a run of the form has any literal
pub run_empty : (t : List ℕ) (p : ℕ) → ((run_at literal_at t p).next ≡ 0 → ⊥) → is_empty (literals_at t p) ≡ eqb (run_at literal_at t p).end p
run_empty t p d = go (eq? (literal_at t (p + 1)).value 0)
  where
    space : byte_at t p ≡ 32
    space = run_spaced literal_at literal_reads t p d

    there : (literal_at t (p + 1)).next ≡ 0 → ⊥
    there = run_worded literal_at literal_reads t p d

    go : ((literal_at t (p + 1)).value ≡ 0) ⊎ ((literal_at t (p + 1)).value ≡ 0 → ⊥) → is_empty (literals_at t p) ≡ eqb (run_at literal_at t p).end p
    go (inl z) =
        let r = run_last literal_at literal_reads t p (literal_at t (p + 1)) refl space there z in
        ap is_empty (literals_none t p (literal_at t (p + 1)) refl z) ∙ sym (eq-eqb (run_at literal_at t p).end p (ap (λ (q : Run). q.end) r))
    go (inr n) =
        let r = run_more literal_at literal_reads t p (literal_at t (p + 1)) refl space there n in
        let e = read_there literal_at literal_reads t (p + 1) there in
        let k = ran literal_at literal_reads t (literal_at t (p + 1)).next (λ z. d (ap (λ (q : Run). q.next) r ∙ z)) in
        let s : (run_at literal_at t p).end ≡ (run_at literal_at t (literal_at t (p + 1)).next).end = ap (λ (q : Run). q.end) r in
        ap is_empty (literals_more t p (literal_at t (p + 1)) refl n) ∙ sym (ne_eqb (run_at literal_at t p).end p (λ z. omega (arith, e.low, k.low)))

-- ---- an addition, after the two passes over its line
module _ (F : Formula) (t : List ℕ) (variables a : ℕ) (added : List ℕ) (id p stamp : ℕ) (ls : LiteralsRead) (vs : List ℕ) (passed : AfterLiterals stamp variables t p ls vs) where
  abbrev Is : Left → Type 0
  Is l = l ≡ step_of F t variables a added (addition_at t id p)

  pub add_literals : ls.next ≡ 0 → Is (stop 16 a added)
  unfolding step_of
  add_literals z = sym (ap (step_of F t variables a added) (addition_none t id p ls.end ls.next passed.form z))

  module _ (there : ls.next ≡ 0 → ⊥) (hs : Hinted) (us : List ℕ) (hints : AfterHints F t ls.next a added stamp vs hs us) where
    pub add_hints : hs.next ≡ 0 → Is (stop 16 a added)
    unfolding step_of
    add_hints z = sym (ap (step_of F t variables a added) (addition_hintless t id p ls.end ls.next passed.form there hs.next hints.form z))

    module _ (read : hs.next ≡ 0 → ⊥) where
      pub add_open : (byte_at t hs.next ≡ 10 → ⊥) → Is (stop 16 a added)
      unfolding step_of
      add_open o = sym (ap (step_of F t variables a added) (addition_open t id p ls.end ls.next passed.form there hs.next hints.form read o))

      module _ (closed : byte_at t hs.next ≡ 10) where
        good_form : addition_at t id p ≡ addition id p ls.end ls.next (hs.next + 1)
        good_form = addition_good t id p ls.end ls.next passed.form there hs.next hints.form read closed

        by : (l : Left) → l ≡ add_step F t variables a added id p ls.end ls.next (hs.next + 1) → Is l
        unfolding step_of
        by l e = e ∙ sym (ap (step_of F t variables a added) good_form)

        pub add_id : id ≤ last_id (length F) a added → Is (stop 17 a added)
        unfolding add_step
        add_id h = by _ (rw (le-ltb (last_id (length F) a added) id h))

        module _ (higher : last_id (length F) a added < id) where
          pub add_bad : ls.good ≡ false → Is (stop 18 a added)
          unfolding add_step
          add_bad e =
              let q : literals_good variables (literals_at t p) ≡ false = sym (passed.good there) ∙ e in
              by _ (rw (lt-ltb (last_id (length F) a added) id higher, q))

          module _ (good : ls.good ≡ true) where
            good_is : literals_good variables (literals_at t p) ≡ true
            good_is = sym (passed.good there) ∙ good

            formed : (run_at literal_at t p).next ≡ 0 → ⊥
            formed z = there (ap (λ (q : Run). q.next) passed.form ∙ z)

            empty_is : is_empty (literals_at t p) ≡ eqb ls.end p
            empty_is = run_empty t p formed ∙ ap (λ (q : Run). eqb q.end p) (sym passed.form)

            hints_are : hints_of F t a added (falsified unset (literals_at t p)) ls.next ≡ hs.code
            hints_are = sym (hints.code read ∙ ap (λ (τ : Values). hints_of F t a added τ ls.next) (passed.vals there good))

            -- no hints end in the code of "none"
            pub add_not_one : hs.code ≡ 1 → ⊥
            unfolding hints_of
            add_not_one z = hinted_not_one _ _ (ids_at t ls.next) (falsified unset (literals_at t p)) (hints_are ∙ z)

            pub add_full : (ls.end ≡ p → ⊥) → false ≡ fits (a + 1) added → Is (stop 22 a added)
            unfolding add_step
            add_full d h = by _ (rw (lt-ltb (last_id (length F) a added) id higher, good_is, empty_is, ne_eqb ls.end p d, ← h))

            pub add_none : ls.end ≡ p → hs.code ≡ 0 → Is (stop 1 a added)
            unfolding add_step concluded
            add_none e z = by _ (rw (lt-ltb (last_id (length F) a added) id higher, good_is, empty_is, eq-eqb ls.end p e, hints_are, eq-eqb hs.code 0 z))

            pub add_empty : ls.end ≡ p → (hs.code ≡ 0 → ⊥) → Is (stop hs.code a added)
            unfolding add_step concluded
            add_empty e z = by _ (rw (lt-ltb (last_id (length F) a added) id higher, good_is, empty_is, eq-eqb ls.end p e, hints_are, ne_eqb hs.code 0 z))

            module _ (some : ls.end ≡ p → ⊥) (room : true ≡ fits (a + 1) added) where
              pub add_refused : (hs.code ≡ 0 → ⊥) → Is (stop hs.code a added)
              unfolding add_step concluded
              add_refused z = by _ (rw (lt-ltb (last_id (length F) a added) id higher, good_is, empty_is, ne_eqb ls.end p some, ← room, hints_are, ne_eqb hs.code 0 z))

              pub add_pushed : hs.code ≡ 0 → Is (left 0 (a + 1) (hs.next + 1) (pushed added a id p ls.end))
              unfolding add_step concluded
              add_pushed z = by _ (rw (lt-ltb (last_id (length F) a added) id higher, good_is, empty_is, ne_eqb ls.end p some, ← room, hints_are, eq-eqb hs.code 0 z))

              -- the literals have a byte at least
              pub add_length : p + 1 < ls.end
              add_length =
                  let r = ran literal_at literal_reads t p formed in
                  let e : ls.end ≡ (run_at literal_at t p).end = ap (λ (q : Run). q.end) passed.form in
                  omega (arith, r.full (λ z. some (e ∙ z)))

            -- hints without the conflict, whether the clause is empty or has a place
            pub add_stops : ((ls.end ≡ p → ⊥) → true ≡ fits (a + 1) added) → (hs.code ≡ 0 → ⊥) → Is (stop hs.code a added)
            add_stops room z = ⊎_elim (λ e. add_empty e z) (λ d. add_refused d (room d) z) (eq? ls.end p)

  -- the places of the two runs
  pub add_inside : (ls.next ≡ 0 → ⊥) → (p ≤ ls.end) × (ls.end < ls.next) × (ls.next ≤ length t)
  add_inside d =
      let r = ran literal_at literal_reads t p (λ z. d (ap (λ (q : Run). q.next) passed.form ∙ z)) in
      let e : ls.end ≡ (run_at literal_at t p).end = ap (λ (q : Run). q.end) passed.form in
      let n : ls.next ≡ (run_at literal_at t p).next = ap (λ (q : Run). q.next) passed.form in
      (omega (arith, r.low), omega (arith, r.mid), omega (arith, r.high))

-- ---- deletions end in 0 or 19
pub delete_low : (C a : ℕ) (added xs : List ℕ) → (delete_all C a added xs).code ≤ 24
unfolding delete_all
delete_low C a added [] = omega arith
delete_low C a added (x ∷ xs) = go (stands_in C a added x) (delete_low C a (without C a added x) xs)
  where
    go : (b : Bool) → (delete_all C a (without C a added x) xs).code ≤ 24 → (cond b (delete_all C a (without C a added x) xs) (deleted 19 added)).code ≤ 24
    go true h = h
    go false h = omega arith

pub delete_not_one : (C a : ℕ) (added xs : List ℕ) → (delete_all C a added xs).code ≡ 1 → ⊥
unfolding delete_all
delete_not_one C a added [] e = omega arith
delete_not_one C a added (x ∷ xs) e = go (stands_in C a added x) (delete_not_one C a (without C a added x) xs) e
  where
    go : (b : Bool) → ((delete_all C a (without C a added x) xs).code ≡ 1 → ⊥) → (cond b (delete_all C a (without C a added x) xs) (deleted 19 added)).code ≡ 1 → ⊥
    go true h q = h q
    go false h q = omega arith

-- ---- a deletion, after its form was read
module _ (F : Formula) (t : List ℕ) (variables a : ℕ) (added : List ℕ) (p e : ℕ) (is : e ≡ (run_at plain_at t p).next) where
  pub delete_formless : e ≡ 0 → stop 16 a added ≡ step_of F t variables a added (deletion_at t p)
  unfolding step_of
  delete_formless z = sym (ap (step_of F t variables a added) (deletion_none t p e is z))

  pub delete_open : (e ≡ 0 → ⊥) → (byte_at t e ≡ 10 → ⊥) → stop 16 a added ≡ step_of F t variables a added (deletion_at t p)
  unfolding step_of
  delete_open d o = sym (ap (step_of F t variables a added) (deletion_open t p e is d o))

  pub delete_done : (e ≡ 0 → ⊥) → byte_at t e ≡ 10 → (C k : ℕ) (l : List ℕ) → C ≡ length F → deleted k l ≡ delete_all C a added (ids_at t p)
      → left k a (e + 1) l ≡ step_of F t variables a added (deletion_at t p)
  unfolding step_of delete_step
  delete_done d o C k l q s =
      let w : deleted k l ≡ delete_all (length F) a added (ids_at t p) = s ∙ ap (λ (n : ℕ). delete_all n a added (ids_at t p)) q in
      ap (λ (x : Deleted). left x.code a (e + 1) x.added) w ∙ sym (ap (step_of F t variables a added) (deletion_good t p e is d o))

  -- what it gives and leaves, by what deleting gave and left
  module _ (d : e ≡ 0 → ⊥) (o : byte_at t e ≡ 10) (C : ℕ) (q : C ≡ length F) (r : Result (Unit {0}) Refusal) (l : List ℕ)
      (deletes : Deletes (delete_all C a added (ids_at t p)) r l) where
    deleted_is : left (delete_all C a added (ids_at t p)).code a (e + 1) (delete_all C a added (ids_at t p)).added ≡ step_of F t variables a added (deletion_at t p)
    deleted_is = delete_done d o C _ _ q refl

    pub delete_refused : (x : Refusal) → r ≡ Err x → Leaves (step_of F t variables a added (deletion_at t p)) (Err x) l
    delete_refused x z =
        let k : (delete_all C a added (ids_at t p)).code ≡ number x = sym (ap number_of (sym z ∙ deletes.result) ∙ unless-number_of {A = Unit {0}} _ tt (delete_low C a added (ids_at t p))) in
        subst (Leaves _ (Err x)) (sym deletes.records) (leaves deleted_is (refused_is x _ a (e + 1) (delete_all C a added (ids_at t p)).added k (delete_not_one C a added (ids_at t p))))

    pub delete_accepted : (x : Unit {0}) → r ≡ Ok x → Leaves (step_of F t variables a added (deletion_at t p)) (Ok (Some (record { a = a; next = e + 1 }))) l
    delete_accepted x z =
        let k = (unless-ok _ tt x (sym deletes.result ∙ z)).0 in
        subst (Leaves _ _) (sym deletes.records) (leaves deleted_is (rw (eq-eqb (delete_all C a added (ids_at t p)).code 0 k)))

  pub deletion_inside : (e ≡ 0 → ⊥) → (p < e) × (e ≤ length t)
  deletion_inside d =
      let r = ran plain_at plain_reads t p (λ z. d (is ∙ z)) in
      (omega (arith, r.low, r.mid), omega (arith, r.high))

-- ---- a line, by what follows its id
module _ (F : Formula) (t : List ℕ) (variables a : ℕ) (added : List ℕ) (p : ℕ) (w : Read) (is : w ≡ plain_at t p) where
  pub step_none : w.next ≡ 0 → stop 16 a added ≡ line_step F t variables a added p
  unfolding line_step step_of
  step_none z = sym (ap (step_of F t variables a added) (line_none t p w is z))

  module _ (there : w.next ≡ 0 → ⊥) where
    pub step_open : (byte_at t w.next ≡ 32 → ⊥) → stop 16 a added ≡ line_step F t variables a added p
    unfolding line_step step_of
    step_open d = sym (ap (step_of F t variables a added) (line_open t p w is there d))

    pub step_deletion : byte_at t w.next ≡ 32 → byte_at t (w.next + 1) ≡ 100 → step_of F t variables a added (deletion_at t (w.next + 2)) ≡ line_step F t variables a added p
    unfolding line_step
    step_deletion e d = sym (ap (step_of F t variables a added) (line_deletion t p w is there e d))

    pub step_addition : byte_at t w.next ≡ 32 → (byte_at t (w.next + 1) ≡ 100 → ⊥) → step_of F t variables a added (addition_at t w.value w.next) ≡ line_step F t variables a added p
    unfolding line_step
    step_addition e d = sym (ap (step_of F t variables a added) (line_addition t p w is there e d))

-- ---- a line after which the check goes on: further in the text, and every added clause lies in it
pub record Went (C : ℕ) (t : List ℕ) (n p : ℕ) (l : Left) : Type 0 where
  pub low : p < l.next
  pub high : l.next ≤ length t
  pub additions : AddedInText C t l.a l.added n

abbrev Goes : ℕ → List ℕ → ℕ → ℕ → Left → Type 0
Goes C t n p l = l.code ≡ 0 → Went C t n p l

stops : (C : ℕ) (t : List ℕ) (n p k a : ℕ) (added : List ℕ) → (k ≡ 0 → ⊥) → Goes C t n p (stop k a added)
stops C t n p k a added d e = absurd (d e)

module _ (F : Formula) (t : List ℕ) (variables a : ℕ) (added : List ℕ) (q : ℕ) (additions : AddedInText (length F) t a added (variables + 1)) where
  deletion_goes : (p : ℕ) → q < p → Goes (length F) t (variables + 1) q (step_of F t variables a added (deletion_at t p))
  unfolding step_of delete_step
  deletion_goes p l = go (eq? (run_at plain_at t p).next 0) (eq? (byte_at t (run_at plain_at t p).next) 10) (ran plain_at plain_reads t p)
    where
      e : ℕ
      e = (run_at plain_at t p).next

      go : (e ≡ 0) ⊎ (e ≡ 0 → ⊥) → (byte_at t e ≡ 10) ⊎ (byte_at t e ≡ 10 → ⊥) → ((e ≡ 0 → ⊥) → Ran t p (run_at plain_at t p))
          → Goes (length F) t (variables + 1) q (step_of F t variables a added (deletion_at t p))
      go (inl z) b k = rw (deletion_none t p e refl z) (stops (length F) t (variables + 1) q 16 a added (λ y. omega arith))
      go (inr d) (inr o) k = rw (deletion_open t p e refl d o) (stops (length F) t (variables + 1) q 16 a added (λ y. omega arith))
      go (inr d) (inl o) k =
          rw (deletion_good t p e refl d o) (λ _. record {
            low = omega (arith, (k d).low, (k d).mid);
            high = omega (arith, byte_in t e (λ y. omega arith));
            additions = additions_deleted t (length F) a (ids_at t p) added (variables + 1) additions;
          })

  addition_goes : (id p : ℕ) → q < p → Goes (length F) t (variables + 1) q (step_of F t variables a added (addition_at t id p))
  unfolding step_of add_step concluded
  addition_goes id p l =
      go (eq? m.next 0) (eq? h.next 0) (eq? (byte_at t h.next) 10) (ran literal_at literal_reads t p) (ran plain_at plain_reads t m.next)
    where
      m : Run
      m = run_at literal_at t p

      h : Run
      h = run_at plain_at t m.next

      push : (m.next ≡ 0 → ⊥) → (h.next ≡ 0 → ⊥) → byte_at t h.next ≡ 10 → Ran t p m → Ran t m.next h → last_id (length F) a added < id → literals_good variables (literals_at t p) ≡ true
          → (b : Bool) → is_empty (literals_at t p) ≡ b → (f : Bool) → not (fits (a + 1) added) ≡ f → (k : ℕ)
          → Goes (length F) t (variables + 1) q (cond (not b && f) (stop 22 a added) (concluded k b a added id p m.end (h.next + 1)))
      push d e o r s i g true z f w k c = absurd (no (eq? k 0) c)
        where
          no : (k ≡ 0) ⊎ (k ≡ 0 → ⊥) → (cond (eqb k 0) (stop 1 a added) (stop k a added)).code ≡ 0 → ⊥
          no (inl y) x = let u : ◌≡◌ {A = ℕ} 1 0 = (rw (eq-eqb k 0 y) at x) in omega arith
          no (inr y) x = y (rw (ne_eqb k 0 y) at x)
      push d e o r s i g false z true w k c = absurd (omega arith)
      push d e o r s i g false z false w k c = went (eq? k 0) c
        where
          yes : (b : Bool) → not b ≡ false → true ≡ b
          yes true y = refl
          yes false y = cc

          room : Room (a + 1) added
          room = fits_room (a + 1) added (yes (fits (a + 1) added) w)

          went : (k ≡ 0) ⊎ (k ≡ 0 → ⊥) → (cond (eqb k 0) (left 0 (a + 1) (h.next + 1) (pushed added a id p m.end)) (stop k a added)).code ≡ 0
              → Went (length F) t (variables + 1) q (cond (eqb k 0) (left 0 (a + 1) (h.next + 1) (pushed added a id p m.end)) (stop k a added))
          went (inl y) x =
              rw (eq-eqb k 0 y)
              (record {
                low = omega (arith, r.low, r.mid, s.low, s.mid);
                high = omega (arith, byte_in t h.next (λ u. omega arith));
                additions = additions_more (length F) a added id (p + 1) (m.end - (p + 1)) room i t (variables + 1) additions
                    (spelled_at t p (variables + 1) d (run_spaced plain_at plain_reads t m.next e) (good_below variables (literals_at t p) g));
              })
          went (inr y) x = absurd (y (rw (ne_eqb k 0 y) at x))

      good : (m.next ≡ 0 → ⊥) → (h.next ≡ 0 → ⊥) → byte_at t h.next ≡ 10 → Ran t p m → Ran t m.next h → last_id (length F) a added < id
          → (b : Bool) → literals_good variables (literals_at t p) ≡ b
          → Goes (length F) t (variables + 1) q (cond b
          (cond (not (is_empty (literals_at t p)) && not (fits (a + 1) added)) (stop 22 a added)
          (concluded (hints_of F t a added (falsified unset (literals_at t p)) m.next) (is_empty (literals_at t p)) a added id p m.end (h.next + 1)))
          (stop 18 a added))
      good d e o r s i true g =
          push d e o r s i g (is_empty (literals_at t p)) refl (not (fits (a + 1) added)) refl (hints_of F t a added (falsified unset (literals_at t p)) m.next)
      good d e o r s i false g = stops (length F) t (variables + 1) q 18 a added (λ y. omega arith)

      add : (m.next ≡ 0 → ⊥) → (h.next ≡ 0 → ⊥) → byte_at t h.next ≡ 10 → Ran t p m → Ran t m.next h
          → (b : Bool) → ltb (last_id (length F) a added) id ≡ b
          → Goes (length F) t (variables + 1) q (cond b (cond (literals_good variables (literals_at t p))
          (cond (not (is_empty (literals_at t p)) && not (fits (a + 1) added)) (stop 22 a added)
          (concluded (hints_of F t a added (falsified unset (literals_at t p)) m.next) (is_empty (literals_at t p)) a added id p m.end (h.next + 1)))
          (stop 18 a added)) (stop 17 a added))
      add d e o r s true g = good d e o r s (ltb-true (last_id (length F) a added) id g) (literals_good variables (literals_at t p)) refl
      add d e o r s false g = stops (length F) t (variables + 1) q 17 a added (λ y. omega arith)

      go : (m.next ≡ 0) ⊎ (m.next ≡ 0 → ⊥) → (h.next ≡ 0) ⊎ (h.next ≡ 0 → ⊥) → (byte_at t h.next ≡ 10) ⊎ (byte_at t h.next ≡ 10 → ⊥)
          → ((m.next ≡ 0 → ⊥) → Ran t p m) → ((h.next ≡ 0 → ⊥) → Ran t m.next h) → Goes (length F) t (variables + 1) q (step_of F t variables a added (addition_at t id p))
      go (inl z) b c k j = rw (addition_none t id p m.end m.next refl z) (stops (length F) t (variables + 1) q 16 a added (λ y. omega arith))
      go (inr d) (inl z) c k j = rw (addition_hintless t id p m.end m.next refl d h.next refl z) (stops (length F) t (variables + 1) q 16 a added (λ y. omega arith))
      go (inr d) (inr e) (inr o) k j = rw (addition_open t id p m.end m.next refl d h.next refl e o) (stops (length F) t (variables + 1) q 16 a added (λ y. omega arith))
      go (inr d) (inr e) (inl o) k j =
          rw (addition_good t id p m.end m.next refl d h.next refl e o) (add d e o (k d) (j e) (ltb (last_id (length F) a added) id) refl)

  pub line_goes : Goes (length F) t (variables + 1) q (line_step F t variables a added q)
  line_goes = go (eq? (plain_at t q).next 0) (eq? (byte_at t (plain_at t q).next) 32) (eq? (byte_at t ((plain_at t q).next + 1)) 100)
    where
      w : Read
      w = plain_at t q

      low : (w.next ≡ 0 → ⊥) → q < w.next
      low d = (read_there plain_at plain_reads t q d).low

      go : (w.next ≡ 0) ⊎ (w.next ≡ 0 → ⊥) → (byte_at t w.next ≡ 32) ⊎ (byte_at t w.next ≡ 32 → ⊥)
          → (byte_at t (w.next + 1) ≡ 100) ⊎ (byte_at t (w.next + 1) ≡ 100 → ⊥) → Goes (length F) t (variables + 1) q (line_step F t variables a added q)
      go (inl z) b c = subst (Goes (length F) t (variables + 1) q) (step_none F t variables a added q w refl z) (stops (length F) t (variables + 1) q 16 a added (λ y. omega arith))
      go (inr d) (inr o) c = subst (Goes (length F) t (variables + 1) q) (step_open F t variables a added q w refl d o) (stops (length F) t (variables + 1) q 16 a added (λ y. omega arith))
      go (inr d) (inl e) (inl y) =
          subst (Goes (length F) t (variables + 1) q) (step_deletion F t variables a added q w refl d e y) (deletion_goes (w.next + 2) (omega (arith, low d)))
      go (inr d) (inl e) (inr y) =
          subst (Goes (length F) t (variables + 1) q) (step_addition F t variables a added q w refl d e y) (addition_goes w.value w.next (low d))

-- ---- a line adds one pair at most
Few : ℕ → Left → Type 0
Few a l = l.a ≤ a + 1

few_cond : (a : ℕ) (b : Bool) (x y : Left) → Few a x → Few a y → Few a (cond b x y)
few_cond a true x y h k = h
few_cond a false x y h k = k

few_step : (F : Formula) (t : List ℕ) (variables a : ℕ) (added : List ℕ) (l : Line) → Few a (step_of F t variables a added l)
unfolding Few step_of add_step delete_step concluded
few_step F t variables a added no_line = omega arith
few_step F t variables a added (deletion at next) = omega arith
few_step F t variables a added (addition id at end hints next) =
    let one : Few a (stop 17 a added) = omega arith in
    few_cond a (ltb (last_id (length F) a added) id) _ _
    (few_cond a (literals_good variables (literals_at t at)) _ _
    (few_cond a (not (is_empty (literals_at t at)) && not (fits (a + 1) added)) _ _ one
    (few_cond a (eqb (hints_of F t a added (falsified unset (literals_at t at)) hints) 0) _ _
    (few_cond a (is_empty (literals_at t at)) _ _ one (let m : Few a (left 0 (a + 1) next (pushed added a id at end)) = omega arith in m)) one))
    one)
    one

pub step_few : (F : Formula) (t : List ℕ) (variables a : ℕ) (added : List ℕ) (p : ℕ) → (line_step F t variables a added p).a ≤ a + 1
unfolding Few line_step
step_few F t variables a added p = few_step F t variables a added (line_at t p)

-- ---- a line after which the check does not go on adds none
Kept : ℕ → Left → Type 0
Kept a l = (l.code ≡ 0 → ⊥) → l.a ≡ a

kept_cond : (a : ℕ) (b : Bool) (x y : Left) → Kept a x → Kept a y → Kept a (cond b x y)
kept_cond a true x y h k = h
kept_cond a false x y h k = k

kept_step : (F : Formula) (t : List ℕ) (variables a : ℕ) (added : List ℕ) (l : Line) → Kept a (step_of F t variables a added l)
unfolding Kept step_of add_step delete_step concluded
kept_step F t variables a added no_line = λ d. refl
kept_step F t variables a added (deletion at next) = λ d. refl
kept_step F t variables a added (addition id at end hints next) =
    let same : (k : ℕ) → Kept a (stop k a added) = λ k d. refl in
    let more : Kept a (left 0 (a + 1) next (pushed added a id at end)) = λ d. absurd (d refl) in
    kept_cond a (ltb (last_id (length F) a added) id) _ _
    (kept_cond a (literals_good variables (literals_at t at)) _ _
    (kept_cond a (not (is_empty (literals_at t at)) && not (fits (a + 1) added)) _ _ (same 22)
    (kept_cond a (eqb (hints_of F t a added (falsified unset (literals_at t at)) hints) 0) _ _
    (kept_cond a (is_empty (literals_at t at)) _ _ (same 1) more) (same _)))
    (same 18))
    (same 17)

pub step_kept : (F : Formula) (t : List ℕ) (variables a : ℕ) (added : List ℕ) (p : ℕ) → ((line_step F t variables a added p).code ≡ 0 → ⊥)
    → (line_step F t variables a added p).a ≡ a
unfolding Kept line_step
step_kept F t variables a added p = kept_step F t variables a added (line_at t p)

-- ---- no code is above the number of the last refusal
Low : Left → Type 0
Low l = l.code ≤ 24

low_cond : (b : Bool) (x y : Left) → Low x → Low y → Low (cond b x y)
low_cond true x y h k = h
low_cond false x y h k = k

low_step : (F : Formula) (t : List ℕ) (variables a : ℕ) (added : List ℕ) (l : Line) → Low (step_of F t variables a added l)
unfolding Low step_of add_step delete_step concluded hints_of
low_step F t variables a added no_line = omega arith
low_step F t variables a added (deletion at next) = delete_low (length F) a added (ids_at t at)
low_step F t variables a added (addition id at end hints next) =
    low_cond (ltb (last_id (length F) a added) id) _ _
    (low_cond (literals_good variables (literals_at t at)) _ _
    (low_cond (not (is_empty (literals_at t at)) && not (fits (a + 1) added)) _ _ (omega arith)
    (low_cond (eqb (hints_of F t a added (falsified unset (literals_at t at)) hints) 0) _ _
    (low_cond (is_empty (literals_at t at)) _ _ (omega arith) (omega arith))
    (hinted_low (stands_in (length F) a added) (clause_at F t a added) (ids_at t hints) (falsified unset (literals_at t at)))))
    (omega arith))
    (omega arith)

low_lines : (f : ℕ) (F : Formula) (t : List ℕ) (variables a : ℕ) (added : List ℕ) (p : ℕ) → Low (lines_from f F t variables a added p)
unfolding Low lines_from line_step
low_lines zero F t variables a added p = omega arith
low_lines (suc f) F t variables a added p =
    low_cond (ltb p (length t)) _ _
    (low_cond (eqb (step_of F t variables a added (line_at t p)).code 0) _ _
    (low_lines f F t variables _ _ _) (low_step F t variables a added (line_at t p)))
    (omega arith)

pub lines_low : (F : Formula) (t : List ℕ) (variables : ℕ) (added : List ℕ) → (lines_of F t variables added).code ≤ 24
unfolding Low lines_of
lines_low F t variables added = low_lines (length t) F t variables 0 added 0

-- ---- the lines under way: all of them end as those from p on do
pub record Going (F : Formula) (t : List ℕ) (variables : ℕ) (added₀ : List ℕ) (a : ℕ) (added : List ℕ) (p : ℕ) : Type 0 where
  pub so_far : lines_of F t variables added₀ ≡ lines_from (length t - p) F t variables a added p
  pub inside : p ≤ length t
  pub few : a ≤ p
  pub additions : AddedInText (length F) t a added (variables + 1)
  pub long : length added ≡ length added₀

pub going_start : (F : Formula) (t : List ℕ) (variables : ℕ) (added : List ℕ) → Going F t variables added 0 added 0
unfolding lines_of
going_start F t variables added =
    record {
      so_far = ap (λ (f : ℕ). lines_from f F t variables 0 added 0) (let z : length t ≡ length t - 0 = omega arith in z);
      inside = omega arith;
      few = omega arith;
      additions = additions_none (length F) t added (variables + 1);
      long = refl;
    }

-- any number of turns that reaches the text's end gives the same
lines_same : (f g : ℕ) (F : Formula) (t : List ℕ) (variables a : ℕ) (added : List ℕ) (p : ℕ) → AddedInText (length F) t a added (variables + 1)
    → length t ≤ p + f → length t ≤ p + g → lines_from f F t variables a added p ≡ lines_from g F t variables a added p
unfolding lines_from
lines_same zero zero F t variables a added p additions h k = refl
lines_same zero (suc g) F t variables a added p additions h k = rw (le-ltb p (length t) (omega arith))
lines_same (suc f) zero F t variables a added p additions h k = rw (le-ltb p (length t) (omega arith))
lines_same (suc f) (suc g) F t variables a added p additions h k =
    go (line_step F t variables a added p) (line_goes F t variables a added p additions) (λ b l q i x y. lines_same f g F t variables b l q i x y)
  where
    go : (l : Left) → (l.code ≡ 0 → Went (length F) t (variables + 1) p l)
        → ((b : ℕ) (m : List ℕ) (q : ℕ) → AddedInText (length F) t b m (variables + 1) → length t ≤ q + f → length t ≤ q + g → lines_from f F t variables b m q ≡ lines_from g F t variables b m q)
        → cond (ltb p (length t)) (on_left l (λ b m q. lines_from f F t variables b m q)) (stop 23 a added)
        ≡ cond (ltb p (length t)) (on_left l (λ b m q. lines_from g F t variables b m q)) (stop 23 a added)
    go l w rest = ap (λ (x : Left). cond (ltb p (length t)) x (stop 23 a added)) (on (eq? l.code 0))
      where
        on : (l.code ≡ 0) ⊎ (l.code ≡ 0 → ⊥) → on_left l (λ b m q. lines_from f F t variables b m q) ≡ on_left l (λ b m q. lines_from g F t variables b m q)
        on (inl z) = let v = w z in rw (eq-eqb l.code 0 z) (rest l.a l.added l.next v.additions (omega (arith, v.low)) (omega (arith, v.low)))
        on (inr d) = rw (ne_eqb l.code 0 d)

module _ {F : Formula} {t : List ℕ} {variables : ℕ} {added₀ : List ℕ} {a : ℕ} {added : List ℕ} {p : ℕ} (s : Going F t variables added₀ a added p) where
  turn : lines_of F t variables added₀ ≡ lines_from (suc (length t - p)) F t variables a added p
  turn = s.so_far ∙ lines_same (length t - p) (suc (length t - p)) F t variables a added p s.additions (omega (arith, s.inside)) (omega (arith, s.inside))

  pub lines_end : length t ≤ p → stop 23 a added ≡ lines_of F t variables added₀
  unfolding lines_from
  lines_end h = sym (turn ∙ rw (le-ltb p (length t) h))

  module _ (h : p < length t) (l : Left) (is : l ≡ line_step F t variables a added p) where
    pub lines_stop : (l.code ≡ 0 → ⊥) → stop l.code l.a l.added ≡ lines_of F t variables added₀
    unfolding lines_from
    lines_stop d = sym (turn ∙ rw (lt-ltb p (length t) h, ← is, ne_eqb l.code 0 d))

    pub lines_went : l.code ≡ 0 → Went (length F) t (variables + 1) p l
    lines_went z = rw is (line_goes F t variables a added p s.additions (ap (λ (x : Left). x.code) (sym is) ∙ z))

    pub lines_kept : (l.code ≡ 0 → ⊥) → l.a ≡ a
    lines_kept d = ap (λ (x : Left). x.a) is ∙ step_kept F t variables a added p (λ z. d (ap (λ (x : Left). x.code) is ∙ z))

    -- what the lines end in where one of them stops
    pub lines_ended : (l.code ≡ 0 → ⊥) → (o : Outcome) → o ≡ outcome_of l.code → (n : List ℕ) → n ≡ l.added
        → Ends (lines_of F t variables added₀) (record { outcome = o; count = a }) n
    lines_ended d o q n z =
        let e = lines_stop d in
        record {
          outcome = q ∙ ap (λ (x : Left). outcome_of x.code) e;
          count = sym (lines_kept d) ∙ ap (λ (x : Left). x.a) e;
          records = z ∙ ap (λ (x : Left). x.added) e;
        }

    pub lines_none : (n : List ℕ) → Leaves l (Ok None) n → Ends (lines_of F t variables added₀) (record { outcome = Ok tt; count = a }) n
    lines_none n r =
        let z = none_is l r.result in
        lines_ended (λ e. omega (arith, z, e)) (Ok tt) (outcome_none l.code z) n r.records

    pub lines_refused : (x : Refusal) (n : List ℕ) → Leaves l (Err x) n → Ends (lines_of F t variables added₀) (record { outcome = Err x; count = a }) n
    lines_refused x n r =
        let z = err_is l x r.result in
        lines_ended z.0 (Err x) z.1 n r.records

    -- no more records than bytes
    pub lines_few : l.a ≤ p + 1
    lines_few = let h = step_few F t variables a added p in let e : l.a ≡ (line_step F t variables a added p).a = ap (λ (x : Left). x.a) is in omega (arith, s.few)

    pub lines_more : l.code ≡ 0 → length l.added ≡ length added → Going F t variables added₀ l.a l.added l.next
    unfolding lines_from
    lines_more z n =
        let w = lines_went z in
        record {
          so_far = (turn ∙ rw (lt-ltb p (length t) h, ← is, eq-eqb l.code 0 z))
              ∙ lines_same (length t - p) (length t - l.next) F t variables l.a l.added l.next w.additions (omega (arith, w.low)) (omega (arith, w.high));
          inside = w.high;
          few = omega (arith, lines_few, w.low);
          additions = w.additions;
          long = n ∙ s.long;
        }

    -- and where it goes on
    pub lines_on : (x : Step) (n : List ℕ) → Leaves l (Ok (Some x)) n → length n ≡ length added
        → Going F t variables added₀ x.a n x.next × (p < x.next) × (x.next ≤ length t)
    lines_on x n r k =
        let q = on_is l x r.result in
        let w = lines_went q.0 in (
          subst (λ (b : ℕ). Going F t variables added₀ b n x.next) (sym q.1)
              (subst (λ (j : ℕ). Going F t variables added₀ l.a n j) (sym q.2)
              (subst (λ (m : List ℕ). Going F t variables added₀ l.a m l.next) (sym r.records) (lines_more q.0 (ap length (sym r.records) ∙ k)))),
          omega (arith, w.low, q.2),
          omega (arith, w.high, q.2),
        )

  pub lines_over : length t ≤ p → Ends (lines_of F t variables added₀) (record { outcome = Err TextEnds; count = a }) added
  unfolding outcome_of
  lines_over h =
      let e = lines_end h in
      record {
        outcome = ap (λ (x : Left). outcome_of x.code) e;
        count = ap (λ (x : Left). x.a) e;
        records = ap (λ (x : Left). x.added) e;
      }

-- the lines never end in 0
lines_from_coded : (f : ℕ) (F : Formula) (t : List ℕ) (variables a : ℕ) (added : List ℕ) (p : ℕ) → (lines_from f F t variables a added p).code ≡ 0 → ⊥
unfolding lines_from
lines_from_coded zero F t variables a added p e = omega arith
lines_from_coded (suc f) F t variables a added p e =
    go (ltb p (length t)) (line_step F t variables a added p) (λ b l q z. lines_from_coded f F t variables b l q z) e
  where
    Rest : Type 0
    Rest = (b : ℕ) (m : List ℕ) (q : ℕ) → (lines_from f F t variables b m q).code ≡ 0 → ⊥

    on : (l : Left) → Rest → (l.code ≡ 0) ⊎ (l.code ≡ 0 → ⊥) → (on_left l (λ b m q. lines_from f F t variables b m q)).code ≡ 0 → ⊥
    on l rest (inl z) x = rest l.a l.added l.next (rw (eq-eqb l.code 0 z) at x)
    on l rest (inr d) x = d (rw (ne_eqb l.code 0 d) at x)

    go : (b : Bool) (l : Left) → Rest → (cond b (on_left l (λ b m q. lines_from f F t variables b m q)) (stop 23 a added)).code ≡ 0 → ⊥
    go true l rest x = on l rest (eq? l.code 0) x
    go false l rest x = omega arith

pub lines_coded : (F : Formula) (t : List ℕ) (variables : ℕ) (added : List ℕ) → (lines_of F t variables added).code ≡ 0 → ⊥
unfolding lines_of
lines_coded F t variables added = lines_from_coded (length t) F t variables 0 added 0

-- ---- so the outcome of lines over any formula has the number that the rule gives
pub lines_number : (F : Formula) (t : List ℕ) (variables : ℕ) (added : List ℕ)
    → outcome_number (outcome_of (lines_of F t variables added).code) ≡ end_number (lines_of F t variables added).code
unfolding outcome_of end_number
lines_number F t variables added = by (lines_of F t variables added).code (lines_low F t variables added) (lines_coded F t variables added)
  where
    by : (k : ℕ) → k ≤ 24 → (k ≡ 0 → ⊥) → outcome_number (outcome_of k) ≡ end_number k
    by k h n =
        ⊎_elim (λ (z : k ≡ 1). rw (eq-eqb k 1 z)) (λ (d : k ≡ 1 → ⊥). rw (ne_eqb k 1 d) (numbered_back k n h)) (eq? k 1)

-- and in numbers it is the ending in their code: "none", or a refusal with that very number
pub lines_ending : (F : Formula) (t : List ℕ) (variables : ℕ) (added : List ℕ)
    → in_numbers (outcome_of (lines_of F t variables added).code) ≡ ending_of (lines_of F t variables added).code
unfolding outcome_of ending_of
lines_ending F t variables added = by (lines_of F t variables added).code (lines_low F t variables added) (lines_coded F t variables added)
  where
    by : (k : ℕ) → k ≤ 24 → (k ≡ 0 → ⊥) → in_numbers (outcome_of k) ≡ ending_of k
    by k h n =
        ⊎_elim (λ (z : k ≡ 1). rw (eq-eqb k 1 z)) (λ (d : k ≡ 1 → ⊥). rw (ne_eqb k 1 d) (ap refused (numbered_back k n h))) (eq? k 1)
