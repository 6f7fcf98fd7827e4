-- One literal under the bytes, and a line's literals set false one by one. Assumes nothing.
use Rattle.std.specs.Prelude.{◌≡◌, refl, Bool, true, false, not, ◌&&◌, List, [], ◌∷◌, ◌⊎◌, ℕ, zero, suc, ◌+◌, ◌-◌, ◌≤◌, ◌<◌, eqb, leb, ltb, get_or, set}
use Rattle.std.proofs.Math.Path.{sym, ap, fun_ext}
use Rattle.std.proofs.Common.{◌∙◌, inl, inr, arith, get_or-set_same, get_or-set_other}
use Rattle.std.proofs.Math.Option.{none, some}
use Rattle.std.proofs.Math.ListN.{length, length-set}
use Rattle.std.proofs.lemmas.List.{length-replicate}
use borrow.Author.Tests.{eq-eqb, ne_eqb, le-leb, lt-leb, lt-ltb, le-ltb}
use Rattle.prelude.specs.Tests.{eq?, le?}
use Rattle.cnf.specs.Cnf.{Clause}
use Rattle.numeral.specs.Number.{Read, byte_at, literal_at}
use Rattle.lrat.specs.declared.LiteralsRead.{LiteralsRead}
use Rattle.lrat.specs.Rules.{Values, unset, assign, literal_value, falsified, named, literals_good}
use Rattle.lrat.specs.Words.{literal, literal_of, literals_at, run, run_at}
use Rattle.lrat.specs.Words.Laws.{literal_reads, literals_none, literals_more, run_unspaced, run_wordless, run_last, run_more}
use Rattle.lrat.specs.Bytes.{values_in, DuringLine, BeforeLine, zeros, AfterLiterals}

-- ---- the value of a literal by its byte
module _ (g : ℕ) (vs : List ℕ) (m v : ℕ) where
  -- a byte below the stamp
  pub value_unset : get_or vs v 0 < g → literal_value (values_in g vs) (literal m v) ≡ none
  value_unset h = rw (lt-ltb (get_or vs v 0) g h)

  -- the stamp and the minus
  pub value_false : m ≤ 1 → get_or vs v 0 ≡ g + m → literal_value (values_in g vs) (literal m v) ≡ some false
  value_false h e = go m h e
    where
      go : (k : ℕ) → k ≤ 1 → get_or vs v 0 ≡ g + k → literal_value (values_in g vs) (literal k v) ≡ some false
      go zero h e = rw (le-ltb (get_or vs v 0) g (omega arith), le-ltb g (get_or vs v 0) (omega arith))
      go (suc zero) h e = rw (le-ltb (get_or vs v 0) g (omega arith), lt-ltb g (get_or vs v 0) (omega arith))
      go (suc (suc k)) h e = absurd (omega arith)

  -- the other byte of the stamp
  pub value_true : m ≤ 1 → (get_or vs v 0 ≡ g + m → ⊥) → g ≤ get_or vs v 0 → get_or vs v 0 ≤ g + 1 → literal_value (values_in g vs) (literal m v) ≡ some true
  value_true h d l u = go m h d
    where
      go : (k : ℕ) → k ≤ 1 → (get_or vs v 0 ≡ g + k → ⊥) → literal_value (values_in g vs) (literal k v) ≡ some true
      go zero h d =
          let z : get_or vs v 0 ≡ g → ⊥ = λ e. d (omega arith) in
          rw (le-ltb (get_or vs v 0) g l, lt-ltb g (get_or vs v 0) (omega arith))
      go (suc zero) h d = rw (le-ltb (get_or vs v 0) g l, le-ltb g (get_or vs v 0) (omega arith))
      go (suc (suc k)) h d = absurd (omega arith)

-- ---- setting a byte
-- to the stamp or the one above it
assigned : (g : ℕ) (vs : List ℕ) (v b : ℕ) → g ≤ b → v < length vs → values_in g (set vs v b) ≡ assign (values_in g vs) v (ltb g b)
assigned g vs v b l h = fun_ext (λ u. go u (eq? u v))
  where
    go : (u : ℕ) → (u ≡ v) ⊎ (u ≡ v → ⊥) → values_in g (set vs v b) u ≡ assign (values_in g vs) v (ltb g b) u
    go u (inl e) = rw (e, get_or-set_same vs v b 0 h, eq-eqb v v refl, le-ltb b g l)
    go u (inr d) = rw (get_or-set_other vs v u b 0 d, ne_eqb u v d)

stamp_sign : (g m : ℕ) → m ≤ 1 → ltb g (g + m) ≡ eqb m 1
stamp_sign g zero h = le-ltb g (g + 0) (omega arith)
stamp_sign g (suc zero) h = lt-ltb g (g + 1) (omega arith)
stamp_sign g (suc (suc m)) h = absurd (omega arith)

stamp_turned : (g m : ℕ) → m ≤ 1 → ltb g (g + 1 - m) ≡ eqb m 0
stamp_turned g zero h = lt-ltb g (g + 1 - 0) (omega arith)
stamp_turned g (suc zero) h = le-ltb g (g + 1 - 1) (omega arith)
stamp_turned g (suc (suc m)) h = absurd (omega arith)

-- a literal set false, and an unset literal set true
pub set_false : (g : ℕ) (vs : List ℕ) (m v : ℕ) → m ≤ 1 → v < length vs → values_in g (set vs v (g + m)) ≡ assign (values_in g vs) v (eqb m 1)
set_false g vs m v h l = assigned g vs v (g + m) (omega arith) l ∙ ap (assign (values_in g vs) v) (stamp_sign g m h)

pub set_true : (g : ℕ) (vs : List ℕ) (m v : ℕ) → m ≤ 1 → v < length vs → values_in g (set vs v (g + 1 - m)) ≡ assign (values_in g vs) v (eqb m 0)
set_true g vs m v h l = assigned g vs v (g + 1 - m) (omega arith) l ∙ ap (assign (values_in g vs) v) (stamp_turned g m h)

set_past : (vs : List ℕ) (v b : ℕ) → length vs ≤ v → set vs v b ≡ vs
set_past [] v b h = refl
set_past (x ∷ vs) zero b h = absurd (omega arith)
set_past (x ∷ vs) (suc v) b h = ap (λ (l : List ℕ). x ∷ l) (set_past vs v b (omega arith))

pub set_during : (g : ℕ) (vs : List ℕ) (v b : ℕ) → b ≤ g + 1 → DuringLine g vs → DuringLine g (set vs v b)
set_during g vs v b h s = record { most = λ u. go u (eq? u v) (le? (length vs) v) }
  where
    go : (u : ℕ) → (u ≡ v) ⊎ (u ≡ v → ⊥) → (length vs ≤ v) ⊎ (v < length vs) → get_or (set vs v b) u 0 ≤ g + 1
    go u (inl e) (inr l) = rw (e, get_or-set_same vs v b 0 l) h
    go u (inl e) (inl l) = rw (set_past vs v b l) (s.most u)
    go u (inr d) k = rw (get_or-set_other vs v u b 0 d) (s.most u)

-- ---- from line to line
-- under the next stamp what a line set is unset
pub during_before : (g : ℕ) (vs : List ℕ) → DuringLine g vs → BeforeLine (g + 2) vs
during_before g vs s = record { less = λ u. omega (arith, s.most u) }

get_d_zeros : (n u : ℕ) → get_or (zeros n) u 0 ≡ 0
unfolding zeros
get_d_zeros zero u = refl
get_d_zeros (suc n) zero = refl
get_d_zeros (suc n) (suc u) = get_d_zeros n u

pub zeros_before : (n : ℕ) → BeforeLine 1 (zeros n)
zeros_before n = record { less = λ u. omega (arith, get_d_zeros n u) }

-- before a line the bytes are as they may be during it
pub before_during : (g : ℕ) (vs : List ℕ) → BeforeLine g vs → DuringLine g vs
before_during g vs o = record { most = λ u. omega (arith, o.less u) }

pub zeros_length : (n : ℕ) → length (zeros n) ≡ n
unfolding zeros
zeros_length n = length-replicate n 0

-- ---- a line's literals are being set
-- no variable of the literals has a value yet
unfoldable pub fresh : ℕ → List ℕ → Clause → Bool
fresh g vs [] = true
fresh g vs (l ∷ c) = ltb (get_or vs l.variable 0) g && fresh g vs c

fresh_before : (g : ℕ) (vs : List ℕ) → BeforeLine g vs → (c : Clause) → fresh g vs c ≡ true
unfolding fresh
fresh_before g vs o [] = refl
fresh_before g vs o (l ∷ c) = rw (lt-ltb (get_or vs l.variable 0) g (o.less l.variable)) (fresh_before g vs o c)

-- a variable that is set is not fresh any more
fresh_set : (g : ℕ) (vs : List ℕ) (v b : ℕ) → g ≤ b → v < length vs → (c : Clause) → fresh g (set vs v b) c ≡ (not (named v c) && fresh g vs c)
unfolding fresh
fresh_set g vs v b z h [] = refl
fresh_set g vs v b z h (l ∷ c) = go (eq? v l.variable) (fresh_set g vs v b z h c)
  where
    move : (x y w : Bool) → (x && (y && w)) ≡ (y && (x && w))
    move true y w = refl
    move false true w = refl
    move false false w = refl

    go : (v ≡ l.variable) ⊎ (v ≡ l.variable → ⊥) → fresh g (set vs v b) c ≡ (not (named v c) && fresh g vs c)
        → fresh g (set vs v b) (l ∷ c) ≡ (not (named v (l ∷ c)) && fresh g vs (l ∷ c))
    go (inl e) k = rw (← e, get_or-set_same vs v b 0 h, eq-eqb v v refl, le-ltb b g z)
    go (inr d) k =
        rw (get_or-set_other vs v l.variable b 0 (λ e. d (sym e)), ne_eqb v l.variable d, k)
        (move (ltb (get_or vs l.variable 0) g) (not (named v c)) (fresh g vs c))

-- the pass over the literals under way: the form, what is said of all literals by those from p on, and the values so far
pub record ReadingLiterals (g variables : ℕ) (t : List ℕ) (at p : ℕ) (good : Bool) (vs : List ℕ) : Type 0 where
  pub long : length vs ≡ variables + 1
  pub during : DuringLine g vs
  pub form : run_at literal_at t at ≡ run_at literal_at t p
  pub so_far : literals_good variables (literals_at t at) ≡ (good && (literals_good variables (literals_at t p) && fresh g vs (literals_at t p)))
  pub vals : good ≡ true → falsified unset (literals_at t at) ≡ falsified (values_in g vs) (literals_at t p)

and_true : (b : Bool) → b ≡ (b && true)
and_true true = refl
and_true false = refl

pub reading_start : (g variables : ℕ) (t : List ℕ) (at : ℕ) (vs : List ℕ) → length vs ≡ variables + 1 → BeforeLine g vs → ReadingLiterals g variables t at at true vs
reading_start g variables t at vs h o =
    record {
      long = h;
      during = record { most = λ u. omega (arith, o.less u) };
      form = refl;
      so_far = rw (fresh_before g vs o (literals_at t at)) (and_true (literals_good variables (literals_at t at)));
      vals = λ _. ap (λ (τ : Values). falsified τ (literals_at t at)) (fun_ext (λ u. rw (lt-ltb (get_or vs u 0) g (o.less u))));
    }

no_true : {A : Type 0} → false ≡ true → A
no_true e = absurd (let z : ◌≡◌ {A = ℕ} 0 1 = cc in omega arith)

module _ {g variables : ℕ} {t : List ℕ} {at p : ℕ} {good : Bool} {vs : List ℕ} (s : ReadingLiterals g variables t at p good vs) where
  -- a run that has not the form
  bad_run : run_at literal_at t p ≡ run 0 0 → (r : LiteralsRead) → r.end ≡ 0 → r.next ≡ 0 → AfterLiterals g variables t at r vs
  bad_run e r x y =
      record { form = rw (x, y) (sym (s.form ∙ e)); during = s.during; good = λ d. absurd (d y); vals = λ d. absurd (d y) }

  pub literals_unspaced : (byte_at t p ≡ 32 → ⊥) → (r : LiteralsRead) → r.end ≡ 0 → r.next ≡ 0 → AfterLiterals g variables t at r vs
  literals_unspaced d = bad_run (run_unspaced literal_at literal_reads t p d)

  module _ (w : Read) (is : w ≡ literal_at t (p + 1)) (space : byte_at t p ≡ 32) where
    pub literals_wordless : w.next ≡ 0 → (r : LiteralsRead) → r.end ≡ 0 → r.next ≡ 0 → AfterLiterals g variables t at r vs
    literals_wordless e = bad_run (run_wordless literal_at literal_reads t p w is space e)

    module _ (there : w.next ≡ 0 → ⊥) where
      -- the 0 ends the literals
      pub literals_end : w.value ≡ 0 → (r : LiteralsRead) → r.end ≡ p → r.next ≡ w.next → r.good ≡ good → AfterLiterals g variables t at r vs
      unfolding fresh
      literals_end z r x y q =
          let n = literals_none t p w is z in
          record {
            form = rw (x, y) (sym (s.form ∙ run_last literal_at literal_reads t p w is space there z));
            during = s.during;
            good = λ _. q ∙ sym (s.so_far ∙ rw n (sym (and_true good)));
            vals = λ _ e. sym (s.vals (sym q ∙ e) ∙ ap (falsified (values_in g vs)) n);
          }

      module _ (more : w.value ≡ 0 → ⊥) where
        on : run_at literal_at t at ≡ run_at literal_at t w.next
        on = s.form ∙ run_more literal_at literal_reads t p w is space there more

        next_is : literals_at t p ≡ literal_of w ∷ literals_at t w.next
        next_is = literals_more t p w is more

        -- past the first refused literal the answer is no, whatever is set
        refused : literals_good variables (literals_at t at) ≡ false → (us : List ℕ) → length us ≡ variables + 1 → DuringLine g us → ReadingLiterals g variables t at w.next false us
        refused e us l m = record { long = l; during = m; form = on; so_far = e; vals = λ q. no_true q }

        and_no : (a b c : Bool) → (a && (b && (false && c))) ≡ false
        and_no true true c = refl
        and_no true false c = refl
        and_no false b c = refl

        high : (a x y z : Bool) → (a && ((x && (false && y)) && z)) ≡ false
        high true true y z = refl
        high true false y z = refl
        high false x y z = refl

        -- a variable above V
        pub reading_high : variables < w.value → ReadingLiterals g variables t at w.next false vs
        reading_high h =
            refused
            (s.so_far ∙ rw (next_is, lt-leb w.value variables h) (high good (leb 1 w.value) (not (named w.value (literals_at t w.next)) && literals_good variables (literals_at t w.next)) (fresh g vs (literal_of w ∷ literals_at t w.next))))
            vs s.long s.during

        -- a variable that has a value in this line
        pub reading_twice : g ≤ get_or vs w.value 0 → ReadingLiterals g variables t at w.next false vs
        unfolding fresh
        reading_twice h =
            refused
            (s.so_far ∙ rw (next_is, le-ltb (get_or vs w.value 0) g h) (and_no good (literals_good variables (literal_of w ∷ literals_at t w.next)) (fresh g vs (literals_at t w.next))))
            vs s.long s.during

        and_swap : (q a b c : Bool) → (q && ((a && b) && c)) ≡ (q && (b && (a && c)))
        and_swap true true b c = refl
        and_swap true false true c = refl
        and_swap true false false c = refl
        and_swap false a b c = refl

        -- a variable inside, with none yet
        pub reading_more : w.value ≤ variables → get_or vs w.value 0 < g → w.minus ≤ 1 → ReadingLiterals g variables t at w.next good (set vs w.value (g + w.minus))
        unfolding fresh
        reading_more h o m =
            let l : w.value < length vs = omega (arith, s.long) in
            let i : 1 ≤ w.value = omega (arith, more) in
            record {
              long = length-set vs w.value (g + w.minus) ∙ s.long;
              during = set_during g vs w.value (g + w.minus) (omega arith) s.during;
              form = on;
              so_far = s.so_far ∙ rw (
                next_is,
                le-leb 1 w.value i,
                le-leb w.value variables h,
                lt-ltb (get_or vs w.value 0) g o,
                fresh_set g vs w.value (g + w.minus) (omega arith) l (literals_at t w.next),
              )
                  (and_swap good (not (named w.value (literals_at t w.next))) (literals_good variables (literals_at t w.next)) (fresh g vs (literals_at t w.next)));
              vals = λ e. s.vals e ∙ ap (falsified (values_in g vs)) next_is
                  ∙ ap (λ (τ : Values). falsified τ (literals_at t w.next)) (sym (set_false g vs w.minus w.value m l));
            }
