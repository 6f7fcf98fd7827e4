-- The form of a line by its tests, and the places that it names. Assumes nothing.
use Rattle.std.specs.Prelude.{◌≡◌, refl, List, ◌⊎◌, length}
use Rattle.std.proofs.Common.{inl, inr, arith}
use Prim.Native.Nat.{ℕ, zero, suc, ◌+◌, ◌≤◌, ◌<◌}
use borrow.Author.Tests.{eq-eqb, ne_eqb}
use Rattle.prelude.specs.Tests.{eq?}
use Rattle.numeral.specs.Number.{Read, byte_at, literal_at}
use Rattle.lrat.specs.Words.{Reader, plain_at, Run, run, run_from, run_at, Line, no_line, addition, deletion, closed, deletion_at, hints_after, addition_at, line_after, line_at}
use Rattle.lrat.specs.Words.Laws.{Reads, read_there}

-- ---- by its tests
closed_none : (t : List ℕ) (e : ℕ) (l : Line) → e ≡ 0 → closed t e l ≡ no_line
closed_none t e l z = rw (eq-eqb e 0 z)

closed_open : (t : List ℕ) (e : ℕ) (l : Line) → (e ≡ 0 → ⊥) → (byte_at t e ≡ 10 → ⊥) → closed t e l ≡ no_line
closed_open t e l d o = rw (ne_eqb e 0 d, ne_eqb (byte_at t e) 10 o)

closed_good : (t : List ℕ) (e : ℕ) (l : Line) → (e ≡ 0 → ⊥) → byte_at t e ≡ 10 → closed t e l ≡ l
closed_good t e l d o = rw (ne_eqb e 0 d, eq-eqb (byte_at t e) 10 o)

module _ (t : List ℕ) (p e : ℕ) (is : e ≡ (run_at plain_at t p).next) where
  pub deletion_none : e ≡ 0 → deletion_at t p ≡ no_line
  unfolding deletion_at
  deletion_none z = rw (← is) (closed_none t e _ z)

  pub deletion_open : (e ≡ 0 → ⊥) → (byte_at t e ≡ 10 → ⊥) → deletion_at t p ≡ no_line
  unfolding deletion_at
  deletion_open d o = rw (← is) (closed_open t e _ d o)

  pub deletion_good : (e ≡ 0 → ⊥) → byte_at t e ≡ 10 → deletion_at t p ≡ deletion p (e + 1)
  unfolding deletion_at
  deletion_good d o = rw (← is) (closed_good t e _ d o)

module _ (t : List ℕ) (id p : ℕ) (end l : ℕ) (is : run end l ≡ run_at literal_at t p) where
  pub addition_none : l ≡ 0 → addition_at t id p ≡ no_line
  unfolding addition_at hints_after
  addition_none z = rw (← is, eq-eqb l 0 z)

  module _ (there : l ≡ 0 → ⊥) (h : ℕ) (hints : h ≡ (run_at plain_at t l).next) where
    pub addition_hintless : h ≡ 0 → addition_at t id p ≡ no_line
    unfolding addition_at hints_after
    addition_hintless z = rw (← is, ne_eqb l 0 there, ← hints) (closed_none t h _ z)

    pub addition_open : (h ≡ 0 → ⊥) → (byte_at t h ≡ 10 → ⊥) → addition_at t id p ≡ no_line
    unfolding addition_at hints_after
    addition_open d o = rw (← is, ne_eqb l 0 there, ← hints) (closed_open t h _ d o)

    pub addition_good : (h ≡ 0 → ⊥) → byte_at t h ≡ 10 → addition_at t id p ≡ addition id p end l (h + 1)
    unfolding addition_at hints_after
    addition_good d o = rw (← is, ne_eqb l 0 there, ← hints) (closed_good t h _ d o)

module _ (t : List ℕ) (p : ℕ) (w : Read) (is : w ≡ plain_at t p) where
  pub line_none : w.next ≡ 0 → line_at t p ≡ no_line
  unfolding line_at line_after
  line_none z = rw (← is, eq-eqb w.next 0 z)

  module _ (there : w.next ≡ 0 → ⊥) where
    pub line_open : (byte_at t w.next ≡ 32 → ⊥) → line_at t p ≡ no_line
    unfolding line_at line_after
    line_open d = rw (← is, ne_eqb w.next 0 there, ne_eqb (byte_at t w.next) 32 d)

    pub line_deletion : byte_at t w.next ≡ 32 → byte_at t (w.next + 1) ≡ 100 → line_at t p ≡ deletion_at t (w.next + 2)
    unfolding line_at line_after
    line_deletion e d = rw (← is, ne_eqb w.next 0 there, eq-eqb (byte_at t w.next) 32 e, eq-eqb (byte_at t (w.next + 1)) 100 d)

    pub line_addition : byte_at t w.next ≡ 32 → (byte_at t (w.next + 1) ≡ 100 → ⊥) → line_at t p ≡ addition_at t w.value w.next
    unfolding line_at line_after
    line_addition e d = rw (← is, ne_eqb w.next 0 there, eq-eqb (byte_at t w.next) 32 e, ne_eqb (byte_at t (w.next + 1)) 100 d)

-- ---- the places of a run that has the form
pub record Ran (t : List ℕ) (p : ℕ) (r : Run) : Type 0 where
  pub low : p ≤ r.end
  pub mid : r.end < r.next
  pub high : r.next ≤ length t
  pub full : (r.end ≡ p → ⊥) → p + 1 < r.end

module _ (read : Reader) (reads : Reads read) where
  ran_last : (t : List ℕ) (p : ℕ) → ((read t (p + 1)).next ≡ 0 → ⊥) → Ran t p (run p (read t (p + 1)).next)
  ran_last t p d =
      let r = read_there read reads t (p + 1) d in
      record { low = omega arith; mid = omega (arith, r.low); high = r.high; full = λ f. absurd (f refl) }

  ran_more : (t : List ℕ) (p : ℕ) (r : Run) → ((read t (p + 1)).next ≡ 0 → ⊥) → Ran t (read t (p + 1)).next r → Ran t p r
  ran_more t p r d k =
      let s = read_there read reads t (p + 1) d in
      record { low = omega (arith, s.low, k.low); mid = k.mid; high = k.high; full = λ f. omega (arith, s.low, k.low) }

  ran_from : (f : ℕ) (t : List ℕ) (p : ℕ) → ((run_from read f t p).next ≡ 0 → ⊥) → Ran t p (run_from read f t p)
  unfolding run_from
  ran_from zero t p d = absurd (d refl)
  ran_from (suc f) t p d =
      go (eq? (byte_at t p) 32) (eq? (read t (p + 1)).next 0) (eq? (read t (p + 1)).value 0) (ran_from f t (read t (p + 1)).next) d
    where
      R : Run → Type 0
      R r = (r.next ≡ 0 → ⊥) → Ran t p r

      bad : R (run 0 0)
      bad n = absurd (n refl)

      go : (byte_at t p ≡ 32) ⊎ (byte_at t p ≡ 32 → ⊥) → ((read t (p + 1)).next ≡ 0) ⊎ ((read t (p + 1)).next ≡ 0 → ⊥)
          → ((read t (p + 1)).value ≡ 0) ⊎ ((read t (p + 1)).value ≡ 0 → ⊥)
          → (((run_from read f t (read t (p + 1)).next).next ≡ 0 → ⊥) → Ran t (read t (p + 1)).next (run_from read f t (read t (p + 1)).next))
          → R (run_from read (suc f) t p)
      go (inr n) b c k = rw (ne_eqb (byte_at t p) 32 n) bad
      go (inl s) (inl z) c k = rw (eq-eqb (byte_at t p) 32 s, eq-eqb (read t (p + 1)).next 0 z) bad
      go (inl s) (inr n) (inl z) k =
          rw (eq-eqb (byte_at t p) 32 s, ne_eqb (read t (p + 1)).next 0 n, eq-eqb (read t (p + 1)).value 0 z) (λ _. ran_last t p n)
      go (inl s) (inr n) (inr z) k =
          rw (eq-eqb (byte_at t p) 32 s, ne_eqb (read t (p + 1)).next 0 n, ne_eqb (read t (p + 1)).value 0 z)
          (λ o. ran_more t p (run_from read f t (read t (p + 1)).next) n (k o))

  pub ran : (t : List ℕ) (p : ℕ) → ((run_at read t p).next ≡ 0 → ⊥) → Ran t p (run_at read t p)
  unfolding run_at
  ran t p = ran_from (length t + 1) t p
