-- A word of a run of ids: what it says of the run, and where it ends. Assumes nothing.
use Rattle.std.specs.Prelude.{◌≡◌, refl, List, [], false, ℕ, zero, suc, ◌+◌, ◌≤◌, ◌<◌, length, IsNone, IfSome, Some, None, Result, Err}
use Rattle.std.specs.Option.{ok_or}
use Rattle.std.proofs.Common.{Option, sym, ap, ◌∙◌, ⊎_elim, arith}
use Rattle.refusal.specs.declared.Refusal.{Refusal}
use Rattle.refusal.specs.declared.Refusal.TheVariants.{LineForm}
use Rattle.refusal.specs.Refusal.{unless}
use Rattle.numeral.specs.declared.Word.{Word}
use Rattle.numeral.specs.Number.{Read, byte_at, no_word, number_at}
use Rattle.numeral.specs.Number.Places.{Ends, number_ways}
use Rattle.numeral.specs.Number.Words.{word_of, none_read, Is, number_word}
use Rattle.lrat.specs.Words.{plain_at, ids_at, run, run_at}
use Rattle.lrat.specs.Words.Laws.{plain_reads, word_there, ids_none, run_wordless, run_last, run_more}
use Rattle.lrat.specs.State.{Deleted, deleted}
use Rattle.lrat.specs.Results.{place_of, Deletes}

-- ---- the word that is read after a space
module _ (t : List ℕ) (p : ℕ) (space : byte_at t p ≡ 32) where
  pub word_none : (o : Option Word) → o ≡ word_of (number_at t (p + 1) 0) → IsNone o → run_at plain_at t p ≡ run 0 0
  word_none None e n = run_wordless plain_at plain_reads t p _ refl space (none_read _ e)
  word_none (Some w) e n = absurd (cc)

  pub word_some : (o : Option Word) → o ≡ word_of (number_at t (p + 1) 0) → IfSome o (λ w. (byte_at t p ≡ 32) × Is (number_at t (p + 1) 0) w)
  word_some None e = tt
  word_some (Some w) e = (space, number_word t (p + 1) false w e)

  -- a word there
  module _ (w : Word) (is : Is (number_at t (p + 1) 0) w) where
    pub id_past : (p + 1 < w.next) × (w.next ≤ length t)
    id_past = let e = word_there plain_at plain_reads t p _ (sym is.read) is.there in (omega (arith, e.low), e.high)

    pub id_last : w.value ≡ 0 → run_at plain_at t p ≡ run p w.next
    id_last z = run_last plain_at plain_reads t p _ (sym is.read) space is.there z

    pub id_more : (w.value ≡ 0 → ⊥) → run_at plain_at t p ≡ run_at plain_at t w.next
    id_more d = run_more plain_at plain_reads t p _ (sym is.read) space is.there d

-- ---- places
pub place_some : (n : ℕ) → (n ≡ 0 → ⊥) → Some n ≡ place_of n
place_some zero d = absurd (d refl)
place_some (suc n) d = refl

pub place_none : (n : ℕ) → None ≡ place_of n → n ≡ 0
place_none zero e = refl
place_none (suc n) e = absurd (cc)

pub place_is : (n k : ℕ) → Some k ≡ place_of n → k ≡ n
place_is zero k e = absurd (cc)
place_is (suc n) k e = cc

pub place_there : (n k : ℕ) → Some k ≡ place_of n → k ≡ 0 → ⊥
place_there zero k e z = absurd (cc)
place_there (suc n) k e z = let q : k ≡ suc n = cc in omega arith

-- ---- where nothing is read that has the form, what `ok_or` and `?` return is the refusal by form
pub formless : {A B : Type 0} {o : Option A} {r : Result B Refusal} {x : Refusal} → (y : Refusal) × (r ≡ Err y) × (y ≡ x) → Err x ≡ ok_or o LineForm → o ≡ None
    → r ≡ Err LineForm
formless p e n = let h = rw n at e in let z : p.0 ≡ LineForm = p.2 ∙ (cc) in p.1 ∙ ap Err z

-- ---- deletions
-- where no number stands there are no more ids
pub ids_wordless : (t : List ℕ) (p : ℕ) → (number_at t (p + 1) 0).next ≡ 0 → ids_at t p ≡ []
ids_wordless t p e = ⊎_elim
    (λ (n : number_at t (p + 1) 0 ≡ no_word). ids_none t p _ refl (ap (λ (r : Read). r.value) n))
    (λ (r : Ends t (p + 1) (number_at t (p + 1) 0)). absurd (omega (arith, r.low)))
    (number_ways t (p + 1) 0 (omega arith))

pub deletes : (d : Deleted) (k : ℕ) (l : List ℕ) → deleted k l ≡ d → {r : Result (Unit {0}) Refusal} → r ≡ unless k tt → Deletes d r l
deletes d k l e f = record { result = f ∙ ap (λ (x : Deleted). unless x.code tt) e; records = ap (λ (x : Deleted). x.added) e }
