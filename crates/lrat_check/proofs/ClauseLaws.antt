-- A literal of the store by its parts, and the words of a run as literals. Assumes nothing.
use Rattle.std.specs.Prelude.{◌≡◌, refl, List, ◌∷◌, [], Bool, map, ℕ, suc, ◌+◌, ◌-◌, ◌*◌, ◌≤◌, ◌<◌, length, take, drop, get_or, ℤ, pos, negsuc, nat_abs}
use Rattle.std.proofs.Common.{sym, ap, ◌∙◌, subst, arith, drop-cons, add-one}
use Rattle.std.proofs.lemmas.Bool.{lt-leb}
use Rattle.std.specs.Int as Int
use Rattle.prelude.specs.Signed.{is_negative, variable}
use Rattle.cnf.specs.declared.Literal.{Literal}
use Rattle.numeral.specs.declared.Word.{Word}
use Rattle.numeral.specs.Number.{Read, byte_at, literal_at}
use Rattle.numeral.specs.Number.Places.{literal_there, byte_in}
use Rattle.numeral.specs.Number.Words.{Is}
use Rattle.lrat.specs.Words.{literals_at, Run, run_at}
use Rattle.lrat.specs.Words.Laws.{literal_reads, literals_none, literals_more, run_spaced, run_worded, run_after, run_more}
use Rattle.lrat.specs.Bytes.{Below, literal_from, formula_in}
use Rattle.lrat.specs.State.{clause_at, Spelled}
use Rattle.lrat.proofs.StateLaws.{original_is}
use Rattle.lrat_check.specs.Refutation.Seam.{store_part}
use Rattle.lrat.proofs.BytesScan.{sign_back}

-- a signed number's sign and size are those of its literal
abs_same : (x : ℤ) → nat_abs x ≡ variable x
abs_same (pos n) = refl
abs_same (negsuc n) = refl

sign_same : (x : ℤ) → Int.is_negative x ≡ is_negative x
sign_same (pos n) = lt-leb (suc n) 0 (omega arith)
sign_same (negsuc n) = refl

pub literal_is : (x y : ℤ) (v : ℕ) (m : Bool) → v ≡ nat_abs y → m ≡ Int.is_negative y → y ≡ x → literal_from x ≡ record { variable = v; negative = m }
literal_is x y v m e f g = rw (e, f, g, abs_same x, sign_same x)

-- the literals from an entry on
pub literals_drop : (l : List ℤ) (i : ℕ) → i < length l → map literal_from (drop i l) ≡ literal_from (get_or l i (pos 0)) ∷ map literal_from (drop (i + 1) l)
literals_drop l i h = rw (drop-cons l i (pos 0) h, add-one)

-- the part of the store that a pair names is the clause
pub original_part : (C : ℕ) (lits : List ℤ) (pairs t : List ℕ) (a : ℕ) (added : List ℕ) (x : ℕ) → 1 ≤ x → x ≤ C
    → get_or pairs (2 * (x - 1)) 0 + get_or pairs (2 * (x - 1) + 1) 0 ≤ length lits
    → map literal_from (take (get_or pairs (2 * (x - 1)) 0 + get_or pairs (2 * (x - 1) + 1) 0 - get_or pairs (2 * (x - 1)) 0) (drop (get_or pairs (2 * (x - 1)) 0) lits))
    ≡ clause_at (formula_in C lits pairs) t a added x
original_part C lits pairs t a added x l h i =
    let from = get_or pairs (2 * (x - 1)) 0 in
    let n = get_or pairs (2 * (x - 1) + 1) 0 in
    ap (λ (k : ℕ). map literal_from (take k (drop from lits))) (let z : from + n - from ≡ n = omega arith in z)
    ∙ sym (store_part n lits from i) ∙ original_is C lits pairs t a added x from n l h refl refl

pub original_below : (C : ℕ) (lits : List ℤ) (pairs t : List ℕ) (a : ℕ) (added : List ℕ) (x : ℕ) → 1 ≤ x → x ≤ C
    → get_or pairs (2 * (x - 1)) 0 + get_or pairs (2 * (x - 1) + 1) 0 ≤ length lits → (m n : ℕ) → m ≡ n → Below n (clause_at (formula_in C lits pairs) t a added x)
    → Below m (map literal_from (take (get_or pairs (2 * (x - 1)) 0 + get_or pairs (2 * (x - 1) + 1) 0 - get_or pairs (2 * (x - 1)) 0) (drop (get_or pairs (2 * (x - 1)) 0) lits)))
original_below C lits pairs t a added x l h i m n e b = rw e (subst (Below n) (sym (original_part C lits pairs t a added x l h i)) b)

-- ---- a word of a run: where it ends, and the literals from there on
module _ (t : List ℕ) (q : ℕ) (w : Word) (is : Is (literal_at t q) w) where
  pub word_past : (q < w.next) × (w.next ≤ length t)
  word_past =
      let n : (literal_at t q).next ≡ w.next = ap (λ (r : Read). r.next) is.read in
      let e = literal_there t q (λ z. is.there (sym n ∙ z)) in
      (omega (arith, e.low), omega (arith, e.high))

-- a run that has the form, with a space after it, from the place p before a word on
pub record Spells (t : List ℕ) (p : ℕ) : Type 0 where
  pub form : (run_at literal_at t p).next ≡ 0 → ⊥
  pub after : byte_at t (run_at literal_at t p).next ≡ 32

pub spells_first : {t : List ℕ} {o n : ℕ} → Spelled t o n → Spells t (o - 1)
spells_first s = record { form = s.form; after = s.after }

pub first_back : (o : ℕ) → 1 ≤ o → o - 1 + 1 ≡ o
first_back o h = omega arith

module _ {t : List ℕ} {p : ℕ} (s : Spells t p) where
  space : byte_at t p ≡ 32
  space = run_spaced literal_at literal_reads t p s.form

  pub spells_inside : p < length t
  spells_inside = byte_in t p (λ e. let h = space in omega arith)

  pub spells_there : (literal_at t (p + 1)).next ≡ 0 → ⊥
  spells_there = run_worded literal_at literal_reads t p s.form

  pub spells_after : byte_at t (literal_at t (p + 1)).next ≡ 32
  spells_after = run_after literal_at literal_reads t p s.form s.after

  module _ (w : Word) (is : Is (literal_at t (p + 1)) w) where
    pub spelled_none : w.value ≡ 0 → literals_at t p ≡ []
    spelled_none e = literals_none t p _ (sym is.read) e

    module _ (d : w.value ≡ 0 → ⊥) where
      pub spelled_more : literals_at t p ≡ record { variable = w.value; negative = w.minus } ∷ literals_at t w.next
      spelled_more =
          literals_more t p _ (sym is.read) d
          ∙ ap (λ (b : Bool). let l : Literal = record { variable = w.value; negative = b } in l ∷ literals_at t w.next) (sign_back w.minus)

      pub spells_on : Spells t w.next
      spells_on =
          let r = run_more literal_at literal_reads t p _ (sym is.read) space is.there d in
          record {
            form = λ z. s.form (ap (λ (x : Run). x.next) r ∙ z);
            after = ap (λ (x : Run). byte_at t x.next) (sym r) ∙ s.after;
          }
