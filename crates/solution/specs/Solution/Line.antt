-- A line of literals in the text: it has the form of a v line, and its values are named one by one. Assumes nothing.
use Rattle.std.specs.Prelude.{◌≡◌, refl, true, false, List, [], ◌∷◌, ◌++◌, ℕ, suc, ◌+◌, ◌-◌, ◌≤◌, ◌<◌, length, drop}
use Rattle.std.proofs.Common.{sym, ap, ◌∙◌, append_assoc, arith, length-drop}
use Rattle.prelude.specs.Lists.{Each}
use Rattle.cnf.specs.declared.Literal.{Literal}
use Rattle.numeral.specs.Number.{Read, byte_at, word, literal_at}
use Rattle.numeral.specs.Number.Laws.{literal_plain, number_zero}
use Rattle.text.specs.Text.{literal_text, literals_text, line_text}
use Rattle.text.specs.Text.Laws.{literals_none, literals_more, line_text_lem}
use Rattle.answer.specs.Lines.{formed, form_from}
use Rattle.answer.specs.Lines.Laws.{form_more, form_last}
use Rattle.answer.specs.Values.{named, refused_by, kept_by, named_from}
use Rattle.answer.proofs.ValuesLaws.{name_zero, name_more}
use Rattle.solution.specs.Solution.Numerals.{past_one, byte_here, place_in, minus_of, end_of, Short, ReadAs, literal_here}

-- a line from the space before its first literal on
abbrev pub Spaced : List ℕ → ℕ → List Literal → Type 0
Spaced t p ls = drop p t ≡ 32 ∷ line_text ls

-- the literals of a line, each after a space
module _ (t : List ℕ) (p : ℕ) (l : Literal) (ls : List Literal) (short : Short l) (here : Spaced t p (l ∷ ls)) where
  -- the first is read
  first_read : ReadAs t (p + 1) l (line_text ls)
  first_read =
      literal_here t (p + 1) l (line_text ls) short
      (past_one t p 32 (line_text (l ∷ ls)) here ∙ line_text_lem (l ∷ ls)
      ∙ ap (λ (i : List ℕ). i ++ (48 ∷ 10 ∷ [])) (literals_more l ls)
      ∙ append_assoc (literal_text l) (literals_text ls) (48 ∷ 10 ∷ [])
      ∙ ap (λ (i : List ℕ). literal_text l ++ i) (sym (line_text_lem ls)))

  -- the others go on from its end
  pub line_after_lem : Spaced t (end_of (p + 1) l) ls
  line_after_lem = first_read.after

  -- what is read
  abbrev word_here : Read
  word_here = word (minus_of l) l.variable (end_of (p + 1) l)

  -- a space stands there
  space_after : byte_at t (end_of (p + 1) l) ≡ 32
  space_after = byte_here t (end_of (p + 1) l) 32 (line_text ls) line_after_lem

  -- the form goes on with them
  pub form_after : form_from (length t) t p ≡ form_from (length t) t (end_of (p + 1) l)
  form_after =
      form_more t p word_here (sym first_read.read) (byte_here t p 32 (line_text (l ∷ ls)) here) (λ z. omega arith)
      (λ z. omega (arith, space_after)) (λ z. omega (arith, short.0))

  -- and so do the values, where the first is taken
  pub named_after : (f top keep : ℕ) (before after : List ℕ)
      → false ≡ refused_by top keep before l.variable → after ≡ kept_by keep before l.variable (minus_of l)
      → named_from f top keep t (end_of (p + 1) l) after ≡ named_from (suc f) top keep t p before
  named_after f top keep before after passes e =
      ap (λ (g : ℕ). named_from g top keep t (end_of (p + 1) l) after) (let z : f ≡ suc f - 1 = omega arith in z)
      ∙ name_more (suc f) top keep t p before word_here (sym first_read.read) false passes
      (λ z. omega (arith, short.0)) after (omega arith) refl e 32 (sym space_after) (λ z. omega arith)

-- the 0 at the end
module _ (t : List ℕ) (p : ℕ) (here : Spaced t p []) where
  -- the bytes
  rest_here : drop p t ≡ 32 ∷ 48 ∷ 10 ∷ []
  rest_here = here ∙ ap (λ (i : List ℕ). 32 ∷ i) (line_text_lem [] ∙ ap (λ (i : List ℕ). i ++ (48 ∷ 10 ∷ [])) literals_none)

  -- past the space
  zero_here : drop (p + 1) t ≡ 48 ∷ 10 ∷ []
  zero_here = past_one t p 32 (48 ∷ 10 ∷ []) rest_here

  -- past the 0
  newline_here : drop (p + 1 + 1) t ≡ 10 ∷ []
  newline_here = past_one t (p + 1) 48 (10 ∷ []) zero_here

  -- a 0 is read
  zero_read : literal_at t (p + 1) ≡ word 0 0 (p + 1 + 1)
  zero_read =
      let z : byte_at t (p + 1) ≡ 48 = byte_here t (p + 1) 48 (10 ∷ []) zero_here in
      literal_plain t (p + 1) (λ e. omega arith) ∙ number_zero t (p + 1) 0 z (λ e. omega arith)

  -- it ends the form
  form_end : form_from (length t) t p ≡ formed (p + 1 + 1 + 1) true
  form_end =
      form_last t p (word 0 0 (p + 1 + 1)) (sym zero_read) (byte_here t p 32 (48 ∷ 10 ∷ []) rest_here) (λ z. omega arith)
      (byte_here t (p + 1 + 1) 10 [] newline_here)

  -- and the text
  text_end : length t ≤ p + 1 + 1 + 1
  text_end =
      let e : length (drop (p + 1 + 1 + 1) t) ≡ 0 = ap length (past_one t (p + 1 + 1) 10 [] newline_here) in
      let d = length-drop (p + 1 + 1 + 1) t in
      omega arith

  -- and names no value
  pub named_end : (f top keep : ℕ) (values : List ℕ) → named false values ≡ named_from (suc f) top keep t p values
  named_end f top keep values = name_zero (suc f) top keep t p values (word 0 0 (p + 1 + 1)) (sym zero_read) (omega arith) refl

-- the form of a line that ends the text
pub record Ended (t : List ℕ) (p : ℕ) : Type 0 where
  pub next : ℕ
  pub form : form_from (length t) t p ≡ formed next true
  pub there : 0 < next
  pub past : length t ≤ next

-- a line that stands has it
pub form_line : (t : List ℕ) (p : ℕ) (ls : List Literal) → Each Short ls → Spaced t p ls → Ended t p
form_line t p [] s e = record { next = p + 1 + 1 + 1; form = form_end t p e; there = omega arith; past = text_end t p e }
form_line t p (l ∷ ls) s e =
    let r : Ended t (end_of (p + 1) l) = form_line t (end_of (p + 1) l) ls s.1 (line_after_lem t p l ls s.0 e) in
    record { next = r.next; form = form_after t p l ls s.0 e ∙ r.form; there = r.there; past = r.past }

-- a line has fewer literals than bytes
pub line_many : (t : List ℕ) (p : ℕ) (ls : List Literal) → Each Short ls → Spaced t p ls → p + length ls < length t
line_many t p [] s e = let z = text_in in omega arith
  where
    text_in : p < length t
    text_in = place_in t p 32 (line_text []) e
line_many t p (l ∷ ls) s e =
    let r : end_of (p + 1) l + length ls < length t = line_many t (end_of (p + 1) l) ls s.1 (line_after_lem t p l ls s.0 e) in
    omega arith
