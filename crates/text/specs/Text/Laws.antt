-- Laws of text: literals, a line and signed numbers as their parts one after the other, and how long they are. Assumes nothing.
use Rattle.std.specs.Prelude.{◌≡◌, refl, Bool, true, false, cond, List, [], ◌∷◌, ◌++◌, map, ℕ, zero, suc, ◌+◌, ◌≤◌, ◌<◌, ℤ, length, get_or, take, drop}
use Rattle.std.proofs.Common.{sym, ap, ap₂, ◌∙◌, zero-add, add-one, arith, length-append, take-append-drop, take-suc}
use Rattle.std.proofs.lemmas.List.{map-append}
use Rattle.prelude.specs.Blocks.{flatten}
use Rattle.prelude.specs.Blocks.Laws.{flatten_one, flatten_append}
use Rattle.std.proofs.Math.IntN as Z
use Rattle.prelude.specs.Lists.{Each}
use Rattle.prelude.specs.Signed.{is_negative, variable}
use Rattle.cnf.specs.Cnf.{Clause, signed_of}
use Rattle.cnf.specs.declared.Literal.{Literal}
use Rattle.text.specs.Decimal.{decimal}
use Rattle.text.specs.Text.{literal_text, literals_text, line_text, signed_text, number_text, numbers_text}

-- a number and the space after it, in length
pub number_length : (x : ℕ) → length (decimal x ++ (32 ∷ [])) ≡ length (decimal x) + 1
number_length x = length-append (decimal x) (32 ∷ [])

-- no literal
pub literals_none : literals_text [] ≡ []
unfolding literals_text flatten
literals_none = refl

-- a literal before others
pub literals_more : (x : Literal) (ls : List Literal) → literals_text (x ∷ ls) ≡ literal_text x ++ literals_text ls
unfolding literals_text flatten
literals_more x ls = refl

-- a line is its literals, 0 and the newline
pub line_text_lem : (ls : List Literal) → line_text ls ≡ literals_text ls ++ (48 ∷ 10 ∷ [])
unfolding line_text
line_text_lem ls = refl

-- its length
pub line_length : (ls : List Literal) → length (line_text ls) ≡ length (literals_text ls) + 2
line_length ls = ap length (line_text_lem ls) ∙ length-append (literals_text ls) (48 ∷ 10 ∷ [])

-- a literal before others, in length
pub literals_length_lem : (x : Literal) (ls : List Literal) → length (literals_text (x ∷ ls)) ≡ length (literal_text x) + length (literals_text ls)
literals_length_lem x ls = ap length (literals_more x ls) ∙ length-append (literal_text x) (literals_text ls)

-- a sign and a number, in length
pub signed_length : (b : Bool) (x : ℕ) → length (signed_text b x) ≡ cond b 1 0 + (length (decimal x) + 1)
signed_length true x = length-append (45 ∷ []) (decimal x ++ (32 ∷ [])) ∙ ap (λ (n : ℕ). 1 + n) (number_length x)
signed_length false x = number_length x ∙ sym (zero-add _)

-- a signed number by its sign and its absolute value
pub number_text_lem : (x : ℤ) → number_text x ≡ signed_text (is_negative x) (variable x)
unfolding number_text
number_text_lem x = refl

-- signed numbers one after the other
pub numbers_append : (xs ys : List ℤ) → numbers_text (xs ++ ys) ≡ numbers_text xs ++ numbers_text ys
unfolding numbers_text
numbers_append xs ys = ap flatten (map-append number_text xs ys) ∙ flatten_append (map number_text xs) (map number_text ys)

-- none
pub numbers_none : numbers_text [] ≡ []
unfolding numbers_text flatten
numbers_none = refl

-- one more
pub numbers_more : (xs : List ℤ) (i : ℕ) → i < length xs
    → numbers_text (take (i + 1) xs) ≡ numbers_text (take i xs) ++ number_text (get_or xs i (Z.pos 0))
unfolding numbers_text
numbers_more xs i h =
    ap (λ (j : ℕ). numbers_text (take j xs)) (add-one i) ∙ ap numbers_text (take-suc xs i (Z.pos 0) h)
    ∙ numbers_append (take i xs) (get_or xs i (Z.pos 0) ∷ [])
    ∙ ap (λ (l : List ℕ). numbers_text (take i xs) ++ l) (flatten_one (number_text (get_or xs i (Z.pos 0))))

-- the first are no longer than all
pub numbers_room : (xs : List ℤ) (i : ℕ) → length (numbers_text (take i xs)) ≤ length (numbers_text xs)
numbers_room xs i =
    let e = ap (λ (l : List ℤ). length (numbers_text l)) (take-append-drop i xs) in
    let a = ap length (numbers_append (take i xs) (drop i xs)) ∙ length-append (numbers_text (take i xs)) (numbers_text (drop i xs)) in
    omega arith

-- the text of a literal is that of its signed number
signed_text_lem : (b : Bool) (v : ℕ) → 1 ≤ v
    → number_text (signed_of (record { variable = v; negative = b })) ≡ literal_text (record { variable = v; negative = b })
unfolding number_text literal_text
signed_text_lem b zero h = absurd (omega arith)
signed_text_lem true (suc v) h = refl
signed_text_lem false (suc v) h = refl

-- and that of literals
pub signed_texts : (top : ℕ) (c : Clause) → Each (λ l. (1 ≤ l.variable) × (l.variable ≤ top)) c
    → numbers_text (map signed_of c) ≡ literals_text c
unfolding numbers_text literals_text flatten
signed_texts top [] h = refl
signed_texts top (l ∷ c) h = ap₂ ◌++◌ (signed_text_lem l.negative l.variable h.0.0) (signed_texts top c h.1)
