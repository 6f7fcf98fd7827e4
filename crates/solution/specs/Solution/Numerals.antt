-- A numeral that stands in a text is read as its number, and so is a literal. Assumes nothing.
use Rattle.std.specs.Prelude.{◌≡◌, refl, Bool, true, false, cond, List, [], ◌∷◌, ◌++◌, ℕ, zero, suc, ◌+◌, ◌-◌, ◌*◌, ◌/◌, ◌%◌, ◌≤◌, ◌<◌, length, get_or, drop}
use Rattle.std.proofs.Common.{sym, ap, ap₂, ◌∙◌, subst, append_assoc, ⊎_elim, arith, length-append, length-drop, drop-drop, get_or-drop}
use Rattle.std.proofs.Math.ListN.{get_or-append}
use Rattle.std.proofs.Math.Seq.{drop-append_seam}
use Rattle.prelude.specs.Tests.{le?}
use Rattle.prelude.specs.Lists.{Each}
use Rattle.prelude.specs.Lists.Laws.{each_join}
use Rattle.cnf.specs.declared.Literal.{Literal}
use Rattle.numeral.specs.Number.{byte_at, is_digit, word, digits_at, number_at, literal_at}
use Rattle.numeral.specs.Number.Laws.{digit_yes, digits_stop, digits_more, number_some, literal_minus, literal_plain}
use Rattle.text.specs.Decimal.{decimal}
use Rattle.text.specs.Decimal.Laws.{decimal_digit, decimal_more, length_high}
use Rattle.text.specs.Text.{literal_text}

-- ---- what stands in the text t from p on
module _ (t : List ℕ) (p : ℕ) where
  -- past its first part
  pub past : (a b : List ℕ) → drop p t ≡ a ++ b → drop (p + length a) t ≡ b
  past a b e = sym (drop-drop (length a) p t) ∙ ap (drop (length a)) e ∙ drop-append_seam a b

  module _ (c : ℕ) (b : List ℕ) (e : drop p t ≡ c ∷ b) where
    -- past its first byte
    pub past_one : drop (p + 1) t ≡ b
    past_one = past (c ∷ []) b e

    -- its first byte
    pub byte_here : byte_at t p ≡ c
    byte_here =
        ap (λ (k : ℕ). get_or t k 0) (let z : p ≡ p + 0 = omega arith in z) ∙ sym (get_or-drop p t 0 0)
        ∙ ap (λ (l : List ℕ). get_or l 0 0) e

    -- which lies in the text
    pub place_in : p < length t
    place_in = let n : length (drop p t) ≡ suc (length b) = ap length e in let d = length-drop p t in omega arith

-- ---- digits
-- a byte that is one
abbrev Digit : ℕ → Type 0
Digit c = (48 ≤ c) × (c ≤ 57)

-- the number that x goes on to with the digits ds
abbrev value_from : ℕ → List ℕ → ℕ
value_from x [] = x
value_from x (c ∷ ds) = value_from (x * 10 + (c - 48)) ds

-- digits one after the other
value_append : (x : ℕ) (a b : List ℕ) → value_from x (a ++ b) ≡ value_from (value_from x a) b
value_append x [] b = refl
value_append x (c ∷ a) b = value_append (x * 10 + (c - 48)) a b

-- digits that stand in the text, before a byte that is none, are read as the number that they go on to
digits_here : (t : List ℕ) (f m x p : ℕ) (ds : List ℕ) (b : ℕ) (rest : List ℕ) → Each Digit ds → drop p t ≡ ds ++ (b ∷ rest)
    → is_digit b ≡ false → length ds ≤ f → digits_at f m x t p ≡ word m (value_from x ds) (p + length ds)
digits_here t f m x p [] b rest d e n l =
    digits_stop f m x t p (ap is_digit (byte_here t p b rest e) ∙ n) ∙ ap (word m x) (let z : p ≡ p + 0 = omega arith in z)
digits_here t f m x p (c ∷ ds) b rest d e n l =
    let h : byte_at t p ≡ c = byte_here t p c (ds ++ (b ∷ rest)) e in
    let y : ℕ = x * 10 + (c - 48) in
    digits_more f m x t p (ap is_digit h ∙ digit_yes c d.0.0 d.0.1) (omega arith)
    ∙ ap (λ (k : ℕ). digits_at (f - 1) m (x * 10 + (k - 48)) t (p + 1)) h
    ∙ digits_here t (f - 1) m y (p + 1) ds b rest d.1 (past_one t p c (ds ++ (b ∷ rest)) e) n (omega arith)
    ∙ ap (word m (value_from y ds)) (let z : p + 1 + length ds ≡ p + suc (length ds) = omega arith in z)

-- ---- the numeral of x: digits whose number is x, the first not 0 where x is not
record Numeral (x : ℕ) (l : List ℕ) : Type 0 where
  digits : Each Digit l
  value : value_from 0 l ≡ x
  some : 0 < length l
  first : 0 < x → 48 < get_or l 0 0

-- a number below ten
numeral_one : (x : ℕ) → x < 10 → Numeral x ((48 + x % 10) ∷ [])
numeral_one x h =
    record { digits = ((omega arith, omega arith), tt); value = omega arith; some = omega arith; first = λ g. omega arith }

-- another, after the numeral of its tenth
numeral_more : (x : ℕ) (l : List ℕ) → 10 ≤ x → Numeral (x / 10) l → Numeral x (l ++ ((48 + x % 10) ∷ []))
numeral_more x l h r =
    record {
      digits = each_join Digit l ((48 + x % 10) ∷ []) r.digits ((omega arith, omega arith), tt);
      value = value_append 0 l ((48 + x % 10) ∷ []) ∙ ap (λ (y : ℕ). y * 10 + (48 + x % 10 - 48)) r.value ∙ omega arith;
      some = let n = length-append l ((48 + x % 10) ∷ []) in let s = r.some in omega arith;
      first = λ g.
          let f : 48 < get_or l 0 0 = r.first (omega arith) in
          subst (λ (y : ℕ). 48 < y) (sym (get_or-append l ((48 + x % 10) ∷ []) 0 0 r.some)) f;
    }

-- each number's, by those below a bound
numeral_below : (f x : ℕ) → x < f → Numeral x (decimal x)
numeral_below zero x h = absurd (omega arith)
numeral_below (suc f) x h =
    ⊎_elim
    (λ (l : 10 ≤ x).
    subst (Numeral x) (sym (decimal_more x l)) (numeral_more x (decimal (x / 10)) l (numeral_below f (x / 10) (omega arith))))
    (λ (l : x < 10). subst (Numeral x) (sym (decimal_digit x l)) (numeral_one x l))
    (le? 10 x)

-- each number's
numeral : (x : ℕ) → Numeral x (decimal x)
numeral x = numeral_below (suc x) x (omega arith)

-- the first byte of a numeral in the text is a digit
first_here : (t : List ℕ) (p x : ℕ) (rest : List ℕ) → drop p t ≡ decimal x ++ rest → 48 ≤ byte_at t p
first_here t p x rest e = go (decimal x) (numeral x) e
  where
    go : (ds : List ℕ) → Numeral x ds → drop p t ≡ ds ++ rest → 48 ≤ byte_at t p
    go [] r e = absurd (omega (arith, r.some))
    go (c ∷ ds) r e = let h = byte_here t p c (ds ++ rest) e in let d = r.digits.0.0 in omega arith

-- a numeral of at most nine digits that stands in the text, before a byte that is no digit, is read as its number
pub number_here : (t : List ℕ) (p m x b : ℕ) (rest : List ℕ) → drop p t ≡ decimal x ++ (b ∷ rest) → is_digit b ≡ false
    → 0 < x → x < 1000000000 → number_at t p m ≡ word m x (p + length (decimal x))
number_here t p m x b rest e n h l = go (decimal x) (numeral x) (length_high 8 x l) e
  where
    go : (ds : List ℕ) → Numeral x ds → length ds ≤ 9 → drop p t ≡ ds ++ (b ∷ rest) → number_at t p m ≡ word m x (p + length ds)
    go [] r k e = absurd (omega (arith, r.some))
    go (c ∷ ds) r k e =
        let g : byte_at t p ≡ c = byte_here t p c (ds ++ (b ∷ rest)) e in
        let d = r.digits.0 in
        let f : 48 < c = r.first h in
        number_some t p m (λ z. omega arith) (omega arith) (omega arith)
        ∙ ap (λ (y : ℕ). digits_at 8 m (y - 48) t (p + 1)) g
        ∙ digits_here t 8 m (c - 48) (p + 1) ds b rest r.digits.1 (past_one t p c (ds ++ (b ∷ rest)) e) n (omega arith)
        ∙ ap₂ (word m) (ap (λ (y : ℕ). value_from y ds) (let z : c - 48 ≡ 0 * 10 + (c - 48) = omega arith in z) ∙ r.value)
        (let z : p + 1 + length ds ≡ p + suc (length ds) = omega arith in z)

-- ---- literals
-- 1 for a minus
abbrev pub minus_of : Literal → ℕ
minus_of l = cond l.negative 1 0

-- the place after a literal at p
abbrev pub end_of : ℕ → Literal → ℕ
end_of p l = p + minus_of l + length (decimal l.variable)

-- a literal's variable is a number of at most nine digits, and not 0
abbrev pub Short : Literal → Type 0
Short l = (0 < l.variable) × (l.variable < 1000000000)

-- the literal l is read at p, and its space and the rest stand after it
pub record ReadAs (t : List ℕ) (p : ℕ) (l : Literal) (rest : List ℕ) : Type 0 where
  pub read : literal_at t p ≡ word (minus_of l) l.variable (end_of p l)
  pub after : drop (end_of p l) t ≡ 32 ∷ rest

-- a literal that stands in the text is read as it is
pub literal_here : (t : List ℕ) (p : ℕ) (l : Literal) (rest : List ℕ) → Short l → drop p t ≡ literal_text l ++ rest
    → ReadAs t p l rest
unfolding literal_text
literal_here t p l rest s e = go l.negative l.variable s.0 s.1 e
  where
    go : (b : Bool) (x : ℕ) → 0 < x → x < 1000000000 → drop p t ≡ literal_text (record { variable = x; negative = b }) ++ rest
        → ReadAs t p (record { variable = x; negative = b }) rest
    go false x h k e =
        let at : drop p t ≡ decimal x ++ (32 ∷ rest) = e ∙ append_assoc (decimal x) (32 ∷ []) rest in
        let z : p + length (decimal x) ≡ p + 0 + length (decimal x) = omega arith in
        record {
          read =
              literal_plain t p (λ y. omega (arith, first_here t p x (32 ∷ rest) at)) ∙ number_here t p 0 x 32 rest at refl h k
              ∙ ap (word 0 x) z;
          after = ap (λ (i : ℕ). drop i t) (sym z) ∙ past t p (decimal x) (32 ∷ rest) at;
        }
    go true x h k e =
        let after : List ℕ = decimal x ++ (32 ∷ rest) in
        let at : drop p t ≡ 45 ∷ after = e ∙ ap (λ (i : List ℕ). 45 ∷ i) (append_assoc (decimal x) (32 ∷ []) rest) in
        let on : drop (p + 1) t ≡ after = past_one t p 45 after at in
        record {
          read = literal_minus t p (byte_here t p 45 after at) ∙ number_here t (p + 1) 1 x 32 rest on refl h k;
          after = past t (p + 1) (decimal x) (32 ∷ rest) on;
        }
