-- What reading a number gives. Assumes nothing.
use Rattle.std.specs.Prelude.{◌≡◌, refl, List, [], ◌∷◌, Bool, true, false, ℕ, zero, suc, ◌+◌, ◌-◌, ◌*◌, ◌≤◌, ◌<◌, min, length}
use Rattle.std.proofs.Common.{sym, ap, ◌∙◌, ⊎_elim, arith, add-one, le-leb, eq-eqb, ne_eqb}
use Rattle.std.proofs.lemmas.Bool.{lt-leb}
use Rattle.prelude.specs.Tests.{eq?, le?}
use Rattle.numeral.specs.Number.{byte_at, is_digit, word, no_word, digits_at, number_at, literal_at, Limit}

-- past the end every byte is 0
pub byte_past : (t : List ℕ) (p : ℕ) → length t ≤ p → byte_at t p ≡ 0
byte_past [] p h = refl
byte_past (x ∷ t) zero h = absurd (omega arith)
byte_past (x ∷ t) (suc p) h = byte_past t p (omega arith)

pub digit_yes : (b : ℕ) → 48 ≤ b → b ≤ 57 → is_digit b ≡ true
digit_yes b l h = rw (le-leb 48 b l, le-leb b 57 h)

pub digit_low : (b : ℕ) → b < 48 → is_digit b ≡ false
digit_low b h = rw (lt-leb 48 b h)

pub digit_high : (b : ℕ) → 57 < b → is_digit b ≡ false
digit_high b h = let l : 48 ≤ b = omega arith in rw (le-leb 48 b l, lt-leb b 57 h)

-- ---- a run of digits ends where no digit stands, or where there may be no more
pub digits_stop : (f m x : ℕ) (t : List ℕ) (p : ℕ) → is_digit (byte_at t p) ≡ false → digits_at f m x t p ≡ word m x p
unfolding digits_at
digits_stop zero m x t p e = refl
digits_stop (suc f) m x t p e = rw e

pub digits_full : (f m x : ℕ) (t : List ℕ) (p : ℕ) → f ≡ 0 → digits_at f m x t p ≡ word m x p
unfolding digits_at
digits_full zero m x t p e = refl
digits_full (suc f) m x t p e = absurd (omega arith)

pub digits_more : (f m x : ℕ) (t : List ℕ) (p : ℕ) → is_digit (byte_at t p) ≡ true → 0 < f
    → digits_at f m x t p ≡ digits_at (f - 1) m (x * 10 + (byte_at t p - 48)) t (p + 1)
unfolding digits_at
digits_more zero m x t p e h = absurd (omega arith)
digits_more (suc f) m x t p e h = rw e (ap (λ (k : ℕ). digits_at k m (x * 10 + (byte_at t p - 48)) t (p + 1)) (let z : f ≡ suc f - 1 = omega arith in z))

-- ---- the ways of a number
pub number_none : (t : List ℕ) (p m : ℕ) → is_digit (byte_at t p) ≡ false → number_at t p m ≡ no_word
unfolding number_at
number_none t p m e = ⊎_elim (λ z. absurd (no48 (byte_at t p) z e)) (λ d. rw (ne_eqb (byte_at t p) 48 d, e)) (eq? (byte_at t p) 48)
  where
    no48 : (b : ℕ) → b ≡ 48 → is_digit b ≡ false → ⊥
    no48 b z f = let y : ◌≡◌ {A = Bool} true false = sym (digit_yes b (omega arith) (omega arith)) ∙ f in let w : ◌≡◌ {A = ℕ} 0 1 = cc in omega arith

pub number_zero : (t : List ℕ) (p m : ℕ) → byte_at t p ≡ 48 → (m ≡ 1 → ⊥) → number_at t p m ≡ word 0 0 (p + 1)
unfolding number_at
number_zero t p m e d = rw (eq-eqb (byte_at t p) 48 e, ne_eqb m 1 d)

pub number_minus : (t : List ℕ) (p m : ℕ) → byte_at t p ≡ 48 → m ≡ 1 → number_at t p m ≡ no_word
unfolding number_at
number_minus t p m e d = rw (eq-eqb (byte_at t p) 48 e, eq-eqb m 1 d)

pub number_some : (t : List ℕ) (p m : ℕ) → (byte_at t p ≡ 48 → ⊥) → 48 ≤ byte_at t p → byte_at t p ≤ 57
    → number_at t p m ≡ digits_at 8 m (byte_at t p - 48) t (p + 1)
unfolding number_at
number_some t p m d l h = rw (ne_eqb (byte_at t p) 48 d, digit_yes (byte_at t p) l h)

-- ---- the value of k digits is below 10 ^ k
unfoldable pub tens : ℕ → ℕ
tens zero = 1
tens (suc k) = tens k * 10

pub tens_more : (k x d : ℕ) → x < tens k → d < 10 → x * 10 + d < tens (k + 1)
unfolding tens
tens_more k x d h l = rw add-one (omega arith)

pub tens_nine : (k : ℕ) → k ≤ 9 → tens k ≤ 1000000000
unfolding tens
tens_nine k h = up k (9 - k) (omega arith)
  where
    up : (k d : ℕ) → k + d ≡ 9 → tens k ≤ 1000000000
    up k zero e = rw (let z : k ≡ 9 = omega arith in z) (omega arith)
    up k (suc d) e = let s : tens (suc k) ≤ 1000000000 = up (suc k) d (omega arith) in omega arith

-- ---- the loop of a number: what is read so far, and the digits that are left
pub number_past : (t : List ℕ) (p m : ℕ) → length t ≤ p → number_at t p m ≡ no_word
number_past t p m h = number_none t p m (digit_low (byte_at t p) (omega (arith, byte_past t p h)))

pub number_first : (t : List ℕ) (at m x : ℕ) → (byte_at t at ≡ 48 → ⊥) → 48 ≤ byte_at t at → byte_at t at ≤ 57 → x ≡ byte_at t at - 48
    → number_at t at m ≡ digits_at (at + 9 - (at + 1)) m x t (at + 1)
number_first t at m x d l h e =
    number_some t at m d l h ∙ (let z : 8 ≡ at + 9 - (at + 1) = omega arith in rw (← e, z))

module _ (t : List ℕ) (at m x p : ℕ) (read : number_at t at m ≡ digits_at (at + 9 - p) m x t p) where
  pub number_next : (d : ℕ) → p < at + 9 → 48 ≤ byte_at t p → byte_at t p ≤ 57 → d ≡ byte_at t p - 48
      → number_at t at m ≡ digits_at (at + 9 - (p + 1)) m (x * 10 + d) t (p + 1)
  number_next d f l h e =
      read ∙ digits_more (at + 9 - p) m x t p (digit_yes (byte_at t p) l h) (omega arith)
      ∙ (let z : at + 9 - p - 1 ≡ at + 9 - (p + 1) = omega arith in rw (← e, z))

  pub number_stop : is_digit (byte_at t p) ≡ false → word m x p ≡ number_at t at m
  number_stop d = sym (read ∙ digits_stop (at + 9 - p) m x t p d)

  pub number_low : byte_at t p < 48 → word m x p ≡ number_at t at m
  number_low h = sym (read ∙ digits_stop (at + 9 - p) m x t p (digit_low (byte_at t p) h))

  pub number_high : 57 < byte_at t p → word m x p ≡ number_at t at m
  number_high h = sym (read ∙ digits_stop (at + 9 - p) m x t p (digit_high (byte_at t p) h))

  pub number_end : length t ≤ p → word m x p ≡ number_at t at m
  number_end h = number_low (omega (arith, byte_past t p h))

  pub number_nine : 9 ≤ p - at → word m x p ≡ number_at t at m
  number_nine h = sym (read ∙ digits_full (at + 9 - p) m x t p (omega arith))

pub tens_first : (at x : ℕ) → x < 10 → x < tens (at + 1 - at)
unfolding tens
tens_first at x h = rw (let z : at + 1 - at ≡ 1 = omega arith in z) h

pub tens_next : (at p x d : ℕ) → x < tens (p - at) → at ≤ p → d < 10 → x * 10 + d < tens (p + 1 - at)
tens_next at p x d h l s = rw (let z : p + 1 - at ≡ p - at + 1 = omega arith in z) (tens_more (p - at) x d h s)

pub tens_fits : (at p x : ℕ) → x < tens (p - at) → p ≤ at + 9 → x < 1000000000
tens_fits at p x h l = omega (arith, tens_nine (p - at) (omega arith))

-- ---- a literal
pub literal_minus : (t : List ℕ) (p : ℕ) → byte_at t p ≡ 45 → literal_at t p ≡ number_at t (p + 1) 1
unfolding literal_at
literal_minus t p e = rw (eq-eqb (byte_at t p) 45 e)

pub literal_plain : (t : List ℕ) (p : ℕ) → (byte_at t p ≡ 45 → ⊥) → literal_at t p ≡ number_at t p 0
unfolding literal_at
literal_plain t p d = rw (ne_eqb (byte_at t p) 45 d)

pub literal_past : (t : List ℕ) (p : ℕ) → length t ≤ p → literal_at t p ≡ number_at t p 0
literal_past t p h = literal_plain t p (λ e. omega (arith, byte_past t p h))

-- the loop of a number that stops at a limit
pub number_limit : (t : List ℕ) (at m x p n r : ℕ) → number_at t at m ≡ digits_at (at + 9 - p) m x t p → n ≡ length t → Limit n at r → p ≤ r → r ≤ p → word m x p ≡ number_at t at m
number_limit t at m x p n r read e l h k =
    ⊎_elim (λ z. number_nine t at m x p read (omega arith)) (λ z. number_end t at m x p read (omega (arith, l.short (omega arith)))) (le? (at + 9) p)

-- at is inside where a digit stands there, and the loop's limit is nine bytes on or the text's end
pub limit_min : (n at : ℕ) → at < n → Limit n at (min n (at + 9))
limit_min n at h = record { above = omega arith; inside = omega arith; nine = omega arith; short = λ l. omega arith }
