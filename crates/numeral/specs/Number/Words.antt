-- What is read at a place, as the program gives it: a word, or none. Assumes nothing.
use Rattle.std.specs.Prelude.{◌≡◌, refl, Bool, true, false, cond, List, ◌⊎◌, ℕ, zero, suc, ◌+◌, ◌-◌, ◌*◌, ◌≤◌, eqb}
use Rattle.std.proofs.Common.{Option, Some, None, sym, ap, ◌∙◌, subst, inl, inr, arith}
use Rattle.std.proofs.Common.{arith}
use borrow.Author.Tests.{ne_eqb}
use Rattle.prelude.specs.Tests.{eq?}
use Rattle.numeral.specs.declared.Word.{Word}
use Rattle.numeral.specs.Number.{Read, byte_at, is_digit, word, no_word, digits_at, number_at, literal_at}
use Rattle.numeral.specs.Number.Laws.{number_none, number_minus, number_zero, number_some}
use Rattle.numeral.specs.Number.Places.{byte_in, digit?, digits_ends, number_within, literal_within}

-- 1 for a minus, 0 for none
abbrev pub sign_number : Bool → ℕ
sign_number minus = cond minus 1 0

-- what is read, as a word; none where next is 0
abbrev pub word_or_none : ℕ → ℕ → ℕ → Option Word
word_or_none m x zero = None
word_or_none m x (suc n) = Some (record { minus = eqb m 1; value = x; next = suc n })

abbrev pub word_of : Read → Option Word
word_of r = word_or_none r.minus r.value r.next

-- a number that is read is a word, since it ends past its start
pub some_word : (r : Read) (w : Word) → word (sign_number w.minus) w.value w.next ≡ r → (w.next ≡ 0 → ⊥) → Some w ≡ word_of r
some_word r w e there = some_at w.minus w.value w.next there ∙ ap word_of e
  where
    some_at : (m : Bool) (x n : ℕ) → (n ≡ 0 → ⊥) → Some (record { minus = m; value = x; next = n }) ≡ word_of (word (sign_number m) x n)
    some_at m x zero d = absurd (d refl)
    some_at true x (suc n) d = refl
    some_at false x (suc n) d = refl

-- no number stands there where there is no word
pub none_read : (r : Read) → None ≡ word_of r → r.next ≡ 0
none_read r e = none_at r.minus r.value r.next e
  where
    none_at : (m x n : ℕ) → None ≡ word_or_none m x n → n ≡ 0
    none_at m x zero e = refl
    none_at m x (suc n) e = cc

-- and a word is what is read
pub record Is (r : Read) (w : Word) : Type 0 where
  pub read : r ≡ word (sign_number w.minus) w.value w.next
  pub there : w.next ≡ 0 → ⊥

some_read : (r : Read) (w : Word) → r.minus ≤ 1 → Some w ≡ word_of r → Is r w
some_read r w h e = some_at r.minus r.value r.next w h e
  where
    some_at : (m x n : ℕ) (w : Word) → m ≤ 1 → Some w ≡ word_or_none m x n → Is (word m x n) w
    some_at m x zero w h e = cc
    some_at zero x (suc n) w h e =
        let q : record { minus = false; value = x; next = suc n } ≡ w = cc in
        subst (Is (word 0 x (suc n))) q (record { read = refl; there = λ z. omega arith })
    some_at (suc zero) x (suc n) w h e =
        let q : record { minus = true; value = x; next = suc n } ≡ w = cc in
        subst (Is (word 1 x (suc n))) q (record { read = refl; there = λ z. omega arith })
    some_at (suc (suc m)) x (suc n) w h e = absurd (omega arith)

pub sign_low : (minus : Bool) → sign_number minus ≤ 1
sign_low true = omega arith
sign_low false = omega arith

pub number_word : (t : List ℕ) (p : ℕ) (minus : Bool) (w : Word) → Some w ≡ word_of (number_at t p (sign_number minus)) → Is (number_at t p (sign_number minus)) w
number_word t p minus w e = some_read _ w (number_within t p (sign_number minus) (sign_low minus)).sign e

pub literal_word : (t : List ℕ) (p : ℕ) (w : Word) → Some w ≡ word_of (literal_at t p) → Is (literal_at t p) w
literal_word t p w e = some_read _ w (literal_within t p).sign e

-- what stands before a number changes nothing but the minus of what is read
same_cond : (d : Bool) (m : ℕ) (a b a' b' : Read) → a ≡ word m a'.value a'.next → b ≡ word m b'.value b'.next
    → cond d a b ≡ word m (cond d a' b').value (cond d a' b').next
same_cond true m a b a' b' e f = e
same_cond false m a b a' b' e f = f

digits_after : (f m k x : ℕ) (t : List ℕ) (p : ℕ) → digits_at f m x t p ≡ word m (digits_at f k x t p).value (digits_at f k x t p).next
unfolding digits_at
digits_after zero m k x t p = refl
digits_after (suc f) m k x t p =
    same_cond (is_digit (byte_at t p)) m _ _ _ _ (digits_after f m k (x * 10 + (byte_at t p - 48)) t (p + 1)) refl

-- and of a 0 not that
number_cond : (z o d : Bool) (m q : ℕ) (A K : Read) → A ≡ word m K.value K.next → (r : Read)
    → r ≡ cond z (cond o no_word (word 0 0 q)) (cond d K no_word) → (r.next ≡ 0 → ⊥)
    → word (cond z 0 m) r.value r.next ≡ cond z (cond o no_word (word 0 0 q)) (cond d A no_word)
number_cond true true d m q A K e r f h = absurd (h (ap (λ (x : Read). x.next) f))
number_cond true false d m q A K e r f h = rw f refl
number_cond false o true m q A K e r f h = rw f (sym e)
number_cond false o false m q A K e r f h = absurd (h (ap (λ (x : Read). x.next) f))

-- a test for 1 of the number that says so
one_sign : (b : Bool) → eqb (sign_number b) 1 ≡ b
one_sign true = refl
one_sign false = refl

pub number_after_some : (t : List ℕ) (p m : ℕ) (w : Word) → Some w ≡ word_of (number_at t p (sign_number (eqb m 1)))
    → word (cond (eqb (byte_at t p) 48) 0 m) w.value w.next ≡ number_at t p m
unfolding number_at
number_after_some t p m w e =
    let i = number_word t p (eqb m 1) w e in
    let K = digits_at 8 (sign_number (eqb m 1)) (byte_at t p - 48) t (p + 1) in
    number_cond (eqb (byte_at t p) 48) (eqb m 1) (is_digit (byte_at t p)) m (p + 1) (digits_at 8 m (byte_at t p - 48) t (p + 1)) K
    (digits_after 8 m (sign_number (eqb m 1)) (byte_at t p - 48) t (p + 1)) (word (sign_number w.minus) w.value w.next)
    (sym i.read ∙ ap (λ (o : Bool). cond (eqb (byte_at t p) 48) (cond o no_word (word 0 0 (p + 1))) (cond (is_digit (byte_at t p)) K no_word)) (one_sign (eqb m 1)))
    i.there

pub number_after_none : (t : List ℕ) (p m : ℕ) → None ≡ word_of (number_at t p (sign_number (eqb m 1))) → no_word ≡ number_at t p m
number_after_none t p m e = go (digit? (byte_at t p)) (eq? (byte_at t p) 48) (eq? m 1)
  where
    none : (number_at t p (sign_number (eqb m 1))).next ≡ 0
    none = none_read _ e

    go : (is_digit (byte_at t p) ≡ false) ⊎ ((is_digit (byte_at t p) ≡ true) × (48 ≤ byte_at t p) × (byte_at t p ≤ 57))
        → (byte_at t p ≡ 48) ⊎ (byte_at t p ≡ 48 → ⊥) → (m ≡ 1) ⊎ (m ≡ 1 → ⊥) → no_word ≡ number_at t p m
    go (inl f) b c = sym (number_none t p m f)
    go (inr w) (inl z) (inl y) = sym (number_minus t p m z y)
    go (inr w) (inl z) (inr d) =
        let apart : sign_number (eqb m 1) ≡ 1 → ⊥ = rw (ne_eqb m 1 d) (λ k. omega arith) in
        let end : (number_at t p (sign_number (eqb m 1))).next ≡ p + 1 = rw (number_zero t p (sign_number (eqb m 1)) z apart) refl in
        absurd (omega (arith, none, end))
    go (inr w) (inr d) c =
        let some = number_some t p (sign_number (eqb m 1)) d w.1 w.2 in
        let r = digits_ends 8 (sign_number (eqb m 1)) (byte_at t p - 48) t (p + 1) (sign_low (eqb m 1)) (omega (arith, byte_in t p (λ q. omega arith))) in
        absurd (omega (arith, none, ap (λ (x : Read). x.next) some, r.0))
