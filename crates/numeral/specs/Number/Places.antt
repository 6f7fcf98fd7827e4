-- Where a number that was read ends, and what stands in it. Assumes nothing.
use Rattle.std.specs.Prelude.{◌≡◌, refl, List, true, false, ◌⊎◌, ℕ, zero, suc, ◌+◌, ◌-◌, ◌*◌, ◌≤◌, ◌<◌, length}
use Rattle.std.proofs.Common.{sym, ap, ◌∙◌, inl, inr, ⊎_elim, arith}
use Rattle.prelude.specs.Tests.{eq?, le?}
use Rattle.numeral.specs.Number.{Read, byte_at, is_digit, no_word, digits_at, number_at, literal_at}
use Rattle.numeral.specs.Number.Laws.{byte_past, digit_yes, digit_low, digit_high, digits_stop, number_none, number_zero, number_minus, number_some, number_next, tens, tens_more, tens_nine, tens_first, literal_minus, literal_plain}

-- a number that stands at p ends past p and inside the text; its minus is 0 or 1
pub record Ends (t : List ℕ) (p : ℕ) (w : Read) : Type 0 where
  pub low : p < w.next
  pub high : w.next ≤ length t
  pub sign : w.minus ≤ 1

-- a byte other than 0 stands inside the text
pub byte_in : (t : List ℕ) (p : ℕ) → (byte_at t p ≡ 0 → ⊥) → p < length t
byte_in t p d = ⊎_elim (λ (h : length t ≤ p). absurd (d (byte_past t p h))) (λ (h : p < length t). h) (le? (length t) p)

-- a byte is a digit or not
pub digit? : (b : ℕ) → (is_digit b ≡ false) ⊎ ((is_digit b ≡ true) × (48 ≤ b) × (b ≤ 57))
digit? b =
    ⊎_elim
    (λ (l : 48 ≤ b). ⊎_elim (λ (h : b ≤ 57). inr (digit_yes b l h, l, h)) (λ (h : 57 < b). inl (digit_high b h)) (le? b 57))
    (λ (h : b < 48). inl (digit_low b h))
    (le? 48 b)

-- digits end inside the text
pub digits_ends : (f m x : ℕ) (t : List ℕ) (p : ℕ) → m ≤ 1 → p ≤ length t
    → (p ≤ (digits_at f m x t p).next) × ((digits_at f m x t p).next ≤ length t) × ((digits_at f m x t p).minus ≤ 1)
unfolding digits_at
digits_ends zero m x t p s h = (omega arith, h, s)
digits_ends (suc f) m x t p s h = go (digit? (byte_at t p)) (digits_ends f m (x * 10 + (byte_at t p - 48)) t (p + 1) s)
  where
    R : Read → ℕ → Type 0
    R w q = (q ≤ w.next) × (w.next ≤ length t) × (w.minus ≤ 1)

    go : (is_digit (byte_at t p) ≡ false) ⊎ ((is_digit (byte_at t p) ≡ true) × (48 ≤ byte_at t p) × (byte_at t p ≤ 57))
        → (p + 1 ≤ length t → R (digits_at f m (x * 10 + (byte_at t p - 48)) t (p + 1)) (p + 1)) → R (digits_at (suc f) m x t p) p
    go (inl e) k = rw e (omega arith, h, s)
    go (inr w) k = let r = k (omega (arith, byte_in t p (λ e. omega arith))) in rw w.0 (omega (arith, r.0), r.1, r.2)

-- nine digits at most have a value below 10 ^ 9
digits_small : (f k m x : ℕ) (t : List ℕ) (p : ℕ) → x < tens k → k + f ≤ 9 → (digits_at f m x t p).value < 1000000000
unfolding digits_at
digits_small zero k m x t p h l = omega (arith, tens_nine k (omega arith))
digits_small (suc f) k m x t p h l = go (digit? (byte_at t p)) (digits_small f (k + 1) m (x * 10 + (byte_at t p - 48)) t (p + 1))
  where
    go : (is_digit (byte_at t p) ≡ false) ⊎ ((is_digit (byte_at t p) ≡ true) × (48 ≤ byte_at t p) × (byte_at t p ≤ 57))
        → (x * 10 + (byte_at t p - 48) < tens (k + 1) → k + 1 + f ≤ 9 → (digits_at f m (x * 10 + (byte_at t p - 48)) t (p + 1)).value < 1000000000)
        → (digits_at (suc f) m x t p).value < 1000000000
    go (inl e) rest = rw e (omega (arith, tens_nine k (omega arith)))
    go (inr w) rest = rw w.0 (rest (tens_more k x (byte_at t p - 48) h (omega (arith, w.2))) (omega arith))

pub number_small : (t : List ℕ) (p m : ℕ) → (number_at t p m).value < 1000000000
number_small t p m = go (digit? (byte_at t p)) (eq? (byte_at t p) 48) (eq? m 1)
  where
    go : (is_digit (byte_at t p) ≡ false) ⊎ ((is_digit (byte_at t p) ≡ true) × (48 ≤ byte_at t p) × (byte_at t p ≤ 57))
        → (byte_at t p ≡ 48) ⊎ (byte_at t p ≡ 48 → ⊥) → (m ≡ 1) ⊎ (m ≡ 1 → ⊥) → (number_at t p m).value < 1000000000
    go (inl e) b c = rw (number_none t p m e) (omega arith)
    go (inr w) (inl z) (inl y) = rw (number_minus t p m z y) (omega arith)
    go (inr w) (inl z) (inr d) = rw (number_zero t p m z d) (omega arith)
    go (inr w) (inr d) c =
        rw (number_some t p m d w.1 w.2)
        (digits_small 8 1 m (byte_at t p - 48) t (p + 1) (tens_first 0 (byte_at t p - 48) (omega (arith, w.2))) (omega arith))

-- no number stands at p, or one that ends inside the text
pub number_ways : (t : List ℕ) (p m : ℕ) → m ≤ 1 → (number_at t p m ≡ no_word) ⊎ Ends t p (number_at t p m)
number_ways t p m s = go (digit? (byte_at t p))
  where
    zero_way : byte_at t p ≡ 48 → (m ≡ 1) ⊎ (m ≡ 1 → ⊥) → (number_at t p m ≡ no_word) ⊎ Ends t p (number_at t p m)
    zero_way e (inl z) = inl (number_minus t p m e z)
    zero_way e (inr d) =
        inr (rw (number_zero t p m e d) (record { low = omega arith; high = omega (arith, byte_in t p (λ q. omega arith)); sign = omega arith }))

    some_way : 48 ≤ byte_at t p → byte_at t p ≤ 57 → (byte_at t p ≡ 48) ⊎ (byte_at t p ≡ 48 → ⊥)
        → (number_at t p m ≡ no_word) ⊎ Ends t p (number_at t p m)
    some_way l h (inl z) = zero_way z (eq? m 1)
    some_way l h (inr d) =
        let r = digits_ends 8 m (byte_at t p - 48) t (p + 1) s (omega (arith, byte_in t p (λ q. omega arith))) in
        inr (rw (number_some t p m d l h) (record { low = omega (arith, r.0); high = r.1; sign = r.2 }))

    go : (is_digit (byte_at t p) ≡ false) ⊎ ((is_digit (byte_at t p) ≡ true) × (48 ≤ byte_at t p) × (byte_at t p ≤ 57))
        → (number_at t p m ≡ no_word) ⊎ Ends t p (number_at t p m)
    go (inl e) = inl (number_none t p m e)
    go (inr w) = some_way w.1 w.2 (eq? (byte_at t p) 48)

-- the same of a number with a minus or none
pub literal_ways : (t : List ℕ) (p : ℕ) → (literal_at t p ≡ no_word) ⊎ Ends t p (literal_at t p)
literal_ways t p = go (eq? (byte_at t p) 45)
  where
    past : (number_at t (p + 1) 1 ≡ no_word) ⊎ Ends t (p + 1) (number_at t (p + 1) 1) → (number_at t (p + 1) 1 ≡ no_word) ⊎ Ends t p (number_at t (p + 1) 1)
    past (inl e) = inl e
    past (inr r) = inr (record { low = omega (arith, r.low); high = r.high; sign = r.sign })

    go : (byte_at t p ≡ 45) ⊎ (byte_at t p ≡ 45 → ⊥) → (literal_at t p ≡ no_word) ⊎ Ends t p (literal_at t p)
    go (inl e) = rw (literal_minus t p e) (past (number_ways t (p + 1) 1 (omega arith)))
    go (inr d) = rw (literal_plain t p d) (number_ways t p 0 (omega arith))

-- a number that was read ends past its start and inside the text
pub literal_there : (t : List ℕ) (p : ℕ) → ((literal_at t p).next ≡ 0 → ⊥) → Ends t p (literal_at t p)
literal_there t p d =
    ⊎_elim (λ (e : literal_at t p ≡ no_word). absurd (d (ap (λ (w : Read). w.next) e))) (λ (r : Ends t p (literal_at t p)). r) (literal_ways t p)

-- a word ends inside the text, read or not, and its minus is 0 or 1
pub record Within (t : List ℕ) (w : Read) : Type 0 where
  pub high : w.next ≤ length t
  pub sign : w.minus ≤ 1

pub number_within : (t : List ℕ) (p m : ℕ) → m ≤ 1 → Within t (number_at t p m)
number_within t p m s =
    ⊎_elim
    (λ (e : number_at t p m ≡ no_word). rw e (record { high = omega arith; sign = omega arith }))
    (λ (r : Ends t p (number_at t p m)). record { high = r.high; sign = r.sign })
    (number_ways t p m s)

pub literal_within : (t : List ℕ) (p : ℕ) → Within t (literal_at t p)
literal_within t p =
    ⊎_elim
    (λ (e : literal_at t p ≡ no_word). rw e (record { high = omega arith; sign = omega arith }))
    (λ (r : Ends t p (literal_at t p)). record { high = r.high; sign = r.sign })
    (literal_ways t p)

-- ---- reading on in a number of which it is known where it ends
-- a place before the end of a run of digits holds a digit
pub digits_go : (f m x : ℕ) (t : List ℕ) (p : ℕ) → p < (digits_at f m x t p).next → (48 ≤ byte_at t p) × (byte_at t p ≤ 57)
digits_go f m x t p h =
    ⊎_elim
    (λ (e : is_digit (byte_at t p) ≡ false). absurd (let z : (digits_at f m x t p).next ≡ p = ap (λ (w : Read). w.next) (digits_stop f m x t p e) in omega arith))
    (λ (d : (is_digit (byte_at t p) ≡ true) × (48 ≤ byte_at t p) × (byte_at t p ≤ 57)). (d.1, d.2))
    (digit? (byte_at t p))

-- a run of digits of which some are left ends further on
pub digits_left : (f m x : ℕ) (t : List ℕ) (p : ℕ) → p < (digits_at f m x t p).next → 0 < f
unfolding digits_at
digits_left zero m x t p h = absurd (omega arith)
digits_left (suc f) m x t p h = omega arith

-- a number that ends in a space, after its first digit
module _ (t : List ℕ) (at m : ℕ) (sign : m ≤ 1) (there : (number_at t at m).next ≡ 0 → ⊥) (space : byte_at t (number_at t at m).next ≡ 32) where
  -- it starts with a digit inside the text
  pub known_first : (48 ≤ byte_at t at) × (byte_at t at ≤ 57) × (at < length t)
  known_first =
      ⊎_elim
      (λ (e : is_digit (byte_at t at) ≡ false). absurd (there (ap (λ (w : Read). w.next) (number_none t at m e))))
      (λ (d : (is_digit (byte_at t at) ≡ true) × (48 ≤ byte_at t at) × (byte_at t at ≤ 57)). (d.1, d.2, byte_in t at (λ e. omega arith)))
      (digit? (byte_at t at))

  -- its end is inside the text, and past its first digit
  pub known_ends : (at < (number_at t at m).next) × ((number_at t at m).next < length t)
  known_ends =
      ⊎_elim
      (λ (e : number_at t at m ≡ no_word). absurd (there (ap (λ (w : Read). w.next) e)))
      (λ (r : Ends t at (number_at t at m)). (r.low, byte_in t (number_at t at m).next (λ e. omega arith)))
      (number_ways t at m sign)

  pub known_start : number_at t at m ≡ digits_at (at + 9 - (at + 1)) m (byte_at t at - 48) t (at + 1)
  known_start = go (eq? (byte_at t at) 48)
    where
      eight : 8 ≡ at + 9 - (at + 1)
      eight = omega arith

      zero_way : byte_at t at ≡ 48 → (m ≡ 1) ⊎ (m ≡ 1 → ⊥) → number_at t at m ≡ digits_at (at + 9 - (at + 1)) m (byte_at t at - 48) t (at + 1)
      zero_way e (inl o) = absurd (there (ap (λ (w : Read). w.next) (number_minus t at m e o)))
      zero_way e (inr o) =
          let n = number_zero t at m e o in
          let z : m ≡ 0 = omega arith in
          let b : byte_at t (at + 1) < 48 = (let y : byte_at t (at + 1) ≡ 32 = ap (λ (w : Read). byte_at t w.next) (sym n) ∙ space in omega arith) in
          n ∙ sym (digits_stop (at + 9 - (at + 1)) m (byte_at t at - 48) t (at + 1) (digit_low (byte_at t (at + 1)) b) ∙ rw (z, e))

      go : (byte_at t at ≡ 48) ⊎ (byte_at t at ≡ 48 → ⊥) → number_at t at m ≡ digits_at (at + 9 - (at + 1)) m (byte_at t at - 48) t (at + 1)
      go (inl e) = zero_way e (eq? m 1)
      go (inr d) = let f = known_first in number_some t at m d f.0 f.1 ∙ rw (← eight)

  -- a byte other than a space is one more digit
  module _ (x p : ℕ) (read : number_at t at m ≡ digits_at (at + 9 - p) m x t p) (here : p ≤ (number_at t at m).next) (more : byte_at t p ≡ 32 → ⊥) where
    pub known_before : p < (number_at t at m).next
    known_before = ⊎_elim (λ (e : p ≡ (number_at t at m).next). absurd (more (ap (byte_at t) e ∙ space))) (λ (d : p ≡ (number_at t at m).next → ⊥). omega arith) (eq? p (number_at t at m).next)

    left : p < (digits_at (at + 9 - p) m x t p).next
    left = let e : (number_at t at m).next ≡ (digits_at (at + 9 - p) m x t p).next = ap (λ (w : Read). w.next) read in omega (arith, known_before)

    pub known_digit : (48 ≤ byte_at t p) × (byte_at t p ≤ 57)
    known_digit = digits_go (at + 9 - p) m x t p left

    pub known_room : p < at + 9
    known_room = let h = digits_left (at + 9 - p) m x t p left in omega arith

    pub known_next : number_at t at m ≡ digits_at (at + 9 - (p + 1)) m (x * 10 + (byte_at t p - 48)) t (p + 1)
    known_next = let d = known_digit in number_next t at m x p read (byte_at t p - 48) known_room d.0 d.1 refl

-- a literal that ends in a space, by its minus
module _ (t : List ℕ) (at : ℕ) (there : (literal_at t at).next ≡ 0 → ⊥) (space : byte_at t (literal_at t at).next ≡ 32) where
  pub known_inside : at < length t
  known_inside = let r = literal_there t at there in omega (arith, r.low, r.high)

  pub known_minus : byte_at t at ≡ 45 → ((number_at t (at + 1) 1).next ≡ 0 → ⊥) × (byte_at t (number_at t (at + 1) 1).next ≡ 32)
  known_minus e = let q = literal_minus t at e in ((λ z. there (ap (λ (w : Read). w.next) q ∙ z)), ap (λ (w : Read). byte_at t w.next) (sym q) ∙ space)

  pub known_plain : (byte_at t at ≡ 45 → ⊥) → ((number_at t at 0).next ≡ 0 → ⊥) × (byte_at t (number_at t at 0).next ≡ 32)
  known_plain d = let q = literal_plain t at d in ((λ z. there (ap (λ (w : Read). w.next) q ∙ z)), ap (λ (w : Read). byte_at t w.next) (sym q) ∙ space)
