-- Laws of decimal numerals: the last digit with those before it, and how many digits there are. Assumes nothing.
use Rattle.std.specs.Prelude.{◌≡◌, cond, List, [], ◌∷◌, ◌++◌, ◌⊎◌, ℕ, zero, suc, ◌+◌, ◌*◌, ◌^◌, ◌/◌, ◌%◌, ◌≤◌, ◌<◌, ltb, length, max}
use Rattle.std.proofs.Common.{refl, sym, ap, ◌∙◌, append_assoc, inl, inr, ⊎_elim, not-suc-le-zero, pow-suc, arith, length-append, lt-ltb, le-ltb}
use Rattle.std.proofs.Math.Nat.{one-le-pow}
use Rattle.prelude.specs.Tests.{le?}
use Rattle.text.specs.Decimal.{digits, decimal, padded, two, four}

-- two bounds on the digits before the last that give the same, if there are any
enough_pick : (f g x : ℕ) → ((x / 10) < x → digits f (x / 10) ≡ digits g (x / 10)) → (10 ≤ x) ⊎ (x < 10)
    → cond (ltb x 10) [] (digits f (x / 10)) ≡ cond (ltb x 10) [] (digits g (x / 10))
enough_pick f g x r (inl l) = rw (le-ltb x 10 l) (r (omega arith))
enough_pick f g x r (inr l) = rw (lt-ltb x 10 l)

-- a bound above x changes nothing
enough : (f g x : ℕ) → x < f → x < g → digits f x ≡ digits g x
unfolding digits
enough zero g x h k = absurd (not-suc-le-zero h)
enough (suc f) zero x h k = absurd (not-suc-le-zero k)
enough (suc f) (suc g) x h k =
    ap (λ (l : List ℕ). l ++ ((48 + x % 10) ∷ [])) (enough_pick f g x (λ l. enough f g (x / 10) (omega arith) (omega arith)) (le? 10 x))

-- a number below ten is one digit
pub decimal_digit : (x : ℕ) → x < 10 → decimal x ≡ (48 + x % 10) ∷ []
unfolding decimal digits
decimal_digit x h = rw (lt-ltb x 10 h)

-- another number has the digits of its tenth before its last
pub decimal_more : (x : ℕ) → 10 ≤ x → decimal x ≡ decimal (x / 10) ++ ((48 + x % 10) ∷ [])
unfolding decimal digits
decimal_more x h = rw (le-ltb x 10 h) (ap (λ (l : List ℕ). l ++ ((48 + x % 10) ∷ [])) (enough x (suc (x / 10)) (x / 10) (omega arith) (omega arith)))

-- how many digits: one below ten
pub length_digit : (x : ℕ) → x < 10 → length (decimal x) ≡ 1
length_digit x h = ap length (decimal_digit x h)

-- and one more than its tenth's otherwise
pub length_more : (x : ℕ) → 10 ≤ x → length (decimal x) ≡ length (decimal (x / 10)) + 1
length_more x h = ap length (decimal_more x h) ∙ length-append (decimal (x / 10)) ((48 + x % 10) ∷ [])

-- no more digits than the power of ten says
pub length_high : (k x : ℕ) → x < 10 ^ suc k → length (decimal x) ≤ suc k
length_high zero x h = let e = length_digit x h in omega arith
length_high (suc k) x h =
    let p = pow-suc 10 (suc k) in
    ⊎_elim (λ l. let e = length_more x l in let r = length_high k (x / 10) (omega arith) in omega arith)
    (λ l. let e = length_digit x l in omega arith) (le? 10 x)

-- nor fewer
length_low : (k x : ℕ) → 10 ^ k ≤ x → suc k ≤ length (decimal x)
length_low zero x h =
    ⊎_elim (λ l. let e = length_more x l in omega arith) (λ l. let e = length_digit x l in omega arith) (le? 10 x)
length_low (suc k) x h =
    let p = pow-suc 10 k in
    let q = one-le-pow k 10 (omega arith) in
    let e = length_more x (omega arith) in
    let r = length_low k (x / 10) (omega arith) in
    omega arith

-- so just as many
pub length_is : (k x : ℕ) → 10 ^ k ≤ x → x < 10 ^ suc k → suc k ≡ length (decimal x)
length_is k x l h = let a = length_low k x l in let b = length_high k x h in omega arith

-- no more than 1 is only the first power
power_one : (k : ℕ) → 10 ^ k ≤ 1 → k ≡ 0
power_one zero h = refl
power_one (suc k) h = let p = pow-suc 10 k in let q = one-le-pow k 10 (omega arith) in omega arith

-- as many as one more than the power of ten at or below it, or below 1 where it is 0
pub length_power : (k x y : ℕ) → y ≡ max x 1 → 10 ^ k ≤ y → y < 10 * 10 ^ k → k + 1 ≡ length (decimal x)
length_power k zero y e l h = let p = one-le-pow k 10 (omega arith) in let q = power_one k (rw e at l) in let d = length_digit 0 (omega arith) in omega arith
length_power k (suc x) y e l h =
    let p = pow-suc 10 k in
    let d = length_is k (suc x) (omega arith) (omega arith) in
    omega arith

-- the last two digits with those before them
pub decimal_hundred : (x : ℕ) → 100 ≤ x → decimal x ≡ decimal (x / 100) ++ two (x % 100)
decimal_hundred x h =
    let a : x / 10 / 10 ≡ x / 100 = omega arith in
    let b : x / 10 % 10 ≡ x % 100 / 10 = omega arith in
    let d : x % 10 ≡ x % 100 % 10 = omega arith in
    rw (decimal_more x (omega arith), decimal_more (x / 10) (omega arith), a, b, d, append_assoc)

-- the last four
pub decimal_thousands : (x : ℕ) → 10000 ≤ x → decimal x ≡ decimal (x / 10000) ++ four (x % 10000)
decimal_thousands x h =
    let a : x / 100 / 100 ≡ x / 10000 = omega arith in
    let b : x / 100 % 100 ≡ x % 10000 / 100 = omega arith in
    let d : x % 100 ≡ x % 10000 % 100 = omega arith in
    rw (decimal_hundred x (omega arith), decimal_hundred (x / 100) (omega arith), a, b, d, append_assoc)

-- numbers of one, two, three and four digits
pub decimal_one : (x : ℕ) → x < 10 → decimal x ≡ (48 + x) ∷ []
decimal_one x h = decimal_digit x h ∙ ap (λ (d : ℕ). (48 + d) ∷ []) (let e : x % 10 ≡ x = omega arith in e)

pub decimal_two : (x : ℕ) → 10 ≤ x → x < 100 → decimal x ≡ two x
decimal_two x l h = decimal_more x l ∙ ap (λ (d : List ℕ). d ++ ((48 + x % 10) ∷ [])) (decimal_one (x / 10) (omega arith))

pub decimal_three : (x : ℕ) → 100 ≤ x → x < 1000 → decimal x ≡ ((48 + x / 100) ∷ []) ++ two (x % 100)
decimal_three x l h = decimal_hundred x l ∙ ap (λ (d : List ℕ). d ++ two (x % 100)) (decimal_one (x / 100) (omega arith))

pub decimal_four : (x : ℕ) → 1000 ≤ x → x < 10000 → decimal x ≡ four x
decimal_four x l h = decimal_hundred x (omega arith) ∙ ap (λ (d : List ℕ). d ++ two (x % 100)) (decimal_two (x / 100) (omega arith) (omega arith))

-- two and four digits with leading zeros are the last two and four
pub padded_two : (x : ℕ) → x < 100 → padded 2 x ≡ two x
padded_two x h = let a : x / 10 % 10 ≡ x / 10 = omega arith in rw a refl

pub padded_four : (x : ℕ) → x < 10000 → padded 4 x ≡ four x
padded_four x h =
    let a : x / 10 / 10 / 10 % 10 ≡ x / 100 / 10 = omega arith in
    let b : x / 10 / 10 % 10 ≡ x / 100 % 10 = omega arith in
    let c : x / 10 % 10 ≡ x % 100 / 10 = omega arith in
    let d : x % 10 ≡ x % 100 % 10 = omega arith in
    rw (a, b, c, d) refl

-- so numbers of one to four digits are their last ones, and every other has its last four after those before them
pub decimal_padded_one : (x : ℕ) → x < 10 → decimal x ≡ padded 1 x
decimal_padded_one x h = decimal_digit x h

pub decimal_padded_two : (x : ℕ) → 10 ≤ x → x < 100 → decimal x ≡ padded 2 x
decimal_padded_two x l h = decimal_two x l h ∙ sym (padded_two x h)

pub decimal_padded_three : (x : ℕ) → 100 ≤ x → x < 1000 → decimal x ≡ padded 3 x
decimal_padded_three x l h =
    let a : x / 10 / 10 % 10 ≡ x / 100 = omega arith in
    let b : x / 10 % 10 ≡ x % 100 / 10 = omega arith in
    let c : x % 10 ≡ x % 100 % 10 = omega arith in
    decimal_three x l h ∙ rw (a, b, c) refl

pub decimal_padded_four : (x : ℕ) → 1000 ≤ x → x < 10000 → decimal x ≡ padded 4 x
decimal_padded_four x l h = decimal_four x l h ∙ sym (padded_four x h)

pub decimal_padded_more : (x : ℕ) → 10000 ≤ x → decimal x ≡ decimal (x / 10000) ++ padded 4 (x % 10000)
decimal_padded_more x h =
    decimal_thousands x h ∙ ap (λ (l : List ℕ). decimal (x / 10000) ++ l) (sym (padded_four (x % 10000) (omega arith)))

pub padded_length : (k x : ℕ) → length (padded k x) ≡ k
padded_length zero x = refl
padded_length (suc k) x = let e = length-append (padded k (x / 10)) ((48 + x % 10) ∷ []) in let r = padded_length k (x / 10) in omega arith

-- a number that is its last k digits has k
pub padded_digits : (k x : ℕ) → decimal x ≡ padded k x → length (decimal x) ≡ k
padded_digits k x e = ap length e ∙ padded_length k x
