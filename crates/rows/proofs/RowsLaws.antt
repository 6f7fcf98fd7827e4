-- Laws of rows: kinds, rows by the count of ones, and the rule of the table of input rows. Assumes nothing.
use Rattle.std.specs.Prelude.{◌≡◌, refl, Bool, true, false, not, cond, ℕ, zero, suc, ◌+◌, ◌-◌, ◌*◌, ◌/◌, ◌%◌, ◌^◌, ◌<◌, ◌≤◌, eqb, length, get_or}
use Rattle.std.proofs.Common.{sym, ap, ◌∙◌, subst, mod-lt, mod-eq_of_lt, div-one, pow-suc, add_comm, not-suc-le-zero, le_of_suc-le-suc, one-mul, lt_of_lt_of_le, one-add, arith, lt-ltb, le-ltb, le-leb, eqb→eq, lit<, shr-shr, pow_pos, pow_mono}
use Rattle.std.proofs.Math.Nat.{mod-one, div-eq_of_lt}
use Rattle.std.proofs.lemmas.Bool.{lt-leb}
use Rattle.std.specs.Int.Count.{ones}
use Rattle.std.proofs.lemmas.Nat.{ones_cat, mod-pow-add}
use Rattle.std.proofs.Math.Pow.{mod-mod-pow, high, low, field, pow-lt}
use Rattle.prelude.specs.Finite.{below, below_at}
use Rattle.prelude.specs.Lists.{tab}
use Rattle.prelude.specs.Lists.Laws.{length_tab, get_d_tab, tab_same}
use Rattle.prelude.specs.Tests.{T_of}
use Rattle.request.specs.Numbers.{inputs_most, with_switches}
use Rattle.request.specs.declared.Request.{Request}
use Rattle.rows.specs.declared.Kind.{Kind}
use Rattle.rows.specs.declared.Kind.TheVariants.{On, Off, Free}
use Rattle.rows.specs.Rows.{bit, set_below, kind_of, by_kind, off_below, input_table, input_rows, literal_on, literal_value, Row, row_at, rows_of}

-- a number has no bit at k or above it where it is below 2^k
pub bit_none : (x k : ℕ) → x < 2 ^ k → bit x k ≡ false
bit_none x k h = ap (λ (y : ℕ). eqb (y % 2) 1) (div-eq_of_lt h)

-- two numbers of n bits as one of 2n: its upper bits
pub bit_upper : (a c n i : ℕ) → c < 2 ^ n → bit (a * 2 ^ n + c) (n + i) ≡ bit a i
bit_upper a c n i h =
    ap (λ (y : ℕ). eqb (y % 2) 1) (sym (shr-shr (a * 2 ^ n + c) n i) ∙ ap (λ (y : ℕ). y / 2 ^ i) (high a n h))

-- and its lower bits
pub bit_lower : (a c n i : ℕ) → c < 2 ^ n → i < n → bit (a * 2 ^ n + c) i ≡ bit c i
bit_lower a c n i h l =
    let x : ℕ = a * 2 ^ n + c in
    let e : (n - (1 + i)) + (1 + i) ≡ n = omega arith in
    let f : x % 2 ^ (1 + i) ≡ c % 2 ^ (1 + i) =
    sym (mod-mod-pow x (n - (1 + i)) (1 + i)) ∙ ap (λ (m : ℕ). x % 2 ^ m % 2 ^ (1 + i)) e
    ∙ ap (λ (y : ℕ). y % 2 ^ (1 + i)) (low a n h) in
    ap (λ (y : ℕ). eqb y 1) (sym (field x 1 i) ∙ ap (λ (y : ℕ). y / 2 ^ i) f ∙ field c 1 i)

-- a digit and that of what is left to all ones
complement_digit : (n k i : ℕ) → i < n → k < 2 ^ n → (2 ^ n - 1 - k) / 2 ^ i % 2 + k / 2 ^ i % 2 ≡ 1
complement_digit zero k i l h = absurd (omega arith)
complement_digit (suc n) k zero l h =
    let e = pow-suc 2 n in
    let f = div-one (2 ^ suc n - 1 - k) in
    let g = div-one k in
    omega arith
complement_digit (suc n) k (suc i) l h =
    let e = pow-suc 2 n in
    let half : (2 ^ suc n - 1 - k) / 2 ≡ 2 ^ n - 1 - k / 2 = omega arith in
    let next : (x : ℕ) → x / 2 ^ suc i ≡ x / 2 / 2 ^ i = λ x. ap (λ (m : ℕ). x / 2 ^ m) (sym (one-add i)) ∙ sym (shr-shr x 1 i) in
    rw (next (2 ^ suc n - 1 - k), next k, half) (complement_digit n (k / 2) i (omega arith) (omega arith))

-- a bit and that of what is left to all ones
pub bit_complement : (n k i : ℕ) → i < n → k < 2 ^ n → bit (2 ^ n - 1 - k) i ≡ not (bit k i)
bit_complement n k i l h = go ((2 ^ n - 1 - k) / 2 ^ i % 2) (k / 2 ^ i % 2) (complement_digit n k i l h)
  where
    go : (x y : ℕ) → x + y ≡ 1 → eqb x 1 ≡ not (eqb y 1)
    go x zero e = rw (let z : x ≡ 1 = omega arith in z)
    go x (suc zero) e = rw (let z : x ≡ 0 = omega arith in z)
    go x (suc (suc y)) e = absurd (omega arith)

-- the ones of a digit
digit_ones : (d : ℕ) → d < 2 → ones d ≡ d
unfolding ones
digit_ones zero h = refl
digit_ones (suc zero) h = refl
digit_ones (suc (suc d)) h = absurd (not-suc-le-zero (le_of_suc-le-suc (le_of_suc-le-suc h)))

-- the ones of the k lowest digits of a number are its rows below row k
pub ones_below : (rows k : ℕ) → ones (rows % 2 ^ k) ≡ set_below rows k
unfolding set_below ones
ones_below t zero = rw mod-one
ones_below t (suc k) =
    ap (λ (n : ℕ). ones (t % 2 ^ n)) (sym (one-add k)) ∙ ap ones (mod-pow-add t 1 k)
    ∙ ones_cat k (t / 2 ^ k % 2) (t % 2 ^ k) (mod-lt t (pow_pos k))
    ∙ ap (λ (x : ℕ). x + ones (t % 2 ^ k)) (digit_ones (t / 2 ^ k % 2) (mod-lt (t / 2 ^ k) (lit< tt)))
    ∙ add_comm (t / 2 ^ k % 2) (ones (t % 2 ^ k))
    ∙ ap (λ (x : ℕ). x + t / 2 ^ k % 2) (ones_below t k)

-- a number below 2^k has as many rows as ones
pub ones_all : (rows k : ℕ) → rows < 2 ^ k → ones rows ≡ set_below rows k
ones_all t k h = ap ones (sym (mod-eq_of_lt h)) ∙ ones_below t k

-- none of its rows lies at k or above it
pub set_past : (rows k j : ℕ) → rows < 2 ^ k → k ≤ j → set_below rows j ≡ set_below rows k
set_past t k j h l = sym (ones_all t j (lt_of_lt_of_le h (pow_mono l))) ∙ ones_all t k h

-- the shift 1 << k, at a width above k
pub one_shifted : (k w : ℕ) → k < w → 1 * 2 ^ k % 2 ^ w ≡ 2 ^ k
one_shifted k w h = ap (λ (x : ℕ). x % 2 ^ w) (one-mul (2 ^ k)) ∙ mod-eq_of_lt (pow-lt h)

-- the rule of the table of input rows, for n = i + 1, as a test
ruled : ℕ → ℕ → ℕ → Bool
ruled i v k = eqb (input_rows (i + 1) v / 2 ^ k % 2) (k / 2 ^ (i - v) % 2)

-- bit k of the entry for input v is the input's bit of k: one computation over the whole table
input_rule : (i v k : ℕ) → i < inputs_most → v < i + 1 → k < 2 ^ (i + 1) → input_rows (i + 1) v / 2 ^ k % 2 ≡ k / 2 ^ (i - v) % 2
unfolding ruled input_rows input_table
input_rule i v k hi hv hk =
    eqb→eq (input_rows (i + 1) v / 2 ^ k % 2) (k / 2 ^ (i - v) % 2)
    (below_at (2 ^ (i + 1)) (ruled i v)
    (below_at (i + 1) (λ v. below (2 ^ (i + 1)) (ruled i v))
    (below_at inputs_most (λ i. below (i + 1) (λ v. below (2 ^ (i + 1)) (ruled i v))) tt i hi)
    v hv)
    k hk)

-- the rows on which input v is 1 are those whose bit n - 1 - v is 1
pub input_bit : (n v k : ℕ) → 1 ≤ n → n ≤ inputs_most → v < n → k < 2 ^ n → bit (input_rows n v) k ≡ bit k (n - 1 - v)
input_bit n v k low high hv hk =
    let e : n - 1 + 1 ≡ n = omega arith in
    let rule = input_rule (n - 1) v k (omega arith) (omega arith) (subst (λ (m : ℕ). k < 2 ^ m) (sym e) hk) in
    ap (λ (x : ℕ). eqb x 1) (ap (λ (m : ℕ). input_rows m v / 2 ^ k % 2) (sym e) ∙ rule)

-- a literal below n is an input
pub literal_input : (n k v : ℕ) → 1 ≤ n → n ≤ inputs_most → k < 2 ^ n → v < n → bit (input_rows n v) k ≡ literal_on n k v
unfolding literal_on
literal_input n k v low high hk hv = rw (lt-ltb v n hv) (input_bit n v k low high hv hk)

-- any other literal is the complement of one
pub literal_complement : (n k v : ℕ) → 1 ≤ n → n ≤ inputs_most → k < 2 ^ n → n ≤ v → v < 2 * n
    → not (bit (input_rows n (v - n)) k) ≡ literal_on n k v
unfolding literal_on
literal_complement n k v low high hk hl hv =
    let e : n - 1 - (v - n) ≡ 2 * n - 1 - v = omega arith in
    rw (le-ltb v n hl) (ap not (input_bit n (v - n) k low high (omega arith) hk ∙ ap (bit k) e))

-- where there is such a literal and row, the value is the literal's
pub literal_there : (n k v : ℕ) → 1 ≤ n → n ≤ inputs_most → k < 2 ^ n → v < 2 * n → literal_value n k v ≡ literal_on n k v
unfolding literal_value
literal_there n k v low high hk hv = rw (le-leb 1 n low, le-leb n inputs_most high, lt-ltb k (2 ^ n) hk, lt-ltb v (2 * n) hv)

-- elsewhere it is false: by n, by the row, by the literal
pub no_inputs : (n k v : ℕ) → n < 1 → false ≡ literal_value n k v
unfolding literal_value
no_inputs n k v h = rw (lt-leb 1 n h)

pub many_inputs : (n k v : ℕ) → 1 ≤ n → inputs_most < n → false ≡ literal_value n k v
unfolding literal_value
many_inputs n k v low h = rw (le-leb 1 n low, lt-leb n inputs_most h)

pub no_row : (n k v : ℕ) → 1 ≤ n → n ≤ inputs_most → 2 ^ n ≤ k → false ≡ literal_value n k v
unfolding literal_value
no_row n k v low high h = rw (le-leb 1 n low, le-leb n inputs_most high, le-ltb k (2 ^ n) h)

pub no_literal : (n k v : ℕ) → 1 ≤ n → n ≤ inputs_most → k < 2 ^ n → 2 * n ≤ v → false ≡ literal_value n k v
unfolding literal_value
no_literal n k v low high hk h = rw (le-leb 1 n low, le-leb n inputs_most high, lt-ltb k (2 ^ n) hk, le-ltb v (2 * n) h)

module _ (q : Request) (k : ℕ) where
  -- a row's kind by its two bits
  pub kind_on : bit q.table k ≡ true → kind_of q k ≡ On
  unfolding kind_of
  kind_on e = rw e

  pub kind_free : bit q.table k ≡ false → bit q.free k ≡ true → kind_of q k ≡ Free
  unfolding kind_of
  kind_free e f = rw (e, f)

  pub kind_off : bit q.table k ≡ false → bit q.free k ≡ false → kind_of q k ≡ Off
  unfolding kind_of
  kind_off e f = rw (e, f)

-- one row more has a one in the table where it is on
pub on_step : (q : Request) (k : ℕ) → set_below q.table (suc k) ≡ set_below q.table k + by_kind 1 0 0 (kind_of q k)
unfolding set_below kind_of
on_step q k = ap (λ (x : ℕ). set_below q.table k + x) (go (q.table / 2 ^ k % 2) (bit q.free k) (omega arith))
  where
    go : (d : ℕ) (f : Bool) → d < 2 → d ≡ by_kind 1 0 0 (cond (eqb d 1) On (cond f Free Off))
    go zero true h = refl
    go zero false h = refl
    go (suc zero) f h = refl
    go (suc (suc d)) f h = absurd (omega arith)

-- and in the number of free rows where it is free, since no row has both
free_step : (q : Request) (k : ℕ) → (bit q.table k ≡ true → bit q.free k ≡ false)
    → set_below q.free (suc k) ≡ set_below q.free k + by_kind 0 0 1 (kind_of q k)
unfolding set_below kind_of
free_step q k one = ap (λ (x : ℕ). set_below q.free k + x) (go (bit q.table k) (q.free / 2 ^ k % 2) (omega arith) one)
  where
    go : (t : Bool) (d : ℕ) → d < 2 → (t ≡ true → eqb d 1 ≡ false) → d ≡ by_kind 0 0 1 (cond t On (cond (eqb d 1) Free Off))
    go true zero h o = refl
    go true (suc zero) h o = absurd (T_of false (sym (o refl)))
    go false zero h o = refl
    go false (suc zero) h o = refl
    go t (suc (suc d)) h o = absurd (omega arith)

-- there are no more on and off rows than rows
pub on_off_most : (q : Request) (k : ℕ) → set_below q.table k + off_below q k ≤ k
unfolding off_below set_below
on_off_most q zero = omega arith
on_off_most q (suc k) = go (kind_of q k) (on_step q k) (on_off_most q k)
  where
    go : (x : Kind) → set_below q.table (suc k) ≡ set_below q.table k + by_kind 1 0 0 x → set_below q.table k + off_below q k ≤ k
        → set_below q.table (suc k) + (off_below q k + by_kind 0 1 0 x) ≤ suc k
    go On e h = omega arith
    go Off e h = omega arith
    go Free e h = omega arith

-- the off rows are the rows less the ones of both numbers, where no row has both
pub off_count : (q : Request) (k : ℕ) → ((j : ℕ) → j < k → bit q.table j ≡ true → bit q.free j ≡ false)
    → set_below q.table k + set_below q.free k + off_below q k ≡ k
unfolding off_below set_below
off_count q zero one = refl
off_count q (suc k) one =
    go (kind_of q k) (on_step q k) (free_step q k (one k (omega arith))) (off_count q k (λ j h. one j (omega arith)))
  where
    go : (x : Kind) → set_below q.table (suc k) ≡ set_below q.table k + by_kind 1 0 0 x
        → set_below q.free (suc k) ≡ set_below q.free k + by_kind 0 0 1 x → set_below q.table k + set_below q.free k + off_below q k ≡ k
        → set_below q.table (suc k) + set_below q.free (suc k) + (off_below q k + by_kind 0 1 0 x) ≡ suc k
    go On e f h = omega arith
    go Off e f h = omega arith
    go Free e f h = omega arith

-- on by a 1 of the table and off by a 0, as document 01 has it
abbrev pub on_off : Bool → Kind
on_off true = On
on_off false = Off

-- so are the rows of a request without free rows: they are those of its n and table alone
pub rows_full : (q : Request) → q.free ≡ 0 → rows_of q ≡ tab 0 (2 ^ q.n) (λ k. record { kind = on_off (bit q.table k); value = literal_on q.n k })
unfolding rows_of kind_of
rows_full q e = tab_same 0 (2 ^ q.n) (row_at q) _ (λ k h l. ap (λ (x : Kind). record { kind = x; value = literal_on q.n k }) (full k))
  where
    full : (k : ℕ) → kind_of q k ≡ on_off (bit q.table k)
    full k = rw (e, bit_none 0 k (pow_pos k)) (go (bit q.table k))
      where
        go : (t : Bool) → cond t On Off ≡ on_off t
        go true = refl
        go false = refl

-- a request has 2^n rows
pub rows_length : (q : Request) → length (rows_of q) ≡ 2 ^ q.n
unfolding rows_of
rows_length q = length_tab 0 (2 ^ q.n) (row_at q)

-- row k among them
pub rows_at : (q : Request) (k : ℕ) (d : Row) → k < 2 ^ q.n → get_or (rows_of q) k d ≡ row_at q k
unfolding rows_of
rows_at q k d h = get_d_tab 0 (2 ^ q.n) (row_at q) k d h ∙ ap (row_at q) (let z : 0 + k ≡ k = omega arith in z)

-- only n and the two row numbers matter
pub rows_same : (q p : Request) → q.n ≡ p.n → q.table ≡ p.table → q.free ≡ p.free → rows_of q ≡ rows_of p
unfolding rows_of kind_of
rows_same q p a b c = rw (a, b, c)

-- the number of switches does not
pub rows_with : (q : Request) (r : ℕ) → rows_of (with_switches q r) ≡ rows_of q
unfolding rows_of kind_of
rows_with q r = refl
