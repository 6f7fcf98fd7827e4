-- Laws of the test of a request: what each of its branches answers, and that it answers 0 just for a good request. Assumes nothing.
use Rattle.std.specs.Prelude.{◌≡◌, Bool, true, false, cond, ◌&&◌, ℕ, zero, suc, ◌*◌, ◌/◌, ◌%◌, ◌^◌, ◌≤◌, ◌<◌, min, eqb}
use Rattle.std.proofs.Common.{sym, ap, ◌∙◌, subst, ⊎_elim, one-mul, mod-eq_of_lt, div-lt_iff_lt-mul, div-one, pow-suc, one-add, eqb→eq, pow_mono, pow_pos, shr-shr}
use Rattle.std.proofs.Math.Nat.{div-eq_of_lt}
use native.Mathlib.Omega.{arith}
use Rattle.std.specs.Int.Bits.{bit_and, and_step}
use Rattle.std.proofs.Math.Pow.{pow-lt}
use borrow.Author.Tests.{lt-ltb, le-ltb, le-leb, lt-leb}
use Rattle.prelude.specs.Lists.Laws.{any_in, any_out}
use Rattle.prelude.specs.Tests.{T-eq, T_of, not_true_false, and_in, and_l, and_r, eq→eqb, eq?, le?}
use Rattle.request.specs.declared.Request.{Request}
use Rattle.request.specs.Numbers.{inputs_most, switches_most, series_most, rows_most, bit, overlapping, Good, refusal_of}

-- a bit is one of half the number
pub bit_half : (x k : ℕ) → bit x (suc k) ≡ bit (x / 2) k
bit_half x k = ap (λ (y : ℕ). eqb (y % 2) 1) (ap (λ (m : ℕ). x / 2 ^ m) (sym (one-add k)) ∙ sym (shr-shr x 1 k))

-- the lowest bit
pub bit_low : (x : ℕ) → bit x 0 ≡ eqb (x % 2) 1
bit_low x = ap (λ (y : ℕ). eqb (y % 2) 1) (div-one x)

-- two numbers with a bit in common have a one in their "and"
pub and_some : (k x y : ℕ) → bit x k ≡ true → bit y k ≡ true → 0 < bit_and x y
and_some zero x y e f =
    let a : x % 2 ≡ 1 = eqb→eq (x % 2) 1 (T_of _ (sym (bit_low x) ∙ e)) in
    let b : y % 2 ≡ 1 = eqb→eq (y % 2) 1 (T_of _ (sym (bit_low y) ∙ f)) in
    let m : min (x % 2) (y % 2) ≡ 1 = rw (a, b) in
    omega (arith, and_step x y)
and_some (suc k) x y e f =
    let h = and_some k (x / 2) (y / 2) (sym (bit_half x k) ∙ e) (sym (bit_half y k) ∙ f) in
    omega (arith, and_step x y)

-- so numbers whose "and" is 0 have none
pub and_none : (x y : ℕ) → bit_and x y ≡ 0 → (k : ℕ) → bit x k ≡ true → bit y k ≡ false
and_none x y z k a = not_true_false (bit y k) (λ (b : bit y k ≡ true). omega (arith, and_some k x y a b))

-- two digits whose lower is not 0
min_ones : (x y : ℕ) → x < 2 → y < 2 → 0 < min x y → (x ≡ 1) × (y ≡ 1)
min_ones zero y l h m = absurd (omega arith)
min_ones (suc zero) zero l h m = absurd (omega arith)
min_ones (suc zero) (suc zero) l h m = (omega arith, omega arith)
min_ones (suc zero) (suc (suc y)) l h m = absurd (omega arith)
min_ones (suc (suc x)) y l h m = absurd (omega arith)

-- and a one in it is a bit in common, among the bits of the first
pub and_common : (w x y : ℕ) → x < 2 ^ w → 0 < bit_and x y → (k : ℕ) × (k < w) × (bit x k ≡ true) × (bit y k ≡ true)
and_common zero x y h m = absurd (let z : x ≡ 0 = omega arith in let e : bit_and x y ≡ 0 = rw z in omega arith)
and_common (suc w) x y h m =
    ⊎_elim
    (λ (z : bit_and (x / 2) (y / 2) ≡ 0).
    let d = min_ones (x % 2) (y % 2) (omega arith) (omega arith) (omega (arith, and_step x y)) in
    (0, omega arith, bit_low x ∙ T-eq _ (eq→eqb (x % 2) 1 d.0), bit_low y ∙ T-eq _ (eq→eqb (y % 2) 1 d.1)))
    (λ (z : bit_and (x / 2) (y / 2) ≡ 0 → ⊥).
    let c = and_common w (x / 2) (y / 2) (omega (arith, pow-suc 2 w)) (omega arith) in
    (suc c.0, omega (arith, c.1), bit_half x c.0 ∙ c.2, bit_half y c.0 ∙ c.3))
    (eq? (bit_and (x / 2) (y / 2)) 0)

module _ (rows x y : ℕ) where
  -- a row with both bits
  pub overlap_at : (k : ℕ) → k < rows → bit x k ≡ true → bit y k ≡ true → overlapping rows x y ≡ true
  unfolding overlapping
  overlap_at k h e f =
      T-eq _ (any_in 0 rows (λ k. bit x k && bit y k) k (omega arith) (omega arith) (and_in (bit x k) (bit y k) (T_of _ e) (T_of _ f)))

  -- is one
  pub overlap_out : overlapping rows x y ≡ true → (k : ℕ) × (k < rows) × (bit x k ≡ true) × (bit y k ≡ true)
  unfolding overlapping
  overlap_out e =
      let w = any_out 0 rows (λ k. bit x k && bit y k) (T_of _ e) in
      (w.0, omega (arith, w.2), T-eq _ (and_l (bit x w.0) (bit y w.0) w.3), T-eq _ (and_r (bit x w.0) (bit y w.0) w.3))

  -- none
  pub overlap_none : ((k : ℕ) → k < rows → bit x k ≡ true → bit y k ≡ false) → overlapping rows x y ≡ false
  overlap_none h =
      not_true_false (overlapping rows x y) (λ (e : overlapping rows x y ≡ true).
      let w = overlap_out e in
      let z : true ≡ false = sym w.3 ∙ h w.0 w.1 w.2 in
      T_of false (sym z))

module _ (q : Request) where
  -- n below 1
  pub refusal_low : q.n < 1 → refusal_of q ≡ 2
  unfolding refusal_of
  refusal_low h = rw (lt-leb 1 q.n h)

  -- n above 4
  pub refusal_high : inputs_most < q.n → refusal_of q ≡ 2
  unfolding refusal_of
  refusal_high h = let l : 1 ≤ q.n = omega arith in rw (le-leb 1 q.n l, lt-leb q.n inputs_most h)

  module _ (l : 1 ≤ q.n) (h : q.n ≤ inputs_most) where
    -- a table bit at or above 2^n
    pub refusal_table : 2 ^ (2 ^ q.n) ≤ q.table → refusal_of q ≡ 3
    unfolding refusal_of
    refusal_table t = rw (le-leb 1 q.n l, le-leb q.n inputs_most h, le-ltb q.table (2 ^ (2 ^ q.n)) t)

    module _ (t : q.table < 2 ^ (2 ^ q.n)) where
      -- a free bit there
      pub refusal_free : 2 ^ (2 ^ q.n) ≤ q.free → refusal_of q ≡ 3
      unfolding refusal_of
      refusal_free f =
          rw (le-leb 1 q.n l, le-leb q.n inputs_most h, lt-ltb q.table (2 ^ (2 ^ q.n)) t, le-ltb q.free (2 ^ (2 ^ q.n)) f)

      module _ (f : q.free < 2 ^ (2 ^ q.n)) where
        -- both bits of a row
        pub refusal_both : (k : ℕ) → k < 2 ^ q.n → bit q.table k ≡ true → bit q.free k ≡ true → refusal_of q ≡ 24
        unfolding refusal_of
        refusal_both k u a b =
            rw (le-leb 1 q.n l, le-leb q.n inputs_most h, lt-ltb q.table (2 ^ (2 ^ q.n)) t)
            (rw (lt-ltb q.free (2 ^ (2 ^ q.n)) f, overlap_at (2 ^ q.n) q.table q.free k u a b))

        module _ (one : (k : ℕ) → k < 2 ^ q.n → bit q.table k ≡ true → bit q.free k ≡ false) where
          -- r above 7
          pub refusal_r : switches_most < q.r → refusal_of q ≡ 4
          unfolding refusal_of
          refusal_r r =
              rw (le-leb 1 q.n l, le-leb q.n inputs_most h, lt-ltb q.table (2 ^ (2 ^ q.n)) t)
              (rw (lt-ltb q.free (2 ^ (2 ^ q.n)) f, overlap_none (2 ^ q.n) q.table q.free one, lt-ltb switches_most q.r r))

          -- M above 7
          pub refusal_m : q.r ≤ switches_most → series_most < q.m → refusal_of q ≡ 5
          unfolding refusal_of
          refusal_m r m =
              rw (le-leb 1 q.n l, le-leb q.n inputs_most h, lt-ltb q.table (2 ^ (2 ^ q.n)) t)
              (rw (lt-ltb q.free (2 ^ (2 ^ q.n)) f, overlap_none (2 ^ q.n) q.table q.free one)
              (rw (le-ltb switches_most q.r r, lt-ltb series_most q.m m)))

  -- a good request is not refused
  pub good_refusal : Good q → refusal_of q ≡ 0
  unfolding refusal_of
  good_refusal g =
      rw (
        le-leb 1 q.n g.n_low,
        le-leb q.n inputs_most g.n_high,
        lt-ltb q.table (2 ^ (2 ^ q.n)) g.table_low,
        lt-ltb q.free (2 ^ (2 ^ q.n)) g.free_low,
      )
      (rw (
        overlap_none (2 ^ q.n) q.table q.free g.one_kind,
        le-ltb switches_most q.r g.r_high,
        le-ltb series_most q.m g.m_high,
      ))

  -- a request that is not refused is good
  pub refusal_good : refusal_of q ≡ 0 → Good q
  refusal_good e =
      ⊎_elim (λ (l : 1 ≤ q.n).
      ⊎_elim (λ (h : q.n ≤ inputs_most).
      ⊎_elim (λ (t : 2 ^ (2 ^ q.n) ≤ q.table). absurd (omega (arith, refusal_table l h t)))
      (λ (t : q.table < 2 ^ (2 ^ q.n)).
      ⊎_elim (λ (f : 2 ^ (2 ^ q.n) ≤ q.free). absurd (omega (arith, refusal_free l h t f)))
      (λ (f : q.free < 2 ^ (2 ^ q.n)).
      let one : (k : ℕ) → k < 2 ^ q.n → bit q.table k ≡ true → bit q.free k ≡ false =
      λ k u a. not_true_false (bit q.free k) (λ (b : bit q.free k ≡ true). omega (arith, refusal_both l h t f k u a b)) in
      ⊎_elim (λ (r : q.r ≤ switches_most).
      ⊎_elim (λ (m : q.m ≤ series_most).
      record { n_low = l; n_high = h; table_low = t; free_low = f; one_kind = one; r_high = r; m_high = m })
      (λ (m : series_most < q.m). absurd (omega (arith, refusal_m l h t f one r m)))
      (le? q.m series_most))
      (λ (r : switches_most < q.r). absurd (omega (arith, refusal_r l h t f one r)))
      (le? q.r switches_most))
      (le? (2 ^ (2 ^ q.n)) q.free))
      (le? (2 ^ (2 ^ q.n)) q.table))
      (λ (h : inputs_most < q.n). absurd (omega (arith, refusal_high h)))
      (le? q.n inputs_most))
      (λ (l : q.n < 1). absurd (omega (arith, refusal_low l)))
      (le? 1 q.n)

-- 1 shifted by n in a word of w bits, at least 32
pub rows_shl : (n w : ℕ) → n ≤ inputs_most → 32 ≤ w → 1 * 2 ^ n % 2 ^ w ≡ 2 ^ n
rows_shl n w h l = ap (λ (x : ℕ). x % 2 ^ w) (one-mul (2 ^ n)) ∙ mod-eq_of_lt (pow-lt (let z : n < w = omega arith in z))

-- it is at most the most rows
pub rows_high : (n : ℕ) → n ≤ inputs_most → 2 ^ n ≤ rows_most
rows_high n h = pow_mono {i = n} {j = inputs_most} h

-- a bit at or above 2^n, where the shift by that many rows leaves some
pub table_over : (x n : ℕ) → n ≤ inputs_most → (x / 2 ^ (1 * 2 ^ n % 2 ^ 32) ≡ 0 → ⊥) → 2 ^ (2 ^ n) ≤ x
table_over x n h f =
    ⊎_elim (λ (l : 2 ^ (2 ^ n) ≤ x). l) (λ (l : x < 2 ^ (2 ^ n)). absurd (f (rw (rows_shl n 32 h (omega arith)) (div-eq_of_lt l))))
    (le? (2 ^ (2 ^ n)) x)

-- none where it leaves nothing
pub table_within : (x n : ℕ) → n ≤ inputs_most → x / 2 ^ (1 * 2 ^ n % 2 ^ 32) ≡ 0 → x < 2 ^ (2 ^ n)
table_within x n h e =
    let z : x / 2 ^ (2 ^ n) ≡ 0 = rw (rows_shl n 32 h (omega arith)) at e in
    let m : x < 1 * 2 ^ (2 ^ n) = (div-lt_iff_lt-mul (pow_pos (2 ^ n))).0 (let d : x / 2 ^ (2 ^ n) < 1 = omega arith in d) in
    subst (λ (y : ℕ). x < y) (one-mul (2 ^ (2 ^ n))) m

-- one of two numbers, neither above m
pub within : (t : Bool) (x y m : ℕ) → x ≤ m → y ≤ m → cond t x y ≤ m
within true x y m h k = h
within false x y m h k = k

-- a request is refused with the number of a refusal
pub refusal_most : (q : Request) → refusal_of q ≤ 24
unfolding refusal_of
refusal_most q =
    within _ 2 _ 24 (omega arith)
    (within _ 3 _ 24 (omega arith)
    (within _ 24 _ 24 (omega arith) (within _ 4 _ 24 (omega arith) (within _ 5 0 24 (omega arith) (omega arith)))))
