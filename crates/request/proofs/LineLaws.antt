-- Laws of a request as a line: its runs, its rows, and what each branch of the reading answers. Assumes nothing.
use Rattle.std.specs.Prelude.{◌≡◌, refl, Bool, true, false, not, ◌&&◌, ◌||◌, cond, List, [], ◌∷◌, Ok, Err, leb, ltb, length, get_or, drop}
use Rattle.std.proofs.Common.{sym, ap, ◌∙◌, add-one, leb→le, nltb→le, drop_of_length-le, pow_mono, drop-cons, get_or-drop}
use Rattle.std.proofs.Math.Path.{subst}
use Rattle.std.proofs.Math.Logic.{⊎_elim}
use Prim.Native.Nat.{ℕ, zero, suc, ◌+◌, ◌-◌, ◌*◌, ◌/◌, ◌%◌, ◌^◌, ◌≤◌, ◌<◌}
use Rattle.std.proofs.Math.Nat.{two-pow-succ}
use native.Mathlib.Omega.{arith}
use Rattle.std.proofs.Math.Dec.{T, eqb, ltb→lt, eqb→eq}
use borrow.Author.Tests.{lt-ltb, le-ltb, le-leb, lt-leb, eq-eqb, ne_eqb, not-true, not-false}
use Rattle.prelude.specs.Tests.{T-eq, T_of, not_true_false, and_in, and_l, and_r, eq→eqb, le?}
use Rattle.prelude.specs.Lists.{all_from}
use Rattle.prelude.specs.Lists.Laws.{all_in, all_out}
use Rattle.request.specs.declared.Request.{Request}
use Rattle.refusal.specs.declared.Refusal.TheVariants.{RequestLine, Inputs, Table, Switches, SeriesBound}
use Rattle.refusal.specs.Refusal.{numbered}
use Rattle.refusal.specs.Refusal.Laws.{numbered_number, unless-number_of}
use Rattle.request.specs.Line.{Reading, number_of, values_of, digit, table_character, field_character, leading, run_end, ended_by, single, row_character, is_table, marked, numbers_refusal, request_at, end1, end2, end3, end4, line_form, request_number, request_in, request_values, reading_by, request_of, numbers_of, Run, Bytes, Ends}
use Rattle.request.specs.Numbers.{inputs_most, switches_most, series_most, rows_most, bit, asked, Good}
use Rattle.request.proofs.NumbersLaws.{bit_half, bit_low, within}

-- a digit's byte is at least 48
pub digit_least : (b : ℕ) → T (digit b) → 48 ≤ b
digit_least b t = leb→le 48 b (and_l (leb 48 b) (leb b 57) t)

-- "-" may stand in the table, and in no other field
pub field_minus : (table : Bool) (b : ℕ) → b ≡ 45 → table ≡ field_character table b
field_minus true b e = rw e
field_minus false b e = rw e

-- of the other bytes a digit may stand in each field
pub field_other : (table : Bool) (b : ℕ) → (b ≡ 45 → ⊥) → digit b ≡ field_character table b
field_other true b d = rw (ne_eqb b 45 d) (or_none (digit b))
  where
    or_none : (t : Bool) → t ≡ (t || false)
    or_none true = refl
    or_none false = refl
field_other false b d = refl

-- what is below one more than x or 0 by a test: the test holds
count_out : (t : Bool) (x j : ℕ) → j < cond t (suc x) 0 → T t × (j ≤ x)
count_out true x j h = (tt, omega arith)
count_out false x j h = absurd (omega arith)

-- each byte that is counted in front satisfies p
leading_each : (p : ℕ → Bool) (s : List ℕ) (j : ℕ) → j < leading p s → T (p (get_or s j 0))
unfolding leading
leading_each p [] j h = absurd (omega arith)
leading_each p (b ∷ s) zero h = (count_out (p b) (leading p s) 0 h).0
leading_each p (b ∷ s) (suc j) h = leading_each p s j (omega (arith, (count_out (p b) (leading p s) (suc j) h).1))

module _ (p : ℕ → Bool) (s : List ℕ) (i : ℕ) where
  -- a run ends at a byte that does not satisfy p,
  pub run_stop : i < length s → p (get_or s i 0) ≡ false → run_end p s i ≡ i
  unfolding run_end leading
  run_stop h e = rw (drop-cons s i 0, e) (omega arith)

  -- and where the text ends
  pub run_past : length s ≤ i → run_end p s i ≡ i
  unfolding run_end leading
  run_past h = rw (drop_of_length-le s h) (omega arith)

  -- past any other byte it goes on
  pub run_next : i < length s → p (get_or s i 0) ≡ true → run_end p s i ≡ run_end p s (i + 1)
  unfolding run_end leading
  run_next h e = rw (drop-cons s i 0, e, add-one) (omega arith)

module _ (s : List ℕ) (from end b : ℕ) where
  -- an empty run is not ended by b,
  pub ended_empty : end ≤ from → ended_by s from end b ≡ false
  unfolding ended_by
  ended_empty h = rw (le-ltb from end h)

  -- nor one that ends with the text
  pub ended_past : length s ≤ end → ended_by s from end b ≡ false
  unfolding ended_by
  ended_past h =
      ⊎_elim (λ (l : end ≤ from). rw (le-ltb from end l))
      (λ (l : from < end). rw (lt-ltb from end l, le-ltb end (length s) h)) (le? end from)

  -- any other is by the byte after it
  pub ended_byte : from < end → end < length s → ended_by s from end b ≡ eqb (get_or s end 0) b
  unfolding ended_by
  ended_byte l h = rw (lt-ltb from end l, lt-ltb end (length s) h)

module _ {p : ℕ → Bool} {s : List ℕ} {from end b : ℕ} (r : Run p s from end b) where
  -- a run with its end is not empty, and inside the text
  pub run_inside : (from < end) × (end < length s)
  unfolding ended_by
  run_inside =
      let t = T_of (ended_by s from end b) r.ended in
      let u = and_r (ltb from end) (ltb end (length s) && eqb (get_or s end 0) b) t in (
        ltb→lt from end (and_l (ltb from end) (ltb end (length s) && eqb (get_or s end 0) b) t),
        ltb→lt end (length s) (and_l (ltb end (length s)) (eqb (get_or s end 0) b) u),
      )

  -- every byte of a run satisfies p
  pub run_all : Bytes p s from end
  unfolding run_end
  run_all =
      record {
        each = λ i l u.
            let z : from + (i - from) ≡ i = omega arith in
            subst (λ (k : ℕ). T (p (get_or s k 0))) z
            (subst (λ (x : ℕ). T (p x)) (get_or-drop from s (i - from) 0)
            (leading_each p (drop from s) (i - from) (omega (arith, r.is_end))));
      }

module _ (s : List ℕ) (from end : ℕ) where
  -- the digit of a run of one character
  pub single_one : end - from ≡ 1 → single s from end ≡ get_or s from 0 - 48
  unfolding single
  single_one e = rw (eq-eqb (end - from) 1 e)

  -- a longer run
  pub single_long : (end - from ≡ 1 → ⊥) → single s from end ≡ 10
  unfolding single
  single_long h = rw (ne_eqb (end - from) 1 h)

-- the character of a row
abbrev is_row : List ℕ → ℕ → Bool
is_row s i = row_character (get_or s i 0)

module _ (s : List ℕ) (from end n : ℕ) where
  -- a run of another length than 2^n is no table
  pub table_size : (end - from ≡ 2 ^ n → ⊥) → is_table s from end n ≡ false
  unfolding is_table
  table_size h = rw (ne_eqb (end - from) (2 ^ n) h)

  -- one of 2^n characters of rows is one
  pub table_yes : end - from ≡ 2 ^ n → Bytes row_character s from end → is_table s from end n ≡ true
  unfolding is_table
  table_yes e b =
      T-eq (is_table s from end n)
      (and_in (eqb (end - from) (2 ^ n)) (all_from from (end - from) (is_row s)) (eq→eqb (end - from) (2 ^ n) e)
      (all_in from (end - from) (is_row s) (λ i l u. b.each i l (omega arith))))

  -- a table has 2^n characters
  pub table_length : is_table s from end n ≡ true → end - from ≡ 2 ^ n
  unfolding is_table
  table_length e =
      eqb→eq (end - from) (2 ^ n)
      (and_l (eqb (end - from) (2 ^ n)) (all_from from (end - from) (is_row s)) (T_of (is_table s from end n) e))

  -- each of them 0, 1 or "-"
  pub table_rows : is_table s from end n ≡ true → Bytes row_character s from end
  unfolding is_table
  table_rows e =
      record {
        each = λ i l u.
            all_out from (end - from) (is_row s)
            (and_r (eqb (end - from) (2 ^ n)) (all_from from (end - from) (is_row s)) (T_of (is_table s from end n) e))
            i l (omega arith);
      }

  -- a run with another character is no table
  pub table_other : (i : ℕ) → from ≤ i → i < end → row_character (get_or s i 0) ≡ false → is_table s from end n ≡ false
  table_other i l u x =
      not_true_false (is_table s from end n)
      (λ (e : is_table s from end n ≡ true). subst T x ((table_rows e).each i l u))

module _ (p : ℕ → Bool) (s : List ℕ) (from : ℕ) where
  -- no bytes yet
  pub bytes_none : Bytes p s from from
  bytes_none = record { each = λ i l u. absurd (omega arith) }

  -- one byte more that satisfies p
  pub bytes_more : (i : ℕ) → Bytes p s from i → p (get_or s i 0) ≡ true → Bytes p s from (i + 1)
  bytes_more i b e =
      record {
        each = λ j l u.
            ⊎_elim (λ (h : i ≤ j). subst (λ (k : ℕ). T (p (get_or s k 0))) (let z : i ≡ j = omega arith in z) (T_of (p (get_or s i 0)) e))
            (λ (h : j < i). b.each j l h) (le? i j);
      }

-- a test's number is 1 or 0
mark_low : (t : Bool) → cond t 1 0 < 2
mark_low true = omega arith
mark_low false = omega arith

-- as the lowest bit of a number it is the test
mark_bit : (t : Bool) (x : ℕ) → bit (cond t 1 0 + 2 * x) 0 ≡ t
mark_bit true x = bit_low (1 + 2 * x) ∙ eq-eqb ((1 + 2 * x) % 2) 1 (omega arith)
mark_bit false x = bit_low (0 + 2 * x) ∙ ne_eqb ((0 + 2 * x) % 2) 1 (λ e. omega arith)

-- and half the number is what stands above it
mark_half : (t : Bool) (x : ℕ) → (cond t 1 0 + 2 * x) / 2 ≡ x
mark_half t x = omega (arith, mark_low t)

-- the rows of k characters are a number below 2^k
pub marked_below : (b : ℕ) (s : List ℕ) (from k : ℕ) → marked b s from k < 2 ^ k
unfolding marked
marked_below b s from zero = omega arith
marked_below b s from (suc k) =
    omega (arith, marked_below b s (suc from) k, mark_low (eqb (get_or s from 0) b), two-pow-succ k)

-- bit j of it is whether row j has the character b
pub marked_bit : (b : ℕ) (s : List ℕ) (from k j : ℕ) → j < k → bit (marked b s from k) j ≡ eqb (get_or s (from + j) 0) b
unfolding marked
marked_bit b s from zero j h = absurd (omega arith)
marked_bit b s from (suc k) zero h =
    rw (let z : from + 0 ≡ from = omega arith in z) (mark_bit (eqb (get_or s from 0) b) (marked b s (suc from) k))
marked_bit b s from (suc k) (suc j) h =
    bit_half (marked b s from (suc k)) j
    ∙ rw (mark_half (eqb (get_or s from 0) b) (marked b s (suc from) k), let z : from + suc j ≡ suc from + j = omega arith in z)
    (marked_bit b s (suc from) k j (omega arith))

-- where no character is b, no row is marked
pub marked_absent : (b : ℕ) (s : List ℕ) (from k : ℕ) → ((i : ℕ) → from ≤ i → i < from + k → get_or s i 0 ≡ b → ⊥) → marked b s from k ≡ 0
unfolding marked
marked_absent b s from zero h = refl
marked_absent b s from (suc k) h =
    rw (ne_eqb (get_or s from 0) b (h from (omega arith) (omega arith)))
    (rw (marked_absent b s (suc from) k (λ i l u. h i (omega arith) (omega arith))))

module _ (b : ℕ) (s : List ℕ) (end i : ℕ) where
  -- the rows of no characters
  pub marked_none : end ≤ i → marked b s i (end - i) ≡ 0
  unfolding marked
  marked_none h = rw (let z : end - i ≡ 0 = omega arith in z)

  module _ (rows : ℕ) (e : rows ≡ marked b s i (end - i)) (l : 0 < i) (h : i ≤ end) where
    -- one character more in front
    marked_front : cond (eqb (get_or s (i - 1) 0) b) 1 0 + 2 * rows ≡ marked b s (i - 1) (end - (i - 1))
    unfolding marked
    marked_front =
        let z : end - (i - 1) ≡ suc (end - i) = omega arith in
        let y : suc (i - 1) ≡ i = omega arith in
        rw (z, y, ← e)

    -- which is b,
    pub marked_yes : get_or s (i - 1) 0 ≡ b → 2 * rows + 1 ≡ marked b s (i - 1) (end - (i - 1))
    marked_yes x = omega (arith, rw (eq-eqb (get_or s (i - 1) 0) b x) at marked_front)

    -- and which is not
    pub marked_no : (get_or s (i - 1) 0 ≡ b → ⊥) → 2 * rows ≡ marked b s (i - 1) (end - (i - 1))
    marked_no x = omega (arith, rw (ne_eqb (get_or s (i - 1) 0) b x) at marked_front)

  -- the last of at most as many characters as rows give a number of as many bits
  pub marked_word : (from : ℕ) → from ≤ i → i ≤ end → end - from ≤ rows_most → marked b s i (end - i) < 2 ^ rows_most
  marked_word from l h w =
      let p : 2 ^ (end - i) ≤ 2 ^ rows_most = pow_mono {i = end - i} {j = rows_most} (omega arith) in
      omega (arith, marked_below b s i (end - i))

module _ (s : List ℕ) (a b c d n : ℕ) (is_n : n ≡ single s 0 a) where
  -- n below 1
  pub numbers_low : n < 1 → numbers_of s a b c d ≡ Err Inputs
  unfolding numbers_of numbers_refusal
  numbers_low h = rw (← is_n, lt-leb 1 n h)

  -- n above 4
  pub numbers_high : inputs_most < n → numbers_of s a b c d ≡ Err Inputs
  unfolding numbers_of numbers_refusal
  numbers_high h = let l : 1 ≤ n = omega arith in rw (← is_n, le-leb 1 n l, lt-leb n inputs_most h)

  -- no table of 2^n characters
  pub numbers_table : 1 ≤ n → n ≤ inputs_most → is_table s (a + 1) b n ≡ false → numbers_of s a b c d ≡ Err Table
  unfolding numbers_of numbers_refusal
  numbers_table l h t = rw (← is_n, le-leb 1 n l, le-leb n inputs_most h, t)

  -- r above 7
  pub numbers_r : 1 ≤ n → n ≤ inputs_most → is_table s (a + 1) b n ≡ true → (r : ℕ) → r ≡ single s (b + 1) c → switches_most < r
      → numbers_of s a b c d ≡ Err Switches
  unfolding numbers_of numbers_refusal
  numbers_r l h t r is-r x = rw (← is_n, le-leb 1 n l, le-leb n inputs_most h, t, ← is-r, lt-ltb switches_most r x)

  -- M above 7
  pub numbers_m : 1 ≤ n → n ≤ inputs_most → is_table s (a + 1) b n ≡ true → (r : ℕ) → r ≡ single s (b + 1) c → r ≤ switches_most
      → (m : ℕ) → m ≡ single s (c + 1) d → series_most < m → numbers_of s a b c d ≡ Err SeriesBound
  unfolding numbers_of numbers_refusal
  numbers_m l h t r is-r x m is_m y =
      rw (← is_n, le-leb 1 n l, le-leb n inputs_most h, t, ← is-r, le-ltb switches_most r x, ← is_m, lt-ltb series_most m y)

  -- good numbers
  pub numbers_good : 1 ≤ n → n ≤ inputs_most → is_table s (a + 1) b n ≡ true → (r : ℕ) → r ≡ single s (b + 1) c → r ≤ switches_most
      → (m : ℕ) → m ≡ single s (c + 1) d → m ≤ series_most → (table : ℕ) → table ≡ marked 49 s (a + 1) (b - (a + 1))
      → (free : ℕ) → free ≡ marked 45 s (a + 1) (b - (a + 1))
      → numbers_of s a b c d ≡ Ok (record { n = n; table = table; free = free; r = r; m = m })
  unfolding numbers_of numbers_refusal
  numbers_good l h t r is-r x m is_m y table is_table_lem free is_free =
      rw (← is_n, le-leb 1 n l, le-leb n inputs_most h, t, ← is-r, le-ltb switches_most r x)
      (rw (← is_m, le-ltb series_most m y, ← is_table_lem, ← is_free))

module _ (p : ℕ → Bool) (s : List ℕ) (from end b : ℕ) (x : Bool) (is_end : end ≡ run_end p s from) (is_x : x ≡ ended_by s from end b) where
  -- a run that passes the test of its end
  pub run_yes : not x ≡ false → Run p s from end b
  run_yes e = record { is_end = is_end; ended = sym is_x ∙ not-false x e }

  -- and one that fails it
  pub run_no : not x ≡ true → ended_by s from (run_end p s from) b ≡ false
  run_no e = rw (← is_end, ← is_x) (not-true x e)

-- no first run
pub form_first : (s : List ℕ) → ended_by s 0 (run_end digit s 0) 32 ≡ false → request_of s ≡ Err RequestLine
unfolding request_of request_number line_form
form_first s e = rw e

module _ {s : List ℕ} {a : ℕ} (first : Run digit s 0 a 32) where
  -- no second
  pub form_second : ended_by s (a + 1) (run_end table_character s (a + 1)) 32 ≡ false → request_of s ≡ Err RequestLine
  unfolding request_of request_number line_form
  form_second e = rw (← first.is_end, first.ended, e)

  module _ {b : ℕ} (second : Run table_character s (a + 1) b 32) where
    -- no third
    pub form_third : ended_by s (b + 1) (run_end digit s (b + 1)) 32 ≡ false → request_of s ≡ Err RequestLine
    unfolding request_of request_number line_form
    form_third e = rw (← first.is_end, first.ended, ← second.is_end, second.ended, e)

    module _ {c : ℕ} (third : Run digit s (b + 1) c 32) where
      -- no fourth
      pub form_fourth : ended_by s (c + 1) (run_end digit s (c + 1)) 10 ≡ false → request_of s ≡ Err RequestLine
      unfolding request_of request_number line_form
      form_fourth e =
          rw (← first.is_end, first.ended, ← second.is_end, second.ended, ← third.is_end, third.ended, e)

      module _ {d : ℕ} (fourth : Run digit s (c + 1) d 10) where
        -- what follows the newline, and the numbers
        form_read : request_of s ≡ reading_by (cond (eqb (d + 1) (length s)) (numbers_refusal s a b c d) 1) (request_at s a b c d)
        unfolding request_of request_number line_form
        form_read =
            rw (← first.is_end, first.ended, ← second.is_end, second.ended, ← third.is_end, third.ended, ← fourth.is_end, fourth.ended)

        -- bytes after the newline
        pub form_longer : (d + 1 ≡ length s → ⊥) → request_of s ≡ Err RequestLine
        form_longer h = form_read ∙ rw (ne_eqb (d + 1) (length s) h)

        -- the line's form: what its numbers give
        pub form_line : d + 1 ≡ length s → (x : Reading) → x ≡ numbers_of s a b c d → request_of s ≡ x
        unfolding numbers_of
        form_line h x e = form_read ∙ rw (e, eq-eqb (d + 1) (length s) h)

        -- where the four runs are
        pub form_ends : Ends s a b c d
        form_ends =
            record {
              first = run_all first;
              second = run_all second;
              third = run_all third;
              fourth = run_all fourth;
              a_up = (run_inside first).0;
              b_up = (run_inside second).0;
              c_up = (run_inside third).0;
              d_up = (run_inside fourth).0;
              d_low = (run_inside fourth).1;
            }

-- the rows of a table of 2^n characters are a number below 2^2^n
pub marked_fits : (b : ℕ) (s : List ℕ) (from end n : ℕ) → is_table s from end n ≡ true → marked b s from (end - from) < 2 ^ (2 ^ n)
marked_fits b s from end n e =
    subst (λ (k : ℕ). marked b s from (end - from) < 2 ^ k) (table_length s from end n e) (marked_below b s from (end - from))

-- no row has two characters
pub marked_once : (a b : ℕ) → (a ≡ b → ⊥) → (s : List ℕ) (from k j : ℕ) → j < k
    → bit (marked a s from k) j ≡ true → bit (marked b s from k) j ≡ false
marked_once a b d s from k j h e =
    let f : get_or s (from + j) 0 ≡ a = eqb→eq (get_or s (from + j) 0) a (T_of _ (sym (marked_bit a s from k j h) ∙ e)) in
    marked_bit b s from k j h ∙ ne_eqb (get_or s (from + j) 0) b (λ g. d (sym f ∙ g))

-- a number of a request's refusals is one of the documents'

numbers_low_24 : (s : List ℕ) (a b c d : ℕ) → numbers_refusal s a b c d ≤ 24
unfolding numbers_refusal
numbers_low_24 s a b c d =
    within _ 2 _ 24 (omega arith)
    (within _ 3 _ 24 (omega arith) (within _ 4 _ 24 (omega arith) (within _ 5 0 24 (omega arith) (omega arith))))

request_low : (s : List ℕ) → request_number s ≤ 24
unfolding request_number
request_low s = within (line_form s) _ 1 24 (numbers_low_24 s _ _ _ _) (omega arith)

-- the number of a reading is the rule's
pub number_is : (s : List ℕ) → number_of (request_of s) ≡ request_number s
unfolding request_of
number_is s = number_unless (request_number s) (request_low s)
  where
    number_unless : (k : ℕ) → k ≤ 24 → number_of (reading_by k (request_in s)) ≡ k
    number_unless zero h = refl
    number_unless (suc k) h = unless-number_of {A = Request} (suc k) (request_in s) h

-- so are its values
pub values_is : (s : List ℕ) → values_of (request_of s) ≡ request_values s
unfolding request_of request_values
values_is s = values_unless (request_number s)
  where
    values_unless : (k : ℕ) → values_of (reading_by k (request_in s)) ≡ cond (eqb k 0) (values_of (Ok (request_in s))) []
    values_unless zero = refl
    values_unless (suc k) = rw (ne_eqb (suc k) 0 (λ e. omega arith))

-- no two answers have the same number and values
pub readings_differ : (x y : Reading) → number_of x ≡ number_of y → values_of x ≡ values_of y → x ≡ y
readings_differ (Ok p) (Ok q) e f =
    let z : ◌≡◌ {A = Request} (asked p.n p.table p.free p.r p.m) (asked q.n q.table q.free q.r q.m) = cc in
    ap Ok z
readings_differ (Ok p) (Err k) e f = absurd (let z : ◌≡◌ {A = ℕ} 0 1 = cc in omega arith)
readings_differ (Err k) (Ok q) e f = absurd (let z : ◌≡◌ {A = ℕ} 0 1 = cc in omega arith)
readings_differ (Err j) (Err k) e f = ap Err (sym (numbered_number j) ∙ ap numbered e ∙ numbered_number k)

-- a number that is 0 past a refusal: its test failed
past_refusal : (t : Bool) (k x : ℕ) → cond t (suc k) x ≡ 0 → T (not t) × (x ≡ 0)
past_refusal true k x e = absurd (omega arith)
past_refusal false k x e = (tt, e)

-- or before one
before_refusal : (t : Bool) (k x : ℕ) → cond t x (suc k) ≡ 0 → x ≡ 0
before_refusal true k x e = e
before_refusal false k x e = absurd (omega arith)

-- numbers that are not refused are good
numbers_taken : (s : List ℕ) (a b c d : ℕ) → numbers_refusal s a b c d ≡ 0 → Good (request_at s a b c d)
unfolding numbers_refusal
numbers_taken s a b c d e =
    let n = single s 0 a in
    let r = single s (b + 1) c in
    let m = single s (c + 1) d in
    let e1 = past_refusal (not (leb 1 n && leb n inputs_most)) 1 _ e in
    let e2 = past_refusal (not (is_table s (a + 1) b n)) 2 _ e1.1 in
    let e3 = past_refusal (ltb switches_most r) 3 _ e2.1 in
    let e4 = past_refusal (ltb series_most m) 4 _ e3.1 in
    let is_table_lem = T-eq (is_table s (a + 1) b n) (twice (is_table s (a + 1) b n) e2.0) in
    let nn : T (leb 1 n && leb n inputs_most) = twice (leb 1 n && leb n inputs_most) e1.0 in
    record {
      n_low = leb→le 1 n (and_l (leb 1 n) (leb n inputs_most) nn);
      n_high = leb→le n inputs_most (and_r (leb 1 n) (leb n inputs_most) nn);
      table_low = marked_fits 49 s (a + 1) b n is_table_lem;
      free_low = marked_fits 45 s (a + 1) b n is_table_lem;
      one_kind = λ k l. marked_once 49 45 (λ z. omega arith) s (a + 1) (b - (a + 1)) k (omega (arith, table_length s (a + 1) b n is_table_lem));
      r_high = nltb→le switches_most r e3.0;
      m_high = nltb→le series_most m e4.0;
    }
  where
    twice : (t : Bool) → T (not (not t)) → T t
    twice true h = tt
    twice false h = h

-- a request that was read passes the test of numbers
pub request_good : (s : List ℕ) (q : Request) → request_of s ≡ Ok q → Good q
unfolding request_of request_number
request_good s q e =
    let z : request_number s ≡ 0 = sym (number_is s) ∙ ap number_of e in
    let t : Ok (request_in s) ≡ Ok q = rw z at e in
    let is_q : request_in s ≡ q = cc in
    subst Good is_q (numbers_taken s (end1 s) (end2 s) (end3 s) (end4 s) (before_refusal (line_form s) 0 _ z))

-- where no byte of the table's run is "-", no row is free
pub free_none : (s : List ℕ) → ((i : ℕ) → end1 s + 1 ≤ i → i < end2 s → get_or s i 0 ≡ 45 → ⊥) → (request_in s).free ≡ 0
free_none s h = marked_absent 45 s (end1 s + 1) (end2 s - (end1 s + 1)) (λ i l u. h i l (omega arith))

-- the values of a request that was read, handed over in their order, make that request
pub asked_read : (q : Request) (a b c d e : ℕ)
    → asked
    (get_or (values_of (Ok q)) 0 a)
    (get_or (values_of (Ok q)) 1 b)
    (get_or (values_of (Ok q)) 2 c)
    (get_or (values_of (Ok q)) 3 d)
    (get_or (values_of (Ok q)) 4 e)
    ≡ q
asked_read q a b c d e = refl
