-- A request as a line of text: "n, the table, r, M, single spaces between, newline (byte 10) last". Assumes nothing.
use Rattle.std.specs.Prelude.{Bool, true, false, not, ◌&&◌, ◌||◌, cond, List, [], ◌∷◌, Result, Ok, Err, ◌≡◌, ℕ, zero, suc, ◌+◌, ◌-◌, ◌*◌, ◌^◌, ◌≤◌, ◌<◌, T, eqb, leb, ltb, length, get_or, drop}
use Rattle.prelude.specs.Lists.{all_from}
use Rattle.request.specs.declared.Request.{Request}
use Rattle.refusal.specs.declared.Refusal.{Refusal}
use Rattle.refusal.specs.Refusal.{unless}
use Rattle.refusal.specs.Refusal as R
use Rattle.request.specs.Numbers.{inputs_most, switches_most, series_most}

-- what reading a request answers: the request or the refusal
abbrev pub Reading : Type 0
Reading = Result Request Refusal

-- document 01's number of an answer, 0 for a request that is taken
abbrev pub number_of : Reading → ℕ
number_of (Ok q) = 0
number_of (Err e) = R.number e

-- and its values, "n, the table, r, M" of a request that is taken, the table as its two numbers: the rows that are on, then the free rows
abbrev pub values_of : Reading → List ℕ
values_of (Ok q) = q.n ∷ q.table ∷ q.free ∷ q.r ∷ q.m ∷ []
values_of (Err e) = []

-- a byte that is a digit, 0 to 9
abbrev pub digit : ℕ → Bool
digit b = leb 48 b && leb b 57

-- a byte that may stand in the table's field: a digit, and by document 02, U1, "Refusal 1 lets "-" stand in the table"
abbrev pub table_character : ℕ → Bool
table_character b = digit b || eqb b 45

-- a byte that may stand in a field, the table's or another
abbrev pub field_character : Bool → ℕ → Bool
field_character true = table_character
field_character false = digit

-- how many bytes that satisfy p a text starts with
unfoldable pub leading : (ℕ → Bool) → List ℕ → ℕ
leading p [] = 0
leading p (b ∷ s) = cond (p b) (suc (leading p s)) 0

-- the end of the run of such bytes that starts at a place
unfoldable pub run_end : (ℕ → Bool) → List ℕ → ℕ → ℕ
run_end p s from = from + leading p (drop from s)

-- the run is not empty, and the byte b stands after it
unfoldable pub ended_by : List ℕ → ℕ → ℕ → ℕ → Bool
ended_by s from end b = ltb from end && (ltb end (length s) && eqb (get_or s end 0) b)

-- the digit that a run of one character is, and 10, which is no digit, for a longer run: "each one character"
unfoldable pub single : List ℕ → ℕ → ℕ → ℕ
single s from end = cond (eqb (end - from) 1) (get_or s from 0 - 48) 10

-- a character of a row: 0 or 1, and by document 02, U1, "The table takes "-" for a free row"
abbrev pub row_character : ℕ → Bool
row_character b = eqb b 48 || (eqb b 49 || eqb b 45)

-- "The table has 2^n characters", each of them the character of a row
unfoldable pub is_table : List ℕ → ℕ → ℕ → ℕ → Bool
is_table s from end n = eqb (end - from) (2 ^ n) && all_from from (end - from) (λ i. row_character (get_or s i 0))

-- "row 0 first. Inside, it is a 16-bit number whose bit k is row k": of k characters, the rows whose character is b, as a number. The
-- table is the rows of "1", and the free rows are those of "-"
unfoldable pub marked : ℕ → List ℕ → ℕ → ℕ → ℕ
marked b s from zero = 0
marked b s from (suc k) = cond (eqb (get_or s from 0) b) 1 0 + 2 * marked b s (suc from) k

-- "2 bad n; 3 bad table; 4 bad r; 5 bad M", for runs that end at a, b, c and d: the first that applies, or 0
unfoldable pub numbers_refusal : List ℕ → ℕ → ℕ → ℕ → ℕ → ℕ
numbers_refusal s a b c d =
    cond (not (leb 1 (single s 0 a) && leb (single s 0 a) inputs_most)) 2
    (cond (not (is_table s (a + 1) b (single s 0 a))) 3
    (cond (ltb switches_most (single s (b + 1) c)) 4
    (cond (ltb series_most (single s (c + 1) d)) 5 0)))

-- "A request is one line: n, the table, r, M": the request of these runs
abbrev pub request_at : List ℕ → ℕ → ℕ → ℕ → ℕ → Request
request_at s a b c d =
    record {
      n = single s 0 a;
      table = marked 49 s (a + 1) (b - (a + 1));
      free = marked 45 s (a + 1) (b - (a + 1));
      r = single s (b + 1) c;
      m = single s (c + 1) d;
    }

-- the ends of the four runs: the second is the table's, the others are of digits
abbrev pub end1 : List ℕ → ℕ
end1 s = run_end digit s 0

abbrev pub end2 : List ℕ → ℕ
end2 s = run_end table_character s (end1 s + 1)

abbrev pub end3 : List ℕ → ℕ
end3 s = run_end digit s (end2 s + 1)

abbrev pub end4 : List ℕ → ℕ
end4 s = run_end digit s (end3 s + 1)

-- "four non-empty runs of digits in the line form", the second of the table's characters: a space after the first three, a newline after
-- the fourth, then nothing
unfoldable pub line_form : List ℕ → Bool
line_form s =
    ended_by s 0 (end1 s) 32 && (ended_by s (end1 s + 1) (end2 s) 32 && (ended_by s (end2 s + 1) (end3 s) 32
    && (ended_by s (end3 s + 1) (end4 s) 10 && eqb (end4 s + 1) (length s))))

-- "Reading a request: 1 if not four non-empty runs of digits in the line form", else by its numbers; 0 where it is taken
unfoldable pub request_number : List ℕ → ℕ
request_number s = cond (line_form s) (numbers_refusal s (end1 s) (end2 s) (end3 s) (end4 s)) 1

-- the request of the line's own runs
abbrev pub request_in : List ℕ → Request
request_in s = request_at s (end1 s) (end2 s) (end3 s) (end4 s)

-- "n, the table, r, M", in this order, of a line that is taken, with the free rows after the table
unfoldable pub request_values : List ℕ → List ℕ
request_values s =
    cond (eqb (request_number s) 0)
    ((request_in s).n ∷ (request_in s).table ∷ (request_in s).free ∷ (request_in s).r ∷ (request_in s).m ∷ []) []

-- an answer by its number
abbrev pub reading_by : ℕ → Request → Reading
reading_by = unless

-- the answer of reading a request
unfoldable pub request_of : List ℕ → Reading
request_of s = reading_by (request_number s) (request_in s)

-- the answer of a line that has the form, for runs that end at a, b, c and d
unfoldable pub numbers_of : List ℕ → ℕ → ℕ → ℕ → ℕ → Reading
numbers_of s a b c d = reading_by (numbers_refusal s a b c d) (request_at s a b c d)

-- the run of bytes that satisfy p from one place to another, not empty, with the byte b after it
pub record Run (p : ℕ → Bool) (s : List ℕ) (from end b : ℕ) : Type 0 where
  pub is_end : end ≡ run_end p s from
  pub ended : ended_by s from end b ≡ true

-- every byte from a place to another satisfies p
pub record Bytes (p : ℕ → Bool) (s : List ℕ) (from end : ℕ) : Type 0 where
  pub each : (i : ℕ) → from ≤ i → i < end → T (p (get_or s i 0))

-- the four runs of a line that has the form
pub record Ends (s : List ℕ) (a b c d : ℕ) : Type 0 where
  pub first : Bytes digit s 0 a
  pub second : Bytes table_character s (a + 1) b
  pub third : Bytes digit s (b + 1) c
  pub fourth : Bytes digit s (c + 1) d
  pub a_up : 0 < a
  pub b_up : a + 1 < b
  pub c_up : b + 1 < c
  pub d_up : c + 1 < d
  pub d_low : d < length s
