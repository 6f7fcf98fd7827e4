-- A request as numbers. Assumes nothing.
use Rattle.std.specs.Prelude.{◌≡◌, Bool, true, false, not, ◌&&◌, cond, ℕ, ◌/◌, ◌%◌, ◌^◌, ◌≤◌, ◌<◌, eqb, leb, ltb}
use Rattle.prelude.specs.Lists.{any_from}
use Rattle.request.specs.declared.Request.{Request}

-- the request that a caller asks who hands it over as numbers: n, the table, the free rows, r and M, in this order
abbrev pub asked : ℕ → ℕ → ℕ → ℕ → ℕ → Request
asked n table free r m = record { n = n; table = table; free = free; r = r; m = m }

-- the request for another number of switches: "the request's n, table and M stay", and its free rows
abbrev pub with_switches : Request → ℕ → Request
with_switches q r = record { n = q.n; table = q.table; free = q.free; r = r; m = q.m }

-- "n is 1 to 4 inputs, r is 0 to 7 switches, M is 0 to 7": the most of each
abbrev pub inputs_most : ℕ
inputs_most = 4

abbrev pub switches_most : ℕ
switches_most = 7

abbrev pub series_most : ℕ
series_most = 7

-- the most rows
abbrev pub rows_most : ℕ
rows_most = 2 ^ inputs_most

-- bit k of a number, as a test
abbrev pub bit : ℕ → ℕ → Bool
bit x k = eqb (x / 2 ^ k % 2) 1

-- document 02, U1: "both bits of a row are set", for one of so many rows
unfoldable pub overlapping : ℕ → ℕ → ℕ → Bool
overlapping rows x y = any_from 0 rows (λ k. bit x k && bit y k)

-- a request's numbers are within these, neither of its row numbers has a bit at or above 2^n, and no row has both bits
pub record Good (q : Request) : Type 0 where
  pub n_low : 1 ≤ q.n
  pub n_high : q.n ≤ inputs_most
  pub table_low : q.table < 2 ^ (2 ^ q.n)
  pub free_low : q.free < 2 ^ (2 ^ q.n)
  pub one_kind : (k : ℕ) → k < 2 ^ q.n → bit q.table k ≡ true → bit q.free k ≡ false
  pub r_high : q.r ≤ switches_most
  pub m_high : q.m ≤ series_most

-- "Each later operation tests its request again as numbers, 2 to 5 in order", where "3 covers both numbers" and 24 comes "after 3": the
-- first that applies, or 0
unfoldable pub refusal_of : Request → ℕ
refusal_of q =
    cond (not (leb 1 q.n && leb q.n inputs_most)) 2
    (cond (not (ltb q.table (2 ^ (2 ^ q.n)) && ltb q.free (2 ^ (2 ^ q.n)))) 3
    (cond (overlapping (2 ^ q.n) q.table q.free) 24
    (cond (ltb switches_most q.r) 4
    (cond (ltb series_most q.m) 5 0))))
