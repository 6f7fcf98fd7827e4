-- Rows: bit k of the table and of the free rows is row k; the value of each literal on a row. Assumes nothing.
use Rattle.std.specs.Prelude.{Bool, not, ◌&&◌, cond, List, [], ◌∷◌, ℕ, zero, suc, ◌+◌, ◌-◌, ◌*◌, ◌/◌, ◌%◌, ◌^◌, leb, ltb, get_or}
use Rattle.prelude.specs.Lists.{tab}
use Rattle.request.specs.Numbers.{inputs_most}
use Rattle.request.specs.declared.Request.{Request}
use Rattle.rows.specs.declared.Kind.{Kind}
use Rattle.rows.specs.declared.Kind.TheVariants.{On, Off, Free}
-- bit k of a number, passed on
pub use Rattle.request.specs.Numbers.{bit}

-- the number of rows below row k whose bit is set
unfoldable pub set_below : ℕ → ℕ → ℕ
set_below rows zero = 0
set_below rows (suc k) = set_below rows k + rows / 2 ^ k % 2

-- what row k of a request is: on by the table, free by "a second 16-bit number, for free rows" (document 02, U1), else off
unfoldable pub kind_of : Request → ℕ → Kind
kind_of q k = cond (bit q.table k) On (cond (bit q.free k) Free Off)

-- one of three by a row's kind
abbrev pub by_kind : {A : Type 0} → A → A → A → Kind → A
by_kind on off free On = on
by_kind on off free Off = off
by_kind on off free Free = free

-- the number of off rows of a request below row k
unfoldable pub off_below : Request → ℕ → ℕ
off_below q zero = 0
off_below q (suc k) = off_below q k + by_kind 0 1 0 (kind_of q k)

-- "A constant table holds the rows on which each input is 1, for n = 1 to 4, in hexadecimal"
unfoldable pub input_table : List (List ℕ)
input_table =
    (0x2 ∷ 0 ∷ 0 ∷ 0 ∷ [])
    ∷ (0xC ∷ 0xA ∷ 0 ∷ 0 ∷ [])
    ∷ (0xF0 ∷ 0xCC ∷ 0xAA ∷ 0 ∷ [])
    ∷ (0xFF00 ∷ 0xF0F0 ∷ 0xCCCC ∷ 0xAAAA ∷ [])
    ∷ []

-- the table's entry for n inputs and input v
unfoldable pub input_rows : ℕ → ℕ → ℕ
input_rows n v = get_or (get_or input_table (n - 1) []) v 0

-- "Input 0 is the highest bit of a row number. Literal v below n is input v, literal n+v its complement": literal v on row k
unfoldable pub literal_on : ℕ → ℕ → ℕ → Bool
literal_on n k v = cond (ltb v n) (bit k (n - 1 - v)) (not (bit k (2 * n - 1 - v)))

-- the same, and false where there is no such literal or row
unfoldable pub literal_value : ℕ → ℕ → ℕ → Bool
literal_value n k v = leb 1 n && (leb n inputs_most && (ltb k (2 ^ n) && (ltb v (2 * n) && literal_on n k v)))

-- what a row asks of a network: current, none, or nothing; and the literals' values on it
pub record Row : Type 0 where
  pub kind : Kind
  pub value : ℕ → Bool

-- row k of a request
abbrev pub row_at : Request → ℕ → Row
row_at q k = record { kind = kind_of q k; value = literal_on q.n k }

-- the rows of a request, rising; a free row is one of them, so that a row's place is its number
unfoldable pub rows_of : Request → List Row
rows_of q = tab 0 (2 ^ q.n) (row_at q)
