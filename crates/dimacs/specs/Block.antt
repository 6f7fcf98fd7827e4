-- The lines of clauses that lie in two lists as the clause store has them: signed numbers, and for each clause a pair of offset
-- and length in entries. Assumes nothing.
use Rattle.std.specs.Prelude.{◌≡◌, List, [], ◌∷◌, ◌++◌, ℕ, ◌+◌, ◌*◌, ◌≤◌, ◌<◌, ℤ, length, get_or, take, drop}
use Rattle.prelude.specs.Blocks.{each, flatten, pairs_from}
use Rattle.prelude.specs.Written.{written}
use Rattle.cnf.specs.Cnf.{Formula}
use Rattle.formula_clauses.specs.declared.store.BlockSizes.{BlockSizes}
use Rattle.formula_clauses.specs.Store.{signs}
use Rattle.text.specs.Text.{numbers_text}

-- a line of signed numbers: 0 and the newline are last
unfoldable pub numbers_line : List ℤ → List ℕ
numbers_line xs = numbers_text xs ++ (48 ∷ 10 ∷ [])

-- the line of the clause that pair k names
abbrev pub line_of : List ℤ → List ℕ → ℕ → List ℕ
line_of literals pairs k = numbers_line (take (get_or pairs (2 * k + 1) 0) (drop (get_or pairs (2 * k) 0) literals))

-- the lines of the first count clauses
unfoldable pub block_text : ℕ → List ℤ → List ℕ → List ℕ
block_text count literals pairs = each count (line_of literals pairs)

-- there are so many pairs, and the clause that each names lies within the literals
pub record Within (count : ℕ) (literals : List ℤ) (pairs : List ℕ) : Type 0 where
  pub pairs_long : 2 * count ≤ length pairs
  pub clause_within : (k : ℕ) → k < count → get_or pairs (2 * k) 0 + get_or pairs (2 * k + 1) 0 ≤ length literals

-- room for the literals and the clauses of one block of a request
abbrev pub literals_room : ℕ
literals_room = 8192

abbrev pub clauses_room : ℕ
clauses_room = 2048

-- what storing clauses in two lists leaves: how many they are, and the lists that begin with them
pub record Loaded (F : Formula) (old : List ℤ) (before : List ℕ) (x : BlockSizes) (literals : List ℤ) (pairs : List ℕ)
    : Type 0 where
  pub clauses_are : x.clauses ≡ length F
  pub literals_hold : literals ≡ written old 0 (signs (flatten F))
  pub pairs_hold : pairs ≡ written before 0 (pairs_from 0 F)
