-- What storing clauses answers and leaves. Assumes nothing.
use Rattle.std.specs.Prelude.{cond, Result, List, [], map, ℕ, ◌+◌, ◌*◌, ◌≤◌, ◌<◌, eqb, ltb, ℤ, length, get_or}
use Rattle.prelude.specs.Blocks.{flatten, pairs_from}
use Rattle.prelude.specs.Written.{written}
use Rattle.refusal.specs.Refusal.{unless}
use Rattle.refusal.specs.declared.Refusal.{Refusal}
use Rattle.cnf.specs.Cnf.{Formula, signed_of}
use Rattle.cnf.specs.declared.Literal.{Literal}
use Rattle.request.specs.Numbers.{Good, refusal_of}
use Rattle.request.specs.declared.Request.{Request}
use Rattle.formula.specs.Clause.{Low}
use Rattle.formula.specs.Formula.{formula_of}
use Rattle.formula.specs.Count.{variable_count, clause_count, literal_count, counts_of}
use Rattle.formula.specs.declared.Sizes.{Sizes}
use Rattle.formula_clauses.specs.declared.store.BlockSizes.{BlockSizes}
use Rattle.formula_clauses.specs.declared.Block.{Block}
use Rattle.formula_clauses.specs.Block.{block_clauses, Fits, block_formula}
pub mod Laws
pub mod Promise

-- literals as "32-bit signed literals"
abbrev pub signs : List Literal → List ℤ
signs ls = map signed_of ls

-- the clauses that the store holds, and V: the names by which a reader above the store knows them
abbrev pub stored_formula : Request → Formula
stored_formula q = formula_of q

abbrev pub stored_variables : Request → ℕ
stored_variables q = variable_count q

-- "7 if the literal slice is shorter than T; 8 if the pair slice is shorter than 2C", after the refusals of the request
unfoldable pub room_refusal : ℕ → ℕ → ℕ → ℕ → ℕ → ℕ
room_refusal x T C literals pairs = cond (eqb x 0) (cond (ltb literals T) 7 (cond (ltb pairs (2 * C)) 8 0)) x

abbrev pub store_refusal : Request → ℕ → ℕ → ℕ
store_refusal q literals pairs = room_refusal (refusal_of q) (literal_count q) (clause_count q) literals pairs

-- the same with V, C and T, where nothing is refused
unfoldable pub store_sizes : Request → ℕ → ℕ → Result Sizes Refusal
store_sizes q literals pairs = unless (store_refusal q literals pairs) (counts_of q)

-- the literals of the clauses, one clause after the other; a refusal writes nothing, and entries past T stand
unfoldable pub stored_literals : Request → ℕ → List ℤ → List ℤ
stored_literals q pairs old = cond (eqb (store_refusal q (length old) pairs) 0) (written old 0 (signs (flatten (formula_of q)))) old

-- offset and length of each clause, in entries; a refusal writes nothing, and entries past 2C stand
unfoldable pub stored_pairs : Request → ℕ → List ℕ → List ℕ
stored_pairs q literals old = cond (eqb (store_refusal q literals (length old)) 0) (written old 0 (pairs_from 0 (formula_of q))) old

-- a good request, numbers of literals and clauses that an entry can have, and slices long enough
pub record Roomy (q : Request) (literals pairs : ℕ) : Type 0 where
  pub good : Good q
  pub small : literal_count q < 4294967296
  pub few : clause_count q < 4294967296
  pub literals_long : literal_count q ≤ literals
  pub pairs_long : 2 * clause_count q ≤ pairs

-- the same for a block, from a clause and an entry on
pub record BlockRoom (n r m : ℕ) (b : Block) (first from literals pairs : ℕ) : Type 0 where
  pub n_low : 1 ≤ n
  pub n_high : n ≤ 8
  pub r_high : r ≤ 15
  pub m_high : m ≤ 15
  pub fits : Fits n b
  pub low : (j : ℕ) → j < length (block_clauses n r m b) → Low (get_or (block_clauses n r m b) j [])
  pub small : from + length (flatten (block_clauses n r m b)) < 4294967296
  pub few : first + length (block_clauses n r m b) < 4294967296
  pub literals_long : from + length (flatten (block_clauses n r m b)) ≤ literals
  pub pairs_long : 2 * (first + length (block_clauses n r m b)) ≤ pairs

-- storing a block: the same of its clauses
abbrev pub block_refusal : Request → ℕ → ℕ → ℕ → ℕ
block_refusal q b literals pairs = room_refusal (refusal_of q) (length (flatten (block_formula q b))) (length (block_formula q b)) literals pairs

-- how many clauses and literals are stored, where none of these applies
unfoldable pub block_sizes : Request → ℕ → ℕ → ℕ → Result BlockSizes Refusal
block_sizes q b literals pairs =
    unless (block_refusal q b literals pairs) (record { clauses = length (block_formula q b); literals = length (flatten (block_formula q b)) })

-- the slices, as the store has clauses; a refusal writes nothing
unfoldable pub block_literals_in : Request → ℕ → ℕ → List ℤ → List ℤ
block_literals_in q b pairs old = cond (eqb (block_refusal q b (length old) pairs) 0) (written old 0 (signs (flatten (block_formula q b)))) old

unfoldable pub block_pairs_in : Request → ℕ → ℕ → List ℕ → List ℕ
block_pairs_in q b literals old = cond (eqb (block_refusal q b literals (length old)) 0) (written old 0 (pairs_from 0 (block_formula q b))) old
