-- The blocks of a request's clauses: groups 1 and 2, then those of each row, rising. Assumes nothing.
use Rattle.std.specs.Prelude.{◌&&◌, cond, [], ◌++◌, ℕ, zero, suc, ◌+◌, ◌*◌, ◌^◌, ◌≤◌, ◌<◌, eqb, leb, get_or}
use Rattle.cnf.specs.Cnf.{Clause, Formula}
use Rattle.rows.specs.Rows.{kind_of, by_kind, literal_on}
use Rattle.request.specs.Numbers.{refusal_of}
use Rattle.request.specs.declared.Request.{Request}
use Rattle.formula.specs.Formula.{terminals, transitivity, choices, on_row, off_row}
use Rattle.formula.specs.Count.{on_row_count, on_row_literals, off_row_count, off_row_literals, network_count, network_literals, variables_before}
use Rattle.formula_clauses.specs.declared.Block.{Block}
use Rattle.formula_clauses.specs.declared.Block.TheVariants.{Network, On, Off, Free}
pub mod Laws

-- clause k of groups 1 and 2 of a request, from 0; none past the last, and none where the request is refused
unfoldable pub network_clause : Request → ℕ → Clause
network_clause q k =
    cond (eqb (refusal_of q) 0) (get_or (transitivity (terminals q.r) ++ choices q.n (terminals q.r) q.r) k []) []

-- the clauses of a block, for n inputs, r switches and the series bound m
abbrev pub block_clauses : ℕ → ℕ → ℕ → Block → Formula
block_clauses n r m Network = transitivity (terminals r) ++ choices n (terminals r) r
block_clauses n r m (On B k) = on_row n r m B (literal_on n k)
block_clauses n r m (Off B k) = off_row n (terminals r) r B (literal_on n k)
block_clauses n r m Free = []

-- those of a block of a request
abbrev pub clauses_in : Request → Block → Formula
clauses_in q b = block_clauses q.n q.r q.m b

-- the variables of its row
abbrev pub block_variables : ℕ → ℕ → Block → ℕ
block_variables r m Network = 0
block_variables r m (On B k) = m * (2 * r + 1)
block_variables r m (Off B k) = terminals r
block_variables r m Free = 0

-- how many clauses, and how many literals
abbrev pub block_count : ℕ → ℕ → ℕ → Block → ℕ
block_count n r m Network = network_count n r
block_count n r m (On B k) = on_row_count n r m
block_count n r m (Off B k) = off_row_count n (terminals r) r
block_count n r m Free = 0

abbrev pub block_literals : ℕ → ℕ → ℕ → Block → ℕ
block_literals n r m Network = network_literals n r
block_literals n r m (On B k) = on_row_literals n r m
block_literals n r m (Off B k) = off_row_literals n (terminals r) r
block_literals n r m Free = 0

-- the row of a block is one of 2^n
abbrev pub Fits : ℕ → Block → Type 0
Fits n Network = Unit {0}
Fits n (On B k) = k < 2 ^ n
Fits n (Off B k) = k < 2 ^ n
Fits n Free = Unit {0}

-- block b of a request
abbrev pub block_of : Request → ℕ → Block
block_of q zero = Network
block_of q (suc k) = by_kind (On (variables_before q k) k) (Off (variables_before q k) k) Free (kind_of q k)

abbrev pub clauses_of : Request → ℕ → Formula
clauses_of q b = block_clauses q.n q.r q.m (block_of q b)

-- the clauses of the blocks below b
unfoldable pub blocks_below : Request → ℕ → Formula
blocks_below q zero = []
blocks_below q (suc b) = blocks_below q b ++ clauses_of q b

-- the clauses of block b; none past the last block, and none where the request is refused
unfoldable pub block_formula : Request → ℕ → Formula
block_formula q b = cond (eqb (refusal_of q) 0 && leb b (2 ^ q.n)) (clauses_of q b) []
