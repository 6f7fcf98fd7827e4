-- How many variables, clauses and literals a request's clauses have, by the counts of on and off rows (document 01: "V is the number of
-- variables, C of clauses, T of literals in all clauses"). Assumes nothing.
use Rattle.std.specs.Prelude.{cond, eqb, Result, ℕ, ◌+◌, ◌-◌, ◌*◌, ◌/◌, ◌^◌}
use Rattle.rows.specs.Rows.{set_below, off_below}
use Rattle.request.specs.Numbers.{inputs_most, switches_most, series_most, rows_most, refusal_of}
use Rattle.request.specs.declared.Request.{Request}
use Rattle.refusal.specs.Refusal.{unless}
use Rattle.refusal.specs.declared.Refusal.{Refusal}
use Rattle.network.specs.Value.{terminals_most}
use Rattle.formula.specs.declared.Sizes.{Sizes}
use Rattle.formula.specs.Formula.{terminals, network_variables}
use Rattle.formula.specs.Pairs.{pairs_before, triples_before}

-- the clauses of an on row
unfoldable pub on_row_count : ℕ → ℕ → ℕ → ℕ
on_row_count n r m = cond (eqb m 0) 1 (m + m * (2 * r * n) + (2 * r + 1) + (m - 1) * (2 * r * (2 * r)) + 2 * r)

-- the literals of an on row
unfoldable pub on_row_literals : ℕ → ℕ → ℕ → ℕ
on_row_literals n r m =
    cond (eqb m 0) 1 (m * (2 * r + 1) + 2 * (m * (2 * r * n)) + 2 * (2 * r + 1) + 3 * ((m - 1) * (2 * r * (2 * r))) + 2 * (2 * r))

-- the clauses of an off row
abbrev pub off_row_count : ℕ → ℕ → ℕ → ℕ
off_row_count n N r = 2 + 2 * pairs_before N N + r * (n * 2)

-- the literals of an off row
abbrev pub off_row_literals : ℕ → ℕ → ℕ → ℕ
off_row_literals n N r = 2 + 3 * (2 * pairs_before N N + r * (n * 2))

-- the clauses of groups 1 and 2
abbrev pub network_count : ℕ → ℕ → ℕ
network_count n r = triples_before (terminals r) (terminals r) * 3 + r * (pairs_before (2 * n) (2 * n) + 1)

-- their literals, three in each clause of group 1
abbrev pub network_literals : ℕ → ℕ → ℕ
network_literals n r = 3 * (triples_before (terminals r) (terminals r) * 3) + r * (2 * n + 2 * pairs_before (2 * n) (2 * n))

-- a for each on row below row k, of which there are as many as ones in the table, and b for each off row
unfoldable pub split : Request → ℕ → ℕ → ℕ → ℕ
split q a b k = set_below q.table k * a + off_below q k * b

-- the variables before row k: X and L, and those of the lower rows
unfoldable pub variables_before : Request → ℕ → ℕ
variables_before q k = network_variables q.n q.r + split q (q.m * (2 * q.r + 1)) (terminals q.r) k

-- the clauses of the rows below row k
unfoldable pub clauses_before : Request → ℕ → ℕ
clauses_before q k = split q (on_row_count q.n q.r q.m) (off_row_count q.n (terminals q.r) q.r) k

-- the literals of the rows below row k
unfoldable pub literals_before : Request → ℕ → ℕ
literals_before q k = split q (on_row_literals q.n q.r q.m) (off_row_literals q.n (terminals q.r) q.r) k

-- the most X and L variables of a request
abbrev pub values_most : ℕ
values_most = terminals_most * (terminals_most - 1) / 2 + 2 * inputs_most * switches_most

-- the most variables: these, and the steps of an on row on every row
abbrev pub variables_most : ℕ
variables_most = values_most + rows_most * (series_most * (2 * switches_most + 1))

-- V
unfoldable pub variable_count : Request → ℕ
variable_count q = variables_before q (2 ^ q.n)

-- C: groups 1 and 2, and the rows
unfoldable pub clause_count : Request → ℕ
clause_count q = network_count q.n q.r + clauses_before q (2 ^ q.n)

-- T: their literals
unfoldable pub literal_count : Request → ℕ
literal_count q = network_literals q.n q.r + literals_before q (2 ^ q.n)

-- V, C and T
abbrev pub counts_of : Request → Sizes
counts_of q = record { variables = variable_count q; clauses = clause_count q; literals = literal_count q }

-- the refusal of a request; V, C and T where it is taken
unfoldable pub sizes_of : Request → Result Sizes Refusal
sizes_of q = unless (refusal_of q) (counts_of q)
