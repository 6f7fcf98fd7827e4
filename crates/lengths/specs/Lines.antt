-- How long literals and the lines of clauses are as text, by the digits of their variables. Assumes nothing.
use Rattle.std.specs.Prelude.{cond, [], ◌∷◌, ℕ, ◌+◌, eqb, length}
use Rattle.cnf.specs.Cnf.{Clause, Formula}
use Rattle.request.specs.Numbers.{refusal_of}
use Rattle.request.specs.declared.Request.{Request}
use Rattle.formula.specs.Formula.{formula_of}
use Rattle.text.specs.Decimal.{decimal}

-- a positive literal: the digits of its variable, and the space after them
unfoldable pub literal_length : ℕ → ℕ
literal_length v = length (decimal v) + 1

-- literals, a negative one with its minus
abbrev pub literals_length : Clause → ℕ
literals_length [] = 0
literals_length (l ∷ c) = cond l.negative 1 0 + literal_length l.variable + literals_length c

-- clauses: each line ends with 0 and the newline
abbrev pub lines_length : Formula → ℕ
lines_length [] = 0
lines_length (c ∷ f) = literals_length c + 2 + lines_length f

-- the clauses of a request; none where it is refused
unfoldable pub request_length : Request → ℕ
request_length q = cond (eqb (refusal_of q) 0) (lines_length (formula_of q)) 0
