-- A clause by its number. Assumes nothing.
use Rattle.std.specs.Prelude.{cond, [], ℕ, eqb, get_or}
use Rattle.cnf.specs.Cnf.{Clause}
use Rattle.request.specs.Numbers.{refusal_of}
use Rattle.request.specs.declared.Request.{Request}
use Rattle.formula.specs.Formula.{formula_of}

-- clause k of a request, from 0; none past the last, and none where the request is refused
unfoldable pub clause_of : Request → ℕ → Clause
clause_of q k = cond (eqb (refusal_of q) 0) (get_or (formula_of q) k []) []
