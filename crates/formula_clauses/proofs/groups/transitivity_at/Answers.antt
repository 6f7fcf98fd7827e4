-- A triple has three clauses, so the quotient by 3 is the triple and the remainder the clause. Assumes nothing.
use Prim.Native.Nat.{◌+◌, ◌*◌}
use Rattle.formula.specs.Formula.Groups.{transitivity_length, transitivity_is}
use native.Mathlib.Omega.{arith}
use Rattle.formula_clauses.proofs.groups.transitivity_at.Goals as goal

pub triple_at-t-requires : goal.triple_at-t-requires
triple_at-t-requires c = let e = transitivity_length (2 * c.args.r + 2) in (omega arith, omega arith)

pub returns : goal.returns
returns c = (
  transitivity_is (2 * c.args.r + 2) c.args.number _ _ _ _ c.triple_at-t.ensures c.triple_clause.ensures.0,
  c.triple_clause.ensures.1,
)
