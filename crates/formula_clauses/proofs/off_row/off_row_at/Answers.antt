-- One law for each return: the two clauses of one literal, the pairs of terminals, the switches. Assumes nothing.
use Rattle.formula.proofs.ClauseLaws.{run_one, negative_is}
use Rattle.formula.proofs.FormulaOffRow.{off_row_source, off_row_sink, off_row_net, off_row_switch}
use Prim.Native.Nat.{◌*◌}
use mathlib.Core.Path.{◌∙◌}
use native.Mathlib.Omega.{arith}
use Rattle.formula_clauses.proofs.off_row.off_row_at.Goals as goal

pub returns-then-number-eq0 : goal.returns-then-number-eq0
returns-then-number-eq0 c = (
  off_row_source _ _ _ _ _ _ _ _ c.if-number-eq0.true c.side.ensures c.negative.ensures,
  negative_is c.negative.ensures,
)

pub returns-then-number-eq1 : goal.returns-then-number-eq1
returns-then-number-eq1 c = (run_one _ ∙ off_row_sink _ _ _ _ _ _ _ c.if-number-eq1.true c.side-then-number-eq1.ensures, λ e. omega arith)

pub returns-then-rest-sides : goal.returns-then-rest-sides
returns-then-rest-sides c = (off_row_net _ _ _ _ _ _ _ (omega arith) (omega arith) c.net_side_at.ensures.0, c.net_side_at.ensures.1)

pub returns : goal.returns
returns c = (
  off_row_switch _ _ _ _ _ _ (2 * c.pairs_below-sides.result) _ (omega arith) (omega arith) (omega arith)
      c.switch_side_at.ensures.0,
  c.switch_side_at.ensures.1,
)
