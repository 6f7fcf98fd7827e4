-- A switch has two clauses for each of the n literals that are 1 on the row: the quotient by 2n is the switch, half the remainder
-- the literal's number, and its parity the clause. Assumes nothing.
use Rattle.formula.proofs.FormulaOffRow.{switch_side_is}
use Rattle.formula_clauses.proofs.off_row.switch_side_at.Goals as goal

pub returns : goal.returns
returns c = (
  switch_side_is _ _ _ _ _ _ _ _ _ _ _ c.requires c.literal_with-v.ensures c.chosen.ensures
      c.side.ensures c.side-2.ensures c.same_side.ensures.0,
  c.same_side.ensures.1,
)
