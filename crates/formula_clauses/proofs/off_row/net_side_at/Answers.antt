-- A pair of terminals has two clauses, so the quotient by 2 is the pair and the remainder the clause. Assumes nothing.
use Rattle.formula.specs.Formula.Laws.{pair_x}
use Rattle.formula.proofs.FormulaOffRow.{net_side_is}
use mathlib.Core.Path.{sym}
use Rattle.formula_clauses.proofs.off_row.net_side_at.Goals as goal

pub returns : goal.returns
returns c =
    let p = c.pair_at-p.ensures in (
      net_side_is _ _ _ _ _ _ _ _ _ p (sym (pair_x _ _ _ _ p)) c.side.ensures c.side-2.ensures
          c.same_side.ensures.0,
      c.same_side.ensures.1,
    )
