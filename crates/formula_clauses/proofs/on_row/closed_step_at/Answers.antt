-- Step, end and literal are the three digits of the number; the law of the clause at a number is stated by them. Assumes nothing.
use mathlib.Core.Path.{sym, ap, ap₂, ◌∙◌}
use mathlib.Core.List.{[], ◌∷◌}
use Rattle.cnf.specs.Cnf.{neg}
use Rattle.cnf.specs.declared.Literal.{Literal}
use Rattle.prelude.specs.Blocks.Laws.{digits_low}
use Rattle.formula.proofs.ClauseLaws.{negative_is}
use Rattle.formula.proofs.FormulaOnRow.{closed_at}
use native.Mathlib.Omega.{arith}
use Rattle.formula_clauses.proofs.on_row.closed_step_at.Goals as goal

pub entered-requires : goal.entered-requires
entered-requires c =
    let d = digits_low _ _ _ _ c.requires in
    (omega arith, omega arith, omega arith)

pub returns : goal.returns
returns c = (
  ap₂ (λ (x y : Literal). x ∷ y ∷ []) (c.negative.ensures ∙ ap neg c.entered.ensures)
      (c.negative-2.ensures ∙ ap neg c.chosen.ensures)
      ∙ sym (closed_at _ _ _ _ _ _ _ c.requires c.literal_with-v.ensures),
  negative_is c.negative.ensures,
)

pub chosen-requires : goal.chosen-requires
chosen-requires c =
    let d = digits_low _ _ _ _ c.requires in
    let n = c.literal_with-v.ensures in
    (omega arith, n.low)
