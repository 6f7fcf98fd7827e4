-- The code is the definition, by the law of the clause at a number. Assumes nothing.
use mathlib.Core.Path.{sym, ap, ap₂, ◌∙◌}
use mathlib.Core.List.{[], ◌∷◌}
use Rattle.cnf.specs.Cnf.{pos, neg}
use Rattle.cnf.specs.declared.Literal.{Literal}
use Rattle.formula.proofs.ClauseLaws.{negative_is}
use Rattle.formula.proofs.FormulaOnRow.{first_at}
use Rattle.formula_clauses.proofs.on_row.first_step_at.Goals as goal

pub returns : goal.returns
returns c = (
  ap₂ (λ (x y : Literal). x ∷ y ∷ []) (c.negative.ensures ∙ ap neg c.entered.ensures)
      (c.positive.ensures ∙ ap pos c.joined.ensures)
      ∙ sym (first_at _ _ _ c.requires),
  negative_is c.negative.ensures,
)
