-- The code is the definition, by the law of the clause at a number. Assumes nothing.
use mathlib.Core.Path.{sym, ap, ap₂, ◌∙◌}
use mathlib.Core.List.{[], ◌∷◌}
use Rattle.cnf.specs.Cnf.{pos, neg}
use Rattle.cnf.specs.declared.Literal.{Literal}
use Prim.Native.Nat.{ℕ}
use Rattle.network.specs.Networks.{sink}
use Rattle.formula.specs.Formula.{terminals, X}
use Rattle.formula.proofs.ClauseLaws.{negative_is}
use Rattle.formula.proofs.FormulaOnRow.{last_at}
use Rattle.formula_clauses.proofs.on_row.last_step_at.Goals as goal

pub returns : goal.returns
returns c =
    let r = c.args.row.r in (
      ap₂ (λ (x y : Literal). x ∷ y ∷ []) (c.negative.ensures ∙ ap neg c.entered.ensures)
          (c.positive.ensures
          ∙ ap pos (c.joined.ensures ∙ ap (λ (i : ℕ). X (terminals r) i (sink r)) c.other_end.ensures.0))
          ∙ sym (last_at _ _ _ _ c.requires.1),
      negative_is c.negative.ensures,
    )
