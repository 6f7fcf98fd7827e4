-- Step, end and place are the three digits of the number; the place among the ends but one gives g. Assumes nothing.
use mathlib.Core.List.{List, [], ◌∷◌}
use Prim.Native.Nat.{ℕ, ◌+◌, ◌*◌, ◌/◌, ◌%◌}
use Rattle.cnf.specs.Cnf.{pos, neg}
use Rattle.cnf.specs.declared.Literal.{Literal}
use Rattle.network.specs.Networks.{other}
use Rattle.formula.specs.Formula.{terminals, X}
use Rattle.formula.proofs.ClauseLaws.{negative_is}
use Rattle.formula.proofs.FormulaOnRow.{Follows, link_follows, link_at}
use mathlib.Core.Path.{sym, ap, ap₂, ◌∙◌}
use mathlib.Core.Logic.{inl, inr}
use Rattle.formula_clauses.proofs.on_row.link_step_at.Goals.{Joined-place-end, then-place-end, else-place-end}
use Rattle.formula_clauses.proofs.on_row.link_step_at.Goals as goal

-- the end that follows, by the place and the test
next : (c : Joined-place-end)
    → let r = c.args.row.r in let i = c.args.number % (2 * r * (2 * r)) in
    Follows (2 * r + 1) (other (i / (2 * r) + 1)) (i % (2 * r)) c.if-place-end.g
next c =
    let a = c.args in
    link_follows a.row.r a.row.m a.row.before a.number _ c.if-place-end.g c.requires c.other_end-end.ensures.0
    (elim c.if-place-end.branch [
      | then-place-end w ↦ inl (w.if-place-end.true, w.g-is)
      | else-place-end w ↦ inr (w.if-place-end.false, w.g-is)
    ])

pub returns : goal.returns
returns c =
    let g = c.if-place-end.g in
    let r = c.args.row.r in (
      ap₂ (λ (x : Literal) (l : List Literal). x ∷ l) (c.negative.ensures ∙ ap neg c.entered.ensures)
          (ap₂ (λ (y z : Literal). y ∷ z ∷ []) (c.negative-2.ensures ∙ ap neg c.entered-2.ensures)
          (c.positive.ensures
          ∙ ap pos (c.joined.ensures ∙ ap (λ (i : ℕ). X (terminals r) i g) c.other_end-end.ensures.0)))
          ∙ sym (link_at _ _ _ _ g c.requires (next (goal.at.returns c).Joined-place-end)),
      negative_is c.negative.ensures,
    )
