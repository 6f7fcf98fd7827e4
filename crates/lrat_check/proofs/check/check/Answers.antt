-- What follows of an answer that is the definition's. Assumes nothing.
use Rattle.std.proofs.Common.{sym, ap, ◌∙◌}
use Rattle.lrat.specs.declared.Checked.{Checked}
use Rattle.lrat.specs.Outcome.{number_of, values_of}
use Rattle.lrat_check.specs.Refutation.Laws.{answer_number, answer_values}
use Rattle.lrat_check.specs.Refutation.Sound.{none_unsatisfiable, none_more}
use Rattle.lrat_check.proofs.check.check.Goals as goal

pub returns-clause-sound : goal.returns-clause-sound
returns-clause-sound c n = none_unsatisfiable _ _ _ (ap (λ (y : Checked). y.outcome) (sym c.outcome-outcome.ensures.answer) ∙ n)

pub returns-clause-more : goal.returns-clause-more
returns-clause-more c n = none_more _ _ _ (ap (λ (y : Checked). y.outcome) (sym c.outcome-outcome.ensures.answer) ∙ n)

pub returns-clause-number : goal.returns-clause-number
returns-clause-number c = ap number_of c.outcome-outcome.ensures.answer ∙ answer_number _ _ _

pub returns-clause-values : goal.returns-clause-values
returns-clause-values c = ap values_of c.outcome-outcome.ensures.answer ∙ answer_values _ _ _
