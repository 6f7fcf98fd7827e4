-- The variables before row 2^n. Assumes nothing.
use Rattle.std.proofs.Common.{ap, ◌∙◌}
use Rattle.formula.specs.Count.{variables_before, variable_count}
use Rattle.formula_clauses.proofs.count.variable_count.Goals as goal

pub returns : goal.returns
unfolding variable_count
returns c = c.variables_before.ensures ∙ ap (variables_before c.args.good.request) c.row_count.ensures.0
