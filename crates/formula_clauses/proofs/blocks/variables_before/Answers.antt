-- The variables of groups 1 and 2, and those of the rows below row k. Assumes nothing.
use Rattle.std.proofs.Common.{◌≡◌, ℕ, ◌+◌, ap₂, ◌∙◌, arith}
use Rattle.formula.specs.Count.{split, variables_before}
use Rattle.formula_clauses.specs.Block.Laws.{before_most}
use Rattle.formula_clauses.proofs.blocks.variables_before.Goals.{After-weighted}
use Rattle.formula_clauses.proofs.blocks.variables_before.Goals as goal

-- what is summed up
summed : (c : After-weighted) → c.network_variables.result + c.weighted.result ≡ variables_before c.args.good.request c.args.k
unfolding variables_before
summed c =
    let q = c.args.good.request in
    ap₂ (λ (x y : ℕ). x + y) c.network_variables.ensures.0
    (c.weighted.ensures.0 ∙ ap₂ (λ (x y : ℕ). split q x y c.args.k) c.on_row_variables-on.ensures.0 c.off_row_variables-off.ensures.0)

pub overflow_cast-result : goal.overflow_cast-result
overflow_cast-result c =
    omega (arith, summed (goal.at.overflow_cast-result c).After-weighted, before_most c.args.good.request c.args.k c.args.good.good c.requires)

pub returns : goal.returns
returns c = summed (goal.at.returns c).After-weighted
