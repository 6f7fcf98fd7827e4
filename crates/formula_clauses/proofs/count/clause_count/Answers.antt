-- So many for groups 1 and 2, and so many for each on row and each off row. Assumes nothing.
use Rattle.std.proofs.Common.{ℕ, ◌+◌, ◌^◌, ap, ap₂, ◌∙◌}
use Rattle.formula.specs.Count.{split, clause_count, clauses_before}
use Rattle.formula_clauses.proofs.count.clause_count.Goals as goal

pub returns : goal.returns
unfolding clause_count clauses_before
returns c =
    let q = c.args.good.request in
    ap₂ (λ (x y : ℕ). x + y) c.network_count.ensures.0
    (c.weighted.ensures.0
    ∙ ap (split q c.on_row_count-on.result c.off_row_count-off.result) c.row_count.ensures.0
    ∙ ap₂ (λ (x y : ℕ). split q x y (2 ^ q.n)) c.on_row_count-on.ensures.0 c.off_row_count-off.ensures.0)
