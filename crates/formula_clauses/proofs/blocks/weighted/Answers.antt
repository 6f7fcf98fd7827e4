-- The rows below row k are its on rows and its free rows, by the ones of the two numbers, and the off rows. Assumes nothing.
use Rattle.std.proofs.Common.{arith}
use Rattle.formula_clauses.specs.Block.Laws.{weighed}
use Rattle.formula_clauses.proofs.blocks.weighted.Goals as goal

pub overflow_mul-result : goal.overflow_mul-result
overflow_mul-result c =
    let w = weighed c.args.good.request c.args.k c.rows_below-on_rows.result c.rows_below-free_rows.result c.args.on c.args.off c.args.good.good c.requires.0 c.requires.1 c.requires.2 c.rows_below-on_rows.ensures c.rows_below-free_rows.ensures in
    omega (arith, w)

pub overflow_sub-result : goal.overflow_sub-result
overflow_sub-result c =
    let w = weighed c.args.good.request c.args.k c.rows_below-on_rows.result c.rows_below-free_rows.result c.args.on c.args.off c.args.good.good c.requires.0 c.requires.1 c.requires.2 c.rows_below-on_rows.ensures c.rows_below-free_rows.ensures in
    omega (arith, w)

pub overflow_sub-result-2 : goal.overflow_sub-result-2
overflow_sub-result-2 c =
    let w = weighed c.args.good.request c.args.k c.rows_below-on_rows.result c.rows_below-free_rows.result c.args.on c.args.off c.args.good.good c.requires.0 c.requires.1 c.requires.2 c.rows_below-on_rows.ensures c.rows_below-free_rows.ensures in
    omega (arith, w)

pub overflow_add-result : goal.overflow_add-result
overflow_add-result c =
    let w = weighed c.args.good.request c.args.k c.rows_below-on_rows.result c.rows_below-free_rows.result c.args.on c.args.off c.args.good.good c.requires.0 c.requires.1 c.requires.2 c.rows_below-on_rows.ensures c.rows_below-free_rows.ensures in
    omega (arith, w)

pub returns : goal.returns
returns c =
    let w = weighed c.args.good.request c.args.k c.rows_below-on_rows.result c.rows_below-free_rows.result c.args.on c.args.off c.args.good.good c.requires.0 c.requires.1 c.requires.2 c.rows_below-on_rows.ensures c.rows_below-free_rows.ensures in
    (w.2, omega (arith, w.1))
