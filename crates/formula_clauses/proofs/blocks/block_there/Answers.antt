-- Past the rows' blocks there is none. Assumes nothing.
use Rattle.std.proofs.Common.{◌≤◌, ◌^◌, ap, sym, ◌∙◌, arith}
use Rattle.formula_clauses.specs.Block.{block_clauses}
use Rattle.formula_clauses.specs.Store.Laws.{block_there, block_beyond}
use Rattle.formula_clauses.proofs.blocks.block_there.Goals as goal

pub returns-then-row_count-b : goal.returns-then-row_count-b
returns-then-row_count-b c = (sym (block_beyond c.args.good.request c.args.b c.args.good.good (omega arith)), tt)

pub returns : goal.returns
returns c =
    let q = c.args.good.request in
    let h : c.args.b ≤ 2 ^ q.n = omega arith in
    (ap (block_clauses q.n q.r q.m) c.block_at.ensures.0 ∙ sym (block_there q c.args.b c.args.good.good h), c.block_at.ensures.1)
