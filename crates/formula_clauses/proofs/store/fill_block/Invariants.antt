-- The loop's invariant: the slices have the first j clauses of the block. Assumes nothing.
use Rattle.formula_clauses.specs.Block.{block_clauses}
use Rattle.formula_clauses.specs.Store.Laws.{Filled}
use Rattle.formula_clauses.proofs.store.fill_block.Given as goal

abbrev pub invariant-loop-j : goal.invariant-loop-j
invariant-loop-j l =
    Filled (block_clauses l.good.request.n l.good.request.r l.good.request.m l.block) l.first l.from l.initial.literals l.initial.pairs l.literals l.pairs l.j l.at
