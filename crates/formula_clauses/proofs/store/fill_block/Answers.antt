-- The loop's invariant: the slices have the first j clauses of the block. Assumes nothing.
use mathlib.Core.Path.{ap, ◌∙◌}
use Prim.Native.Nat.{◌+◌, ◌-◌, ◌≤◌}
use native.Mathlib.Omega.{arith}
use lib.ListN.{length}
use borrow.Author.Rules.{rules}
use Rattle.prelude.specs.Blocks.{flatten}
use Rattle.prelude.specs.Written.Laws.{written_length, wrote_part}
use Rattle.formula.specs.Clause.{literals_of}
use Rattle.formula_clauses.specs.Block.{block_clauses}
use Rattle.formula_clauses.specs.Block.Laws.{block_length}
use Rattle.formula_clauses.specs.Store.{signs}
use Rattle.formula_clauses.specs.Store.Laws.{signs_length, filled_none, filled_room, filled_more}
use Rattle.formula_clauses.proofs.store.fill_block.Goals.{After-clause_size-size}
use Rattle.formula_clauses.proofs.store.fill_block.Goals as goal

pub loop-j-init : goal.loop-j-init
loop-j-init c = filled_none _ _ _ _ _

pub block_clause-c-requires : goal.block_clause-c-requires
block_clause-c-requires c =
    let p = c.requires.room in
    (p.fits, omega (arith, c.requires.count, block_length c.args.good.request.n c.args.good.request.r c.args.good.request.m c.args.block))

-- the clause fits
fits : (c : After-clause_size-size)
    → let a = c.args in let q = a.good.request in
    c.loop-j.at + c.clause_size-size.result ≤ a.from + length (flatten (block_clauses q.n q.r q.m a.block))
fits c =
    let r = c.requires.room in
    let e = c.block_clause-c.ensures.0 in
    omega (arith, filled_room _ _ _ _ _ r.literals_long r.pairs_long _ _ _ _ _ c.loop-j.invariant (omega (arith, c.requires.count)) e, c.clause_size-size.ensures)

pub overflow_add-at : goal.overflow_add-at
overflow_add-at c = omega (arith, fits c, c.requires.room.small)

pub slice_bounds-put_clause-end : goal.slice_bounds-put_clause-end
slice_bounds-put_clause-end c =
    let h : c.loop-j.at + c.clause_size-size.result ≤ length c.loop-j.literals = omega (arith, fits c, c.requires.room.literals_long, c.loop-j.auto.literals) in
    search rules

pub overflow_cast-at : goal.overflow_cast-at
overflow_cast-at c = omega (arith, fits (goal.at.overflow_cast-at c).After-clause_size-size, c.requires.room.small)

pub overflow_cast-size : goal.overflow_cast-size
overflow_cast-size c = omega (arith, fits (goal.at.overflow_cast-size c).After-clause_size-size, c.requires.room.small)

pub loop-j-preserved : goal.loop-j-preserved
loop-j-preserved c =
    let r = c.requires.room in
    let literals = c.loop-j.literals in
    let at = c.loop-j.at in
    let size = c.clause_size-size.result in
    let e = c.clause_size-size.ensures in
    let l = fits (goal.at.loop-j-preserved c).After-clause_size-size in
    let these = literals_of c.block_clause-c.result in
    let n = signs_length these in
    let w = wrote_part literals at (at + size - at) (signs these) _ c.put_clause.ensures (omega (arith, n, e)) in
    let long = ap length w ∙ written_length literals at (signs these) (omega (arith, n, e, l, r.literals_long, c.loop-j.auto.literals)) in
    filled_more _ _ _ _ _ r.literals_long r.pairs_long _ _ _ _ _ _ _ _ _ c.loop-j.invariant (omega (arith, c.requires.count))
    c.block_clause-c.ensures.0 (omega (arith, e)) (omega arith) long c.put_pair.auto.pairs w c.put_pair.ensures

pub offset_bounds-literals-at : goal.offset_bounds-literals-at
offset_bounds-literals-at c = let l = fits c in let h : c.loop-j.at ≤ length c.loop-j.literals = omega (arith, l, c.requires.room.literals_long, c.loop-j.auto.literals) in search rules
