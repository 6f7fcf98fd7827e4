-- The loop's invariant: the slices have the blocks below b, and `before` is the number of the variables before the row of block b.
-- Assumes nothing.
use mathlib.Core.Path.{◌≡◌, sym, ap, ◌∙◌}
use Prim.Native.Nat.{◌+◌, ◌-◌, ◌*◌, ◌^◌, ◌≤◌}
use native.Mathlib.Omega.{arith}
use lib.ListN.{length}
use Rattle.prelude.specs.Blocks.{flatten, pairs_from}
use Rattle.prelude.specs.Written.{written}
use Rattle.cnf.specs.Cnf.{Formula}
use Rattle.formula.specs.Count.{variables_before}
use Rattle.formula.proofs.CountLaws.{clause_count_lem}
use Rattle.formula_clauses.specs.Block.{block_clauses, block_variables, clauses_of}
use Rattle.formula_clauses.specs.Block.Laws.{block_length, block_within, before_more, before_most}
use Rattle.formula_clauses.specs.Store.{signs}
use Rattle.formula_clauses.specs.Store.Laws.{below_none, below_room, below_more, below_all}
use Rattle.formula_clauses.proofs.store.fill.Goals.{After-block_variables-before}
use Rattle.formula_clauses.proofs.store.fill.Goals as goal

pub loop-b-init : goal.loop-b-init
loop-b-init c = (below_none _ _ _, c.variables_before-before.ensures)

pub fill_block-at-requires : goal.fill_block-at-requires
fill_block-at-requires c =
    let there : c.loop-b.b ≤ 2 ^ c.args.good.request.n = omega arith in
    let counted : c.block_count-count.result ≡ length (block_clauses c.args.good.request.n c.args.good.request.r c.args.good.request.m c.block_from-block.result) = let q = c.args.good.request in
    c.block_count-count.ensures.0 ∙ sym (block_length q.n q.r q.m c.block_from-block.result) in
    record { count = counted; room = below_room _ _ _ c.requires _ _ _ _ _ c.loop-b.invariant.0 there c.block_from-block.ensures.0 c.block_from-block.ensures.1 }

-- the variables before the next row
more : (c : After-block_variables-before) → c.loop-b.before + c.block_variables-before.result ≡ variables_before c.args.good.request c.loop-b.b
more c =
    let q = c.args.good.request in
    let v = c.block_variables-before.ensures.0 ∙ ap (block_variables q.r q.m) c.block_from-block.ensures.0 in
    omega (arith, v, c.loop-b.invariant.1, before_more q c.loop-b.b)

pub overflow_add-before : goal.overflow_add-before
overflow_add-before c =
    let there : c.loop-b.b ≤ 2 ^ c.args.good.request.n = omega arith in
    omega (arith, more (goal.at.overflow_add-before c).After-block_variables-before, before_most c.args.good.request c.loop-b.b c.requires.good there)

pub overflow_add-first : goal.overflow_add-first
overflow_add-first c =
    let there : c.loop-b.b ≤ 2 ^ c.args.good.request.n = omega arith in
    let block-is : block_clauses c.args.good.request.n c.args.good.request.r c.args.good.request.m c.block_from-block.result ≡ clauses_of c.args.good.request c.loop-b.b = let q = c.args.good.request in
    ap (block_clauses q.n q.r q.m) c.block_from-block.ensures.0 in
    let counted : c.block_count-count.result ≡ length (block_clauses c.args.good.request.n c.args.good.request.r c.args.good.request.m c.block_from-block.result) = let q = c.args.good.request in
    c.block_count-count.ensures.0 ∙ sym (block_length q.n q.r q.m c.block_from-block.result) in
    omega (arith, (block_within c.args.good.request c.loop-b.b there).0, c.loop-b.invariant.0.clauses_are, counted, ap length block-is, clause_count_lem c.args.good.request, c.requires.few)

pub loop-b-preserved : goal.loop-b-preserved
loop-b-preserved c =
    let there : c.loop-b.b ≤ 2 ^ c.args.good.request.n = omega arith in
    let block-is : block_clauses c.args.good.request.n c.args.good.request.r c.args.good.request.m c.block_from-block.result ≡ clauses_of c.args.good.request c.loop-b.b = let q = c.args.good.request in
    ap (block_clauses q.n q.r q.m) c.block_from-block.ensures.0 in
    let counted : c.block_count-count.result ≡ length (block_clauses c.args.good.request.n c.args.good.request.r c.args.good.request.m c.block_from-block.result) = let q = c.args.good.request in
    c.block_count-count.ensures.0 ∙ sym (block_length q.n q.r q.m c.block_from-block.result) in
    let next = more (goal.at.loop-b-preserved c).After-block_variables-before in
    let e = block-is in
    let z : c.loop-b.b + 1 - 1 ≡ c.loop-b.b = omega arith in (
      below_more _ _ _ c.requires _ _ _ _ _ _ _ _ _ c.loop-b.invariant.0 there
          (c.fill_block-at.ensures.place ∙ ap (λ (F : Formula). c.loop-b.at + length (flatten F)) e) (counted ∙ ap length e) c.fill_block-at.auto.literals
          c.fill_block-at.auto.pairs
          (c.fill_block-at.ensures.literals ∙ ap (λ (F : Formula). written c.loop-b.literals c.loop-b.at (signs (flatten F))) e)
          (c.fill_block-at.ensures.pairs ∙ ap (λ (F : Formula). written c.loop-b.pairs (2 * c.loop-b.first) (pairs_from c.loop-b.at F)) e),
      next ∙ ap (variables_before c.args.good.request) (sym z),
    )

pub returns : goal.returns
returns c =
    let p = below_all _ _ _ _ _ _ _ _ c.loop-b.invariant.0 (omega arith) in
    record { literals = p.0; pairs = p.1 }
