-- `write::put_body` meets its contract: the lines of the blocks before the index are written. Assumes nothing.
use Rattle.std.proofs.Common.{◌≡◌, ℕ, ◌+◌, ◌*◌, ◌%◌, ◌^◌, ◌≤◌, ◌<◌, length, refl, sym, ap, ◌∙◌, arith, length-append}
use Rattle.request.specs.Numbers.{Good}
use Rattle.request.specs.declared.Request.{Request}
use Rattle.request.proofs.NumbersLaws.{rows_shl}
use Rattle.formula.specs.Formula.{formula_of}
use Rattle.formula_clauses.specs.Block.{clauses_of, blocks_below}
use Rattle.dimacs.specs.declared.lines.Cursor.{Cursor}
use Rattle.dimacs.specs.File.{body_text}
use Rattle.dimacs.specs.Cursor.{Room, Puts}
use Rattle.dimacs.proofs.BlockStored.{never_refused, loaded, loaded_within, loaded_text, below_text, below_size, below_first, below_last}
use Rattle.dimacs.proofs.CursorLaws.{puts_none, room_after, puts_both}
use Rattle.dimacs.proofs.write.put_body.Goals as goal

-- one block more, and room for it
module _ (q : Request) (good : Good q) (a : Cursor) (b : ℕ) (there : b ≤ 2 ^ q.n) (room : Room a (length (body_text (formula_of q)))) where
  short : length (body_text (blocks_below q (b + 1))) ≤ length (body_text (formula_of q))
  short =
      let n = ap length (below_text q good b there) ∙ length-append (body_text (blocks_below q b)) (body_text (clauses_of q b)) in
      omega (arith, below_size q good b there)

  module _ {k : Cursor} (put : Puts a (body_text (blocks_below q b)) k) where
    next-room : Room k (length (body_text (clauses_of q b)))
    next-room = room_after (body_text (blocks_below q b)) (body_text (clauses_of q b)) (body_text (blocks_below q (b + 1))) (below_text q good b there) a room short put

    next : {c : Cursor} → Puts k (body_text (clauses_of q b)) c → Puts a (body_text (blocks_below q (b + 1))) c
    next = puts_both (body_text (blocks_below q b)) (body_text (clauses_of q b)) (body_text (blocks_below q (b + 1))) (below_text q good b there) a room short put

-- the blocks before the end of the loop are there
block-there : (n b : ℕ) → n ≤ 4 → b < 1 * 2 ^ n % 2 ^ 32 + 1 → b ≤ 2 ^ n
block-there n b h l = omega (arith, rows_shl n 32 h (omega arith))

pub loop-b-init : goal.loop-b-init
loop-b-init c = (refl, refl, rw (below_first c.args.good.request) (puts_none c.args.out.now))

pub put_block-requires : goal.put_block-requires
put_block-requires c =
    let q = c.args.good.request in
    let good = c.args.good.good in
    let there = block-there q.n c.loop-b.b good.n_high c.loop-b-test.true in
    let e = c.in_ok-block.ensures in
    let stored = loaded q good c.loop-b.b there c.loop-b.literals c.loop-b.pairs c.loop-b.invariant.0 c.loop-b.invariant.1 e.answer e.literals e.pairs in
    record {
      within = loaded_within q good c.loop-b.b there stored;
      room = rw (loaded_text q good c.loop-b.b there stored) (next-room q good c.args.out.now c.loop-b.b there c.requires c.loop-b.invariant.2);
    }

pub loop-b-preserved : goal.loop-b-preserved
loop-b-preserved c =
    let q = c.args.good.request in
    let good = c.args.good.good in
    let there = block-there q.n c.loop-b.b good.n_high c.loop-b-test.true in
    let e = c.in_ok-block.ensures in
    let stored = loaded q good c.loop-b.b there c.loop-b.literals c.loop-b.pairs c.loop-b.invariant.0 c.loop-b.invariant.1 e.answer e.literals e.pairs in (
      c.loop-b.invariant.0 ∙ sym c.store_block.auto.literals,
      c.loop-b.invariant.1 ∙ sym c.store_block.auto.pairs,
      next q good c.args.out.now c.loop-b.b there c.requires c.loop-b.invariant.2 (rw (loaded_text q good c.loop-b.b there stored) at c.put_block.ensures),
    )

pub returns : goal.returns
returns c =
    let q = c.args.good.request in
    let rows_are : 1 * 2 ^ q.n % 2 ^ 32 ≡ 2 ^ q.n = rows_shl q.n 32 c.args.good.good.n_high (omega arith) in
    let e : c.loop-b.b ≡ 2 ^ q.n + 1 = omega (arith, c.loop-b-test.false, rows_are) in
    record { stored = refl; text = rw (below_last q c.loop-b.b e) at c.loop-b.invariant.2 }

pub returns-in_err-block : goal.returns-in_err-block
returns-in_err-block c =
    let q = c.args.good.request in
    let good = c.args.good.good in
    let there = block-there q.n c.loop-b.b good.n_high c.loop-b-test.true in
    absurd (never_refused q good c.loop-b.b there c.loop-b.literals c.loop-b.pairs c.loop-b.invariant.0 c.loop-b.invariant.1 _ c.in_err-block.ensures.answer)
