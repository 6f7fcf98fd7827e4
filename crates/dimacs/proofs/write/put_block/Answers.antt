-- `write::put_block` meets its contract: the lines of the clauses before the index are written. Assumes nothing.
use Rattle.std.proofs.Common.{◌≡◌, ℕ, ◌+◌, ◌-◌, ◌*◌, ◌≤◌, ◌<◌, List, length, get_or, take, drop, ℤ, refl, ap, ◌∙◌, arith, length-append}
use Rattle.dimacs.specs.declared.lines.Cursor.{Cursor}
use Rattle.dimacs.specs.Block.{numbers_line, line_of, block_text}
use Rattle.dimacs.specs.Cursor.{Room, Puts}
use Rattle.dimacs.proofs.BlockLaws.{block_none, block_more, block_room}
use Rattle.dimacs.proofs.CursorLaws.{puts_none, room_after, puts_both}
use Rattle.dimacs.proofs.write.put_block.Goals as goal

-- a range of a list by its start and its length
range_line : (literals : List ℤ) (from count : ℕ) → numbers_line (take (from + count - from) (drop from literals)) ≡ numbers_line (take count (drop from literals))
range_line literals from count = let e : from + count - from ≡ count = omega arith in rw e refl

-- one line more, and room for it
module _ (count : ℕ) (literals : List ℤ) (pairs : List ℕ) (a : Cursor) (i : ℕ) (h : i < count) (room : Room a (length (block_text count literals pairs))) where
  short : length (block_text (i + 1) literals pairs) ≤ length (block_text count literals pairs)
  short =
      let n = ap length (block_more literals pairs i) ∙ length-append (block_text i literals pairs) (line_of literals pairs i) in
      omega (arith, block_room literals pairs count i h)

  module _ {b : Cursor} (put : Puts a (block_text i literals pairs) b) where
    next-room : Room b (length (line_of literals pairs i))
    next-room = room_after (block_text i literals pairs) (line_of literals pairs i) (block_text (i + 1) literals pairs) (block_more literals pairs i) a room short put

    next : {c : Cursor} → Puts b (line_of literals pairs i) c → Puts a (block_text (i + 1) literals pairs) c
    next = puts_both (block_text i literals pairs) (line_of literals pairs i) (block_text (i + 1) literals pairs) (block_more literals pairs i) a room short put

pub loop-k-init : goal.loop-k-init
loop-k-init c = rw (block_none c.args.literals.now c.args.pairs.now) (puts_none c.args.out.now)

pub put_line-requires : goal.put_line-requires
put_line-requires c =
    let a = c.args in
    rw (range_line a.literals.now _ _) (next-room a.count a.literals.now a.pairs.now a.out.now c.loop-k.k c.loop-k-test.true c.requires.room c.loop-k.invariant)

pub loop-k-preserved : goal.loop-k-preserved
loop-k-preserved c =
    let a = c.args in
    next a.count a.literals.now a.pairs.now a.out.now c.loop-k.k c.loop-k-test.true c.requires.room c.loop-k.invariant
    (rw (range_line a.literals.now (get_or a.pairs.now (2 * c.loop-k.k) 0) (get_or a.pairs.now (2 * c.loop-k.k + 1) 0)) at c.put_line.ensures)
