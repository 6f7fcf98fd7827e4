-- `Cursor::put_line` meets its contract: the numbers before the index are written. Assumes nothing.
use Rattle.std.proofs.Common.{◌≡◌, ℕ, ◌+◌, ◌≤◌, ◌<◌, List, [], ◌∷◌, length, get_or, take, ℤ, pos, to_z, of_z, arith, rules}
use Rattle.std.proofs.Math.Seq.{take_all}
use Rattle.std.specs.Int.{w32}
use Rattle.text.specs.Text.{number_text, numbers_text}
use Rattle.text.specs.Text.Laws.{numbers_none, numbers_more, numbers_room}
use Rattle.dimacs.specs.declared.lines.Cursor.{Cursor}
use Rattle.dimacs.specs.Block.{numbers_line}
use Rattle.dimacs.specs.Cursor.{Room, Puts}
use Rattle.dimacs.proofs.BlockLaws.{line_parts, line_size}
use Rattle.dimacs.proofs.CursorLaws.{puts_none, room_after, puts_both}
use Rattle.dimacs.proofs.lines.Cursor.put_line.Goals as goal

-- one number more, and room for it
module _ (xs : List ℤ) (a : Cursor) (i : ℕ) (h : i < length xs) (room : Room a (length (numbers_line xs))) where
  short : length (numbers_text (take (i + 1) xs)) ≤ length (numbers_line xs)
  short = omega (arith, numbers_room xs (i + 1), line_size xs)

  module _ {b : Cursor} (put : Puts a (numbers_text (take i xs)) b) where
    next-room : Room b (length (number_text (get_or xs i (pos 0))))
    next-room = room_after (numbers_text (take i xs)) (number_text (get_or xs i (pos 0))) (numbers_text (take (i + 1) xs)) (numbers_more xs i h) a room short put

    next : {c : Cursor} → Puts b (number_text (get_or xs i (pos 0))) c → Puts a (numbers_text (take (i + 1) xs)) c
    next = puts_both (numbers_text (take i xs)) (number_text (get_or xs i (pos 0))) (numbers_text (take (i + 1) xs)) (numbers_more xs i h) a room short put

pub loop-literal-init : goal.loop-literal-init
loop-literal-init c = rw numbers_none (puts_none c.args.self.now)

pub put_literal-requires : goal.put_literal-requires
put_literal-requires c =
    let here : ℤ = get_or c.args.literals.now c.loop-literal.literal-index (pos 0) in
    let read : to_z w32 (of_z w32 here) ≡ here = search rules in
    rw read (next-room c.args.literals.now c.args.self.now c.loop-literal.literal-index (omega arith) c.requires c.loop-literal.invariant)

pub loop-literal-preserved : goal.loop-literal-preserved
loop-literal-preserved c =
    let here : ℤ = get_or c.args.literals.now c.loop-literal.literal-index (pos 0) in
    let read : to_z w32 (of_z w32 here) ≡ here = search rules in
    next c.args.literals.now c.args.self.now c.loop-literal.literal-index (omega arith) c.requires c.loop-literal.invariant (rw read at c.put_literal.ensures)

pub put_word-requires : goal.put_word-requires
put_word-requires c =
    let xs = c.args.literals.now in
    let e = take_all c.loop-literal.literal-index xs (omega arith) in
    room_after (numbers_text xs) (48 ∷ 10 ∷ []) (numbers_line xs) (line_parts xs) c.args.self.now c.requires (omega arith) (rw e at c.loop-literal.invariant)

pub returns : goal.returns
returns c =
    let xs = c.args.literals.now in
    let e = take_all c.loop-literal.literal-index xs (omega arith) in
    puts_both (numbers_text xs) (48 ∷ 10 ∷ []) (numbers_line xs) (line_parts xs) c.args.self.now c.requires (omega arith) (rw e at c.loop-literal.invariant) c.put_word.ensures
