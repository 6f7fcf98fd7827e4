-- `Cursor::put_decimal` meets its contract: four digits at a time, after the digits before them. Assumes nothing.
use Rattle.std.proofs.Common.{ℕ, ◌/◌, ◌%◌, ◌≤◌, length, arith}
use Rattle.text.specs.Decimal.{decimal, padded}
use Rattle.text.specs.Decimal.Laws.{decimal_padded_more}
use Rattle.dimacs.specs.declared.lines.Cursor.{Cursor}
use Rattle.dimacs.specs.Cursor.{Room, Puts}
use Rattle.dimacs.proofs.CursorLaws.{room_before, room_after, puts_both}
use Rattle.dimacs.proofs.lines.Cursor.put_decimal.Goals as goal
use Rattle.dimacs.proofs.lines.Cursor.put_decimal.Goals.{then-high-lt10000, else-high-lt10000}

module _ (x : ℕ) (h : 10000 ≤ x) (a : Cursor) (room : Room a (length (decimal x))) where
  -- room for the digits before the last four, and for these
  high-room : Room a (length (decimal (x / 10000)))
  high-room = room_before (decimal (x / 10000)) (padded 4 (x % 10000)) (decimal x) (decimal_padded_more x h) a room (omega arith)

  four-room : {b : Cursor} → Puts a (decimal (x / 10000)) b → Room b 4
  four-room = room_after (decimal (x / 10000)) (padded 4 (x % 10000)) (decimal x) (decimal_padded_more x h) a room (omega arith)

  -- the four after the others
  four : {b c : Cursor} → Puts a (decimal (x / 10000)) b → Puts b (padded 4 (x % 10000)) c → Puts a (decimal x) c
  four = puts_both (decimal (x / 10000)) (padded 4 (x % 10000)) (decimal x) (decimal_padded_more x h) a room (omega arith)

pub put_small-requires-then-high-lt10000 : goal.put_small-requires-then-high-lt10000
put_small-requires-then-high-lt10000 c = (omega arith, high-room c.args.x (omega arith) c.args.self.now c.requires)

pub put_small-requires-else-high-lt10000 : goal.put_small-requires-else-high-lt10000
put_small-requires-else-high-lt10000 c =
    let x = c.args.x in
    (omega arith, high-room (x / 10000) (omega arith) c.args.self.now (high-room x (omega arith) c.args.self.now c.requires))

pub put_digits-requires : goal.put_digits-requires
put_digits-requires c =
    let x = c.args.x in
    four-room (x / 10000) (omega arith) c.args.self.now (high-room x (omega arith) c.args.self.now c.requires) c.put_small-else-high-lt10000.ensures

pub put_digits-requires-2 : goal.put_digits-requires-2
put_digits-requires-2 c =
    let x = c.args.x in
    let a : Cursor = c.args.self.now in
    let h : 10000 ≤ x = omega arith in
    elim c.if-high-lt10000.branch [
      | then-high-lt10000 w ↦ four-room x h a c.requires {b = c.if-high-lt10000.self} (rw w.self-is w.put_small-then-high-lt10000.ensures)
      | else-high-lt10000 w ↦ four-room x h a c.requires {b = c.if-high-lt10000.self} (rw w.self-is (four (x / 10000) (omega arith) a (high-room x h a c.requires) w.put_small-else-high-lt10000.ensures w.put_digits.ensures))
    ]

pub returns : goal.returns
returns c =
    let x = c.args.x in
    let a : Cursor = c.args.self.now in
    let h : 10000 ≤ x = omega arith in
    elim c.if-high-lt10000.branch [
      | then-high-lt10000 w ↦ four x h a c.requires (rw w.self-is w.put_small-then-high-lt10000.ensures) c.put_digits-2.ensures
      | else-high-lt10000 w ↦ four x h a c.requires (rw w.self-is (four (x / 10000) (omega arith) a (high-room x h a c.requires) w.put_small-else-high-lt10000.ensures w.put_digits.ensures)) c.put_digits-2.ensures
    ]
