-- `write::put_body` meets its contract: the lines of the blocks before the index are written. Assumes nothing.
use Rattle.std.proofs.Common.{◌≡◌, ◌*◌, length}
use Rattle.formula_clauses.specs.Block.{blocks_below}
use Rattle.dimacs.specs.File.{body_text}
use Rattle.dimacs.specs.Block.{literals_room, clauses_room}
use Rattle.dimacs.specs.Cursor.{Puts}
use Rattle.dimacs.proofs.write.put_body.Given as goal

abbrev pub invariant-loop-b : goal.invariant-loop-b
invariant-loop-b l =
    (literals_room ≡ length l.literals) × (2 * clauses_room ≡ length l.pairs) × Puts l.fn.out (body_text (blocks_below l.q l.b)) l.out
