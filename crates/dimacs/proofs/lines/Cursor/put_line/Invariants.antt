-- `Cursor::put_line` meets its contract: the numbers before the index are written. Assumes nothing.
use Rattle.std.proofs.Common.{take}
use Rattle.text.specs.Text.{numbers_text}
use Rattle.dimacs.specs.Cursor.{Puts}
use Rattle.dimacs.proofs.lines.Cursor.put_line.Given as goal

abbrev pub invariant-loop-literal : goal.invariant-loop-literal
invariant-loop-literal l = Puts l.fn.self (numbers_text (take l.literal-index l.literals)) l.self
