-- `Cursor::put` meets its contract: one store. Assumes nothing.
use Rattle.std.proofs.Common.{refl, arith}
use Rattle.prelude.specs.Written.Laws.{wrote_one}
use Rattle.dimacs.proofs.lines.Cursor.put.Goals as goal

pub returns : goal.returns
returns c = record { same = refl; wrote = wrote_one c.args.self.now.buffer.now c.args.self.now.at c.args.byte (omega arith) }
