-- `Cursor::put_word` meets its contract: the part of the buffer from the place on is the word. Assumes nothing.
use Rattle.std.proofs.Common.{refl, arith}
use Rattle.prelude.specs.Written.Laws.{wrote_part}
use Rattle.dimacs.proofs.lines.Cursor.put_word.Goals as goal

pub returns : goal.returns
returns c = record {
  same = refl;
  wrote = (refl, wrote_part c.args.self.now.buffer.now c.args.self.now.at _ c.args.word.now c.copy_from_slice.new.self c.copy_from_slice.ensures.after (omega arith));
}
