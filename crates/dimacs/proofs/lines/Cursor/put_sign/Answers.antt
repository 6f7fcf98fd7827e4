-- `Cursor::put_sign` meets its contract: one byte, or none. Assumes nothing.
use Rattle.std.proofs.Common.{sym, ◌∙◌}
use Rattle.prelude.specs.Signed.Laws.{below_zero_bits}
use Rattle.dimacs.proofs.CursorLaws.{puts_none}
use Rattle.dimacs.proofs.lines.Cursor.put_sign.Goals as goal

pub returns-else-x-lt0 : goal.returns-else-x-lt0
returns-else-x-lt0 c = rw (sym (below_zero_bits c.args.x c.ranges.x) ∙ c.if-x-lt0.false) (puts_none c.args.self.now)
