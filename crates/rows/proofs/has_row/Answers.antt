-- A table has as many bits as there may be rows; below them the shift is the definition. Assumes nothing.
use Rattle.request.specs.Numbers.{rows_most}
use Rattle.rows.proofs.RowsLaws.{bit_none}
use native.Mathlib.Nat.{lt_of_lt_of_le}
use lib.Pow.{pow_mono}
use mathlib.Core.Path.{sym, ◌∙◌}
use borrow.Author.Tests.{le-ltb}
use native.Mathlib.Omega.{arith}
use Rattle.rows.proofs.has_row.Goals as goal

pub returns-else-k-lt-ROWS : goal.returns-else-k-lt-ROWS
returns-else-k-lt-ROWS c =
    le-ltb c.args.k rows_most (omega arith)
    ∙ sym (bit_none c.args.rows c.args.k (lt_of_lt_of_le c.ranges.rows.fits (pow_mono {i = rows_most} (omega arith))))
