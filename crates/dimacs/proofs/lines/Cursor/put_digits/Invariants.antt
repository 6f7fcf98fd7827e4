-- `Cursor::put_digits` meets its contract: the last i digits stand, and those before them are the last ones of the rest. Assumes nothing.
use Rattle.std.proofs.Common.{◌≡◌, ◌-◌, ◌++◌, length, drop}
use Rattle.text.specs.Decimal.{padded}
use Rattle.dimacs.proofs.lines.Cursor.put_digits.Given as goal

abbrev pub invariant-loop-i : goal.invariant-loop-i
invariant-loop-i g l =
    (length l.digits ≡ g.row.N) × (padded (g.row.N - l.i) l.rest ++ drop (g.row.N - l.i) l.digits ≡ padded g.row.N l.x)
