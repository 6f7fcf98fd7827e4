-- The clauses below `low` are no more than the number, and those below `high` are more. Assumes nothing.
use Rattle.std.proofs.Common.{◌-◌, ◌≤◌, ◌<◌}
use Rattle.formula.specs.Count.{split}
use Rattle.formula_clauses.proofs.number.row_of.Given as goal

abbrev pub invariant-loop-low : goal.invariant-loop-low
invariant-loop-low l =
    (l.low < l.high) × (l.high ≤ l.rows) × (split l.good.request l.on l.off l.low ≤ l.number) × (l.number < split l.good.request l.on l.off l.high)

abbrev pub decreases-loop-low : goal.decreases-loop-low
decreases-loop-low l = l.high - l.low
