-- `body_length` meets its contract. The invariant: the total is the length of the lines of groups 1 and 2 and of the rows below k,
-- and `before` is the number of the variables before row k. Assumes nothing.
use mathlib.Core.Path.{◌≡◌}
use Prim.Native.Nat.{◌+◌, ◌*◌, ◌≤◌}
use Rattle.formula.specs.Count.{variables_before}
use Rattle.formula_clauses.specs.Block.{blocks_below}
use Rattle.lengths.specs.Lines.{lines_length}
use Rattle.lengths.proofs.body_length.Given as goal

abbrev pub invariant-loop-k : goal.invariant-loop-k
invariant-loop-k l =
    (l.before ≡ variables_before l.nets.good.request l.k) × (l.total ≡ lines_length (blocks_below l.nets.good.request (l.k + 1))) × (l.total ≤ 900000000 + 400000 * l.k)
