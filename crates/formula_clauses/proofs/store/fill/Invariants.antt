-- The loop's invariant: the slices have the blocks below b, and `before` is the number of the variables before the row of block b.
-- Assumes nothing.
use mathlib.Core.Path.{◌≡◌}
use Prim.Native.Nat.{◌-◌}
use Rattle.formula.specs.Count.{variables_before}
use Rattle.formula_clauses.specs.Store.Laws.{Below}
use Rattle.formula_clauses.proofs.store.fill.Given as goal

abbrev pub invariant-loop-b : goal.invariant-loop-b
invariant-loop-b l =
    Below l.good.request l.initial.literals l.initial.pairs l.literals l.pairs l.b l.first l.at × (l.before ≡ variables_before l.good.request (l.b - 1))
