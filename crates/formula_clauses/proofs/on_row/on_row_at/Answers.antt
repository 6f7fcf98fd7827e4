-- The parts of the row stand one after the other; in each the part's own law holds. Assumes nothing.
use mathlib.Core.Path.{sym, ap, ◌∙◌}
use mathlib.Core.List.{[], ◌∷◌}
use mathlib.Core.Logic.{⊎_elim}
use Prim.Native.Nat.{ℕ, ◌+◌, ◌*◌, ◌≤◌, ◌<◌}
use native.Mathlib.Omega.{arith}
use Rattle.prelude.specs.Tests.{le?}
use Rattle.cnf.specs.Cnf.{pos}
use Rattle.formula.specs.Clause.{run}
use Rattle.formula.specs.Count.{on_row_count}
use Rattle.formula.proofs.ClauseLaws.{run_one}
use Rattle.formula.proofs.FormulaOnRow.{clauses_none, clauses_some, some_at_lem, row_none_at, row_some_at, row_closed_at, row_first_at, row_link_at, row_last_at}
use mathlib.Core.Path.{sym, ap, ◌∙◌}
use mathlib.Core.List.{[], ◌∷◌}
use mathlib.Core.Logic.{⊎_elim}
use Prim.Native.Nat.{ℕ, ◌+◌, ◌*◌, ◌≤◌, ◌<◌}
use native.Mathlib.Omega.{arith}
use Rattle.formula_clauses.proofs.on_row.on_row_at.Goals as goal

-- there are steps where a number is past those of the first
steps : (n r m number : ℕ) → number < on_row_count n r m → m + m * (2 * r * n) + (2 * r + 1) ≤ number → 1 ≤ m
steps n r m number h l =
    ⊎_elim (λ (z : m ≤ 0). let e = clauses_none n r m (omega arith) in absurd (omega arith)) (λ (s : 0 < m). s) (le? m 0)

pub returns-then-m-eq0 : goal.returns-then-m-eq0
returns-then-m-eq0 c = (
  run_one _ ∙ ap (λ (x : ℕ). pos x ∷ []) c.joined.ensures
      ∙ sym (row_none_at _ _ _ _ _ _ c.if-m-eq0.true c.requires),
  λ e. omega arith,
)

pub returns-then-number-m-2 : goal.returns-then-number-m-2
returns-then-number-m-2 c =
    let a = c.args in
    let l = c.if-number-m-2.true in (
      ap (λ (x : ℕ). run x (2 * a.row.r + 1)) c.entered.ensures ∙ sym (row_some_at _ _ _ _ _ (omega arith) _ l ∙ some_at_lem _ _ _ _ l),
      λ e. omega arith,
    )

pub returns-then-past_some-closed : goal.returns-then-past_some-closed
returns-then-past_some-closed c = (
  c.closed_step_at.ensures.0 ∙ sym (row_closed_at _ _ _ _ _ (omega (arith, c.if-m-eq0.false)) _ (omega arith) (omega arith)),
  c.closed_step_at.ensures.1,
)

pub returns-then-number-m : goal.returns-then-number-m
returns-then-number-m c = (
  c.first_step_at.ensures.0 ∙ sym (row_first_at _ _ _ _ _ (omega (arith, c.if-m-eq0.false)) _ (omega arith) (omega arith) (omega arith)),
  c.first_step_at.ensures.1,
)

pub overflow_sub-links : goal.overflow_sub-links
overflow_sub-links c =
    steps _ _ _ _ c.requires c.if-number-m.false

pub returns-then-past_first-links : goal.returns-then-past_first-links
returns-then-past_first-links c =
    let s = steps _ _ _ _ c.requires c.if-number-m.false in (
      c.link_step_at.ensures.0 ∙ sym (row_link_at _ _ _ _ _ s _ (omega arith) (omega arith) (omega arith) (omega arith)),
      c.link_step_at.ensures.1,
    )

pub last_step_at-requires : goal.last_step_at-requires
last_step_at-requires c =
    let s = steps _ _ _ _ c.requires c.if-number-m.false in
    let a = c.args in
    let e = clauses_some a.row.n a.row.r a.row.m s in
    (omega arith, omega (arith, c.requires))

pub returns : goal.returns
returns c =
    let s = steps _ _ _ _ c.requires c.if-number-m.false in (
      c.last_step_at.ensures.0 ∙ sym (row_last_at _ _ _ _ _ s _ (omega arith) (omega arith) (omega arith) (omega arith)),
      c.last_step_at.ensures.1,
    )
