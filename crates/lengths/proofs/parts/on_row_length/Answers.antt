-- `parts::on_row_length` meets its contract. Assumes nothing.
use mathlib.Core.Path.{sym, ap, ◌∙◌, subst}
use Prim.Native.Nat.{ℕ, ◌+◌, ◌*◌}
use native.Mathlib.Omega.{arith}
use Rattle.rows.specs.Rows.{literal_on}
use Rattle.formula.specs.Formula.{on_row}
use Rattle.lengths.specs.Lines.{literal_length, lines_length}
use Rattle.lengths.specs.Length.{NetsOf, run_length, steps_length, links_length}
use Rattle.lengths.specs.Length.Laws.{joined_low}
use Rattle.lengths.specs.Length.OnRow.{on_row_none, on_row_size}
use Rattle.lengths.proofs.parts.on_row_length.Goals as goal

pub literal_length-requires : goal.literal_length-requires
literal_length-requires c =
    let r = c.args.row.r in
    let low = joined_low r 0 (2 * r + 1) c.args.row.few.2 (omega arith) (omega arith) (λ e. omega arith) in
    omega (arith, c.joined.ensures, low)

pub returns-then-row-eq0 : goal.returns-then-row-eq0
returns-then-row-eq0 c =
    let a = c.args in
    let e = ap (λ (m : ℕ). lines_length (on_row a.row.n a.row.r m a.row.before (literal_on a.row.n a.row.k))) c.if-row-eq0.true in
    let l = c.literal_length.ensures.0 ∙ ap literal_length c.joined.ensures in
    (omega (arith, e, l, on_row_none a.row.r a.row.before a.row.n a.row.k), omega (arith, c.literal_length.ensures.1))

pub returns : goal.returns
returns c =
    let a = c.args in
    let are = subst (λ (r : ℕ). NetsOf r a.nets.ends a.nets.outer) (sym c.requires) a.nets.are in
    let e = on_row_size a.row.r a.row.before a.row.n a.row.k a.row.m (omega (arith, c.if-row-eq0.false)) in
    let single = c.steps_length-single.ensures.0 ∙ ap (steps_length a.row.n a.row.r a.row.m a.row.before) c.chosen_length-chosen.ensures.0 in
    let double = c.links_length-double.ensures.0 ∙ ap (links_length a.row.r a.row.m a.row.before) are.ends_are in
    let last = c.run_length-last.ensures.0 ∙ ap (λ (x : ℕ). run_length (x + 1) (2 * a.row.r)) c.step_before.ensures.0 in (
      omega (arith, e, single, double, c.run_length-first.ensures.0, last, are.outer_are),
      omega (arith, c.steps_length-single.ensures.1, c.links_length-double.ensures.1, c.run_length-first.ensures.1, c.run_length-last.ensures.1, are.outer_few, c.args.row.few.2),
    )
