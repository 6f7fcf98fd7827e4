-- The invariant: Going, all lines end as those that are left do; and every byte is below the stamp. Assumes nothing.
use Rattle.std.proofs.Common.{ℕ, ◌+◌, refl, sym, ◌∙◌, subst, arith}
use Rattle.std.proofs.lemmas.Result.{err_from_is_err_and}
use Rattle.lrat.specs.Bytes.{BeforeLine, zeros}
use Rattle.lrat.specs.Bytes.Laws.{during_before, zeros_before}
use Rattle.lrat.specs.State.{AddedInText}
use Rattle.lrat.proofs.StateLaws.{formula_in_length}
use Rattle.lrat.proofs.CheckLaws.{going_start, lines_none, lines_refused, lines_on, lines_over}
use Rattle.lrat_check.proofs.lines.follow.Goals as goal

pub loop-at-init : goal.loop-at-init
loop-at-init c = (rw c.requires.none_added (going_start _ _ _ _), c.requires.values_len, c.requires.before_line, omega arith)

pub returns-in_err-step : goal.returns-in_err-step
returns-in_err-step c =
    let p = err_from_is_err_and c.from_residual.result c.from_residual.ensures.1 in
    rw (p.1, p.2) (lines_refused c.loop-at.invariant.0 c.loop-at-test.true _ refl _ _ c.in_err-step.ensures.step)

pub returns-in_default : goal.returns-in_default
returns-in_default c =
    lines_none c.loop-at.invariant.0 c.loop-at-test.true _ refl _ (rw c.in_default.is at c.in_ok-step.ensures.step)

pub overflow_cast-count-in-loop-at : goal.overflow_cast-count-in-loop-at
overflow_cast-count-in-loop-at c =
    let s = rw c.in-Some.is at c.in_ok-step.ensures.step in
    let g = lines_on c.loop-at.invariant.0 c.loop-at-test.true _ refl _ _ s c.line.auto.added in omega (arith, g.0.few, g.2, c.args.store.text_fits)

pub loop-at-smaller-then-stamp-gt-LAST_STAMP : goal.loop-at-smaller-then-stamp-gt-LAST_STAMP
loop-at-smaller-then-stamp-gt-LAST_STAMP c =
    let s = rw c.in-Some.is at c.in_ok-step.ensures.step in
    let g = lines_on c.loop-at.invariant.0 c.loop-at-test.true _ refl _ _ s c.line.auto.added in omega (arith, g.1, g.2)

pub loop-at-preserved-then-stamp-gt-LAST_STAMP : goal.loop-at-preserved-then-stamp-gt-LAST_STAMP
unfolding zeros
loop-at-preserved-then-stamp-gt-LAST_STAMP c =
    let s = rw c.in-Some.is at c.in_ok-step.ensures.step in
    let g = lines_on c.loop-at.invariant.0 c.loop-at-test.true _ refl _ _ s c.line.auto.added in
    let f = c.fill.ensures.after (λ y e. e) in
    (g.0, c.fill.ensures.len ∙ c.line.auto.values ∙ c.loop-at.invariant.1, subst (BeforeLine 1) (sym f) (zeros_before _), omega arith)

pub loop-at-smaller : goal.loop-at-smaller
loop-at-smaller c =
    let s = rw c.in-Some.is at c.in_ok-step.ensures.step in
    let g = lines_on c.loop-at.invariant.0 c.loop-at-test.true _ refl _ _ s c.line.auto.added in omega (arith, g.1, g.2)

pub loop-at-preserved : goal.loop-at-preserved
loop-at-preserved c =
    let s = rw c.in-Some.is at c.in_ok-step.ensures.step in
    let g = lines_on c.loop-at.invariant.0 c.loop-at-test.true _ refl _ _ s c.line.auto.added in
    (g.0, c.line.auto.values ∙ c.loop-at.invariant.1, during_before _ _ c.line.ensures.bytes, omega (arith, c.if-stamp-gt-LAST_STAMP.false))

pub returns : goal.returns
returns c = lines_over c.loop-at.invariant.0 c.loop-at-test.false

pub line-requires-clause-additions : goal.line-requires-clause-additions
line-requires-clause-additions c =
    let s = c.args.store in
    subst (λ (n : ℕ). AddedInText n s.text.now c.loop-at.count c.loop-at.added (s.variables + 1)) (formula_in_length s.count s.literals.now s.pairs.now) c.loop-at.invariant.0.additions
