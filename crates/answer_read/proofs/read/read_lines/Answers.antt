-- What is left of the lines gives what all of them give. Assumes nothing.
use Rattle.std.proofs.Common.{length, refl, sym, ap, ◌∙◌, subst, Err, arith}
use Rattle.std.proofs.lemmas.Result.{err_from_is_err_and}
use Rattle.answer.specs.Reading.{LinesBy}
use Rattle.answer.proofs.ReadingLaws.{left_none, left_refused, left_more}
use Rattle.answer_read.proofs.read.read_lines.Goals as goal

pub loop-at-init : goal.loop-at-init
loop-at-init c = (length c.args.text.now, omega arith, refl)

pub returns-in_err-at : goal.returns-in_err-at
returns-in_err-at c =
    let p = err_from_is_err_and c.from_residual.result c.from_residual.ensures.1 in
    subst (LinesBy _) (sym (p.1 ∙ ap Err p.2))
    (left_refused _ _ _ c.loop-at.at c.loop-at.progress c.loop-at-test.true c.loop-at.invariant _ c.in_err-at.ensures.step)

pub loop-at-preserved : goal.loop-at-preserved
loop-at-preserved c =
    left_more _ _ _ c.loop-at.at c.loop-at.progress c.loop-at-test.true c.loop-at.invariant _ _ c.in_ok-at.ensures.further c.in_ok-at.ensures.step

pub returns : goal.returns
returns c = left_none _ _ _ c.loop-at.at c.loop-at.progress c.loop-at-test.false c.loop-at.invariant
