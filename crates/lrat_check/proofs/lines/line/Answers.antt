-- By what follows the id. Assumes nothing.
use Rattle.std.proofs.Common.{false, refl, sym, ap, ◌∙◌, subst, arith}
use Rattle.std.proofs.lemmas.Result.{err_from_is_err_and}
use Rattle.numeral.specs.Number.{Read}
use Rattle.numeral.specs.Number.Places.{number_small}
use Rattle.numeral.specs.Number.Words.{none_read, number_word}
use Rattle.lrat.specs.Check.{Left}
use Rattle.lrat.specs.Results.{Leaves}
use Rattle.lrat.proofs.CheckLaws.{leaves, step_none, step_open, step_deletion, step_addition}
use Rattle.lrat_check.proofs.WordLaws.{formless}
use Rattle.lrat_check.proofs.lines.line.Goals as goal

pub returns-in_err-id-clause-step : goal.returns-in_err-id-clause-step
returns-in_err-id-clause-step c =
    let e = c.in_err-id.ensures in
    rw (formless (err_from_is_err_and c.from_residual.result c.from_residual.ensures.1) e.value e.ok_part)
    (leaves (step_none _ _ _ _ _ _ _ refl (none_read _ (sym e.ok_part ∙ c.number.ensures))) refl)

pub returns-then-byte-ne32-clause-step : goal.returns-then-byte-ne32-clause-step
returns-then-byte-ne32-clause-step c =
    let w = number_word _ _ false _ (sym c.in_ok-id.ensures.ok_part ∙ c.number.ensures) in
    leaves (step_open _ _ _ _ _ _ _ (sym w.read) w.there (λ z. c.if-byte-ne32.true (c.byte.ensures ∙ z))) refl

pub returns-then-byte-eq100-clause-step : goal.returns-then-byte-eq100-clause-step
returns-then-byte-eq100-clause-step c =
    let w = number_word _ _ false _ (sym c.in_ok-id.ensures.ok_part ∙ c.number.ensures) in
    subst (λ (l : Left). Leaves l c.deletion.result c.deletion.new.added)
    (step_deletion _ _ _ _ _ _ _ (sym w.read) w.there (sym c.byte.ensures ∙ c.if-byte-ne32.false) (sym c.byte-2.ensures ∙ c.if-byte-eq100.true))
    c.deletion.ensures

pub returns-clause-step : goal.returns-clause-step
returns-clause-step c =
    let w = number_word _ _ false _ (sym c.in_ok-id.ensures.ok_part ∙ c.number.ensures) in
    subst (λ (l : Left). Leaves l c.addition.result c.addition.new.added)
    (step_addition _ _ _ _ _ _ _ (sym w.read) w.there (sym c.byte.ensures ∙ c.if-byte-ne32.false) (λ z. c.if-byte-eq100.false (c.byte-2.ensures ∙ z)))
    c.addition.ensures.step

pub addition-requires-clause-id_small : goal.addition-requires-clause-id_small
addition-requires-clause-id_small c =
    let w = number_word _ _ false _ (sym c.in_ok-id.ensures.ok_part ∙ c.number.ensures) in
    omega (arith, number_small c.args.store.text.now c.args.at 0, ap (λ (r : Read). r.value) w.read)
