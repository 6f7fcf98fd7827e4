-- A refused request, or what the lines give, judged. Assumes nothing.
use Rattle.std.proofs.Common.{sym, ap, ◌∙◌, Err}
use Rattle.std.proofs.lemmas.Result.{err_from_is_err_and}
use Rattle.refusal.specs.Refusal.{number_of}
use Rattle.formula.proofs.CountLaws.{sizes_refusal}
use Rattle.answer.specs.Reading.{Lines, result_of, read_network, ended}
use Rattle.answer.proofs.ReadingLaws.{result_refused, result_lines, reading_taken, sizes_top, good_most}
use Rattle.answer.proofs.ReadingNumbers.{reading_number, reading_network}
use Rattle.answer_read.proofs.read.read_answer.Goals as goal

pub returns-in_err-size : goal.returns-in_err-size
returns-in_err-size c =
    let p = err_from_is_err_and c.from_residual.result c.from_residual.ensures.1 in
    let e = p.1 ∙ ap Err p.2 ∙ result_refused c.args.q c.args.text.now _ (ap number_of c.in_err-size.ensures.answer ∙ sizes_refusal c.args.q) in
    record { reading = e; number = ap number_of e ∙ reading_number _ _; network = ap read_network e ∙ reading_network _ _ }

pub returns-in_err-good : goal.returns-in_err-good
returns-in_err-good c =
    let r = c.from_residual-in_err-good in
    let p = err_from_is_err_and r.result r.ensures.1 in
    let e = p.1 ∙ ap Err p.2 ∙ result_refused c.args.q c.args.text.now _ c.in_err-good.ensures.number in
    record { reading = e; number = ap number_of e ∙ reading_number _ _; network = ap read_network e ∙ reading_network _ _ }

pub invariant_of-named : goal.invariant_of-named
invariant_of-named c =
    let good = rw c.in_ok-good.ensures.request at c.in_ok-good.good.good in
    record { few = good_most c.args.q _ good c.network_variables-keep.ensures.0 }

pub returns-in_err-progress : goal.returns-in_err-progress
returns-in_err-progress c =
    let r = c.from_residual-in_err-progress in
    let p = err_from_is_err_and r.result r.ensures.1 in
    let z = sizes_top _ _ c.in_ok-size.ensures.answer in
    let e =
    p.1 ∙ ap Err p.2 ∙ result_lines c.args.q _ _ c.in_err-progress.ensures
    ∙ ap result_of (reading_taken c.args.q _ z.0 _ c.network_variables-keep.ensures.0 _ z.1) in
    record { reading = e; number = ap number_of e ∙ reading_number _ _; network = ap read_network e ∙ reading_network _ _ }

pub returns : goal.returns
returns c =
    let z = sizes_top _ _ c.in_ok-size.ensures.answer in
    let e =
    (rw c.in_ok-good.ensures.request at c.judge.ensures)
    ∙ ap (λ (l : Lines). result_of (ended c.args.q l)) (sym c.in_ok-progress.ensures)
    ∙ ap result_of (reading_taken c.args.q _ z.0 _ c.network_variables-keep.ensures.0 _ z.1) in
    record { reading = e; number = ap number_of e ∙ reading_number _ _; network = ap read_network e ∙ reading_network _ _ }
