-- `lines_length` meets its contract: a refused request has no lines. Assumes nothing.
use Rattle.std.proofs.Common.{ap, sym, ◌∙◌}
use Rattle.request.specs.declared.Request.{Request}
use Rattle.request.specs.declared.numbers.GoodRequest.{GoodRequest}
use Rattle.formula.specs.Formula.{formula_of}
use Rattle.refusal.specs.Refusal.Laws.{number_some}
use Rattle.lengths.specs.Lines.{lines_length}
use Rattle.lengths.specs.Length.Laws.{request_refused_lem, request_taken}
use Rattle.lengths.proofs.lines_length.Goals as goal

pub returns-in-Ok : goal.returns-in-Ok
returns-in-Ok c =
    c.body_length.ensures ∙ ap (λ (g : GoodRequest). lines_length (formula_of g.request)) c.nets_of.ensures ∙ ap (λ (q : Request). lines_length (formula_of q)) c.in-Ok.ensures.request ∙ request_taken c.args.q (sym c.in-Ok.ensures.number)

pub returns-in-Err : goal.returns-in-Err
returns-in-Err c = request_refused_lem c.args.q c.in-Err.ensures.number (number_some c.in-Err.field-0)
