-- By the request's reading, and then by the verdict. Assumes nothing.
use Rattle.reports.proofs.ReportLaws.{report_refused, report_unsettled, report_settled, leaves_refused, leaves_settled}
use Rattle.reports.proofs.ReportLeast.{report_least}
use Rattle.reports.specs.Report.{report_text, report_leaves, BeginsLeast, SaysLeast}
use Rattle.lrat_check.specs.Refutation.{Lent}
use mathlib.Core.Path.{◌≡◌, ◌∙◌}
use mathlib.Core.List.{List}
use Prim.Native.Nat.{ℕ}
use Rattle.reports.proofs.report.Goals as goal

-- a text and slices that are the definition's; what a text that begins with "least" says besides
answered : (request answer refutation : List ℕ) (s : Lent) {text : List ℕ} {l : Lent}
    → text ≡ report_text request answer refutation s → l ≡ report_leaves request answer refutation s
    → (text ≡ report_text request answer refutation s) × ((l ≡ report_leaves request answer refutation s) × (BeginsLeast text → SaysLeast request text))
answered request answer refutation s {text} e f = (e, (f, report_least request answer refutation s text e))

pub returns-in-Err : goal.returns-in-Err
returns-in-Err c = let e = c.in-Err.ensures.answer in
    let p = answered _ _ _ _ (c.refused_text.ensures ∙ report_refused _ _ _ _ _ e) (leaves_refused _ _ _ _ _ e) in
    record { text = p.0; slices = p.1.0; least = p.1.1 }

pub returns-in-Least : goal.returns-in-Least
returns-in-Least c = let e = c.in-Ok.ensures.answer in
    let p = answered _ _ _ _ (c.least_text.ensures ∙ report_settled _ _ _ _ _ e _ c.in-Ok-settle.ensures.settled _ c.in-Least.is) (leaves_settled _ _ _ _ _ e _ c.in-Ok-settle.ensures.slices) in
    record { text = p.0; slices = p.1.0; least = p.1.1 }

pub returns-in-Works : goal.returns-in-Works
returns-in-Works c = let e = c.in-Ok.ensures.answer in
    let p = answered _ _ _ _ (c.works_text.ensures ∙ report_settled _ _ _ _ _ e _ c.in-Ok-settle.ensures.settled _ c.in-Works.is) (leaves_settled _ _ _ _ _ e _ c.in-Ok-settle.ensures.slices) in
    record { text = p.0; slices = p.1.0; least = p.1.1 }

pub returns-in-Fails : goal.returns-in-Fails
returns-in-Fails c = let e = c.in-Ok.ensures.answer in
    let p = answered _ _ _ _ (c.fails_text.ensures ∙ report_settled _ _ _ _ _ e _ c.in-Ok-settle.ensures.settled _ c.in-Fails.is) (leaves_settled _ _ _ _ _ e _ c.in-Ok-settle.ensures.slices) in
    record { text = p.0; slices = p.1.0; least = p.1.1 }

pub returns-in-Err-settle : goal.returns-in-Err-settle
returns-in-Err-settle c = let e = c.in-Ok.ensures.answer in
    let p = answered _ _ _ _ (c.refused_text-in-Err-settle.ensures ∙ report_unsettled _ _ _ _ _ e _ c.in-Err-settle.ensures.settled) (leaves_settled _ _ _ _ _ e _ c.in-Err-settle.ensures.slices) in
    record { text = p.0; slices = p.1.0; least = p.1.1 }
