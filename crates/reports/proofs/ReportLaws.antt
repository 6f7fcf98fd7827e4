-- The report by the request's reading and the verdict. Assumes nothing.
use Rattle.std.specs.Prelude.{◌≡◌, List, ℕ, Ok, Err}
use Rattle.std.proofs.Common.{sym, ◌∙◌}
use Rattle.std.proofs.Math.Path.{ap}
use Rattle.refusal.specs.declared.Refusal.{Refusal}
use Rattle.refusal.specs.Refusal.{number}
use Rattle.request.specs.declared.Request.{Request}
use Rattle.request.specs.Line.{Reading, request_of}
use Rattle.lrat_check.specs.Refutation.{Lent}
use Rattle.reports.specs.Reports.{refused_text}
use Rattle.settle.specs.declared.Settlement.{Settlement}
use Rattle.settle.specs.declared.Verdict.{Verdict}
use Rattle.settle.specs.Settle.{Settling, settlement, settle_leaves}
use Rattle.reports.specs.Report.{verdict_text, settled_text, read_text, report_text, read_leaves, report_leaves}

module _ (request answer refutation : List ℕ) (s : Lent) where
  -- a request that is refused
  pub report_refused : (f : Refusal) → Err f ≡ request_of request → refused_text (number f) ≡ report_text request answer refutation s
  unfolding report_text
  report_refused f e = ap (λ (r : Reading). read_text r answer refutation s) e

  -- a request that is settled
  report_answered : (q : Request) → Ok q ≡ request_of request → (x : Settling) → x ≡ settlement q answer refutation s
      → settled_text q.r x ≡ report_text request answer refutation s
  unfolding report_text
  report_answered q e x f = ap (settled_text q.r) f ∙ ap (λ (r : Reading). read_text r answer refutation s) e

  -- to a refusal
  pub report_unsettled : (q : Request) → Ok q ≡ request_of request → (f : Refusal) → Err f ≡ settlement q answer refutation s
      → refused_text (number f) ≡ report_text request answer refutation s
  report_unsettled q e f g = report_answered q e (Err f) g

  -- to a verdict
  pub report_settled : (q : Request) → Ok q ≡ request_of request → (x : Settlement) → Ok x ≡ settlement q answer refutation s
      → (v : Verdict) → x.verdict ≡ v → verdict_text q.r x.network v ≡ report_text request answer refutation s
  report_settled q e x f v g = ap (verdict_text q.r x.network) (sym g) ∙ report_answered q e (Ok x) f

  -- the slices, likewise
  pub leaves_refused : (f : Refusal) → Err f ≡ request_of request → s ≡ report_leaves request answer refutation s
  unfolding report_leaves
  leaves_refused f e = ap (λ (r : Reading). read_leaves r answer refutation s) e

  pub leaves_settled : (q : Request) → Ok q ≡ request_of request → (l : Lent) → l ≡ settle_leaves q answer refutation s
      → l ≡ report_leaves request answer refutation s
  unfolding report_leaves
  leaves_settled q e l f = f ∙ ap (λ (r : Reading). read_leaves r answer refutation s) e
