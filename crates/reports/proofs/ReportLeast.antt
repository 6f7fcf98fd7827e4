-- A report that begins with "least" prints the number of switches of the network that it prints, which is least. Assumes nothing.
use Rattle.std.specs.Prelude.{◌≡◌, List, ℕ}
use Rattle.std.proofs.Common.{refl, sym, subst}
use Rattle.request.specs.Line.{request_of}
use Rattle.lrat_check.specs.Refutation.{Lent}
use Rattle.reports.specs.Report.{report_text, BeginsLeast, SaysLeast}
use Rattle.reports.proofs.ReportSays.{read_least}

module _ (request answer refutation : List ℕ) (s : Lent) where
  pub report_least : (text : List ℕ) → text ≡ report_text request answer refutation s → BeginsLeast text → SaysLeast request text
  unfolding report_text
  report_least text e b =
      subst (SaysLeast request) (sym e) (read_least request answer refutation s (request_of request) refl (subst BeginsLeast e b))
