-- What the report prints for the bytes of three files. Assumes nothing.
use Rattle.std.specs.Prelude.{◌≡◌, List, [], ◌∷◌, ℕ, take, Ok, Err}
use Rattle.refusal.specs.Refusal.{number}
use Rattle.request.specs.declared.Request.{Request}
use Rattle.request.specs.Line.{Reading, request_of}
use Rattle.lrat_check.specs.Refutation.{Lent}
use Rattle.reports.specs.Reports.{refused_text, fails_text, works_text, least_text}
use Rattle.settle.specs.declared.Verdict.{Verdict}
use Rattle.settle.specs.declared.Verdict.TheVariants.{Least, Works, Fails}
use Rattle.settle.specs.Settle.{Settling, settlement, settle_leaves}
use Rattle.network.specs.declared.Network.{Network}
use Rattle.network.specs.Least.{LeastFor}

-- "It prints \"least k\", \"works k number\", \"fails k row\" or \"refused number\"; after the first two, a line \"s v a b\" per switch ..
-- and \"sink c\"": of a verdict,
abbrev pub verdict_text : ℕ → Network → Verdict → List ℕ
verdict_text k w Least = least_text k w
verdict_text k w (Works e) = works_text k (number e) w
verdict_text k w (Fails row) = fails_text k row

-- and of what settling answers
abbrev pub settled_text : ℕ → Settling → List ℕ
settled_text k (Ok x) = verdict_text k x.network x.verdict
settled_text k (Err e) = refused_text (number e)

-- a request that is read is settled; one that is refused is "refused number" too
abbrev pub read_text : Reading → List ℕ → List ℕ → Lent → List ℕ
read_text (Ok q) answer refutation s = settled_text q.r (settlement q answer refutation s)
read_text (Err e) answer refutation s = refused_text (number e)

unfoldable pub report_text : List ℕ → List ℕ → List ℕ → Lent → List ℕ
report_text request answer refutation s = read_text (request_of request) answer refutation s

-- the slices afterwards: as settling leaves them, and untouched where the request is refused
abbrev pub read_leaves : Reading → List ℕ → List ℕ → Lent → Lent
read_leaves (Ok q) answer refutation s = settle_leaves q answer refutation s
read_leaves (Err e) answer refutation s = s

unfoldable pub report_leaves : List ℕ → List ℕ → List ℕ → Lent → Lent
report_leaves request answer refutation s = read_leaves (request_of request) answer refutation s

-- a text begins with "least"
abbrev pub BeginsLeast : List ℕ → Type 0
BeginsLeast text = take 5 text ≡ 108 ∷ 101 ∷ 97 ∷ 115 ∷ 116 ∷ []

-- what such a text says: its number is that of the network's switches, the lines after it are the network's, and the network is least
-- for the request that was read
pub record SaysLeast (request text : List ℕ) : Type 0 where
  pub asked : Request
  pub taken : request_of request ≡ Ok asked
  pub network : Network
  pub text_is : text ≡ least_text network.r network
  pub least : LeastFor asked network
