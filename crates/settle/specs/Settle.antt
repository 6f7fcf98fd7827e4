-- What settling says, and what it leaves in the slices that it was lent (document 01, "Settling takes a request with r = k, an answer,
-- a refutation for k−1"). Assumes nothing.
use Rattle.std.specs.Prelude.{◌≡◌, cond, List, [], ◌∷◌, ℕ, ◌-◌, ◌^◌, eqb, ltb, Option, Some, None, Result, Ok, Err, IsOkAnd}
use Rattle.request.specs.declared.Request.{Request}
use Rattle.request.specs.Numbers.{with_switches}
use Rattle.network.specs.declared.Network.{Network}
use Rattle.network.specs.Check.{Checked, first_wrong, checked_of}
use Rattle.network.specs.Value.{zeros}
use Rattle.answer.specs.Reading.{reading_of}
use Rattle.refusal.specs.declared.Refusal.{Refusal}
use Rattle.refusal.specs.Refusal.{number, numbered}
use Rattle.lrat.specs.Outcome.{Outcome}
use Rattle.lrat_check.specs.Refutation.{Lent, check_number, check_answer, check_leaves}
use Rattle.settle.specs.declared.Settlement.{Settlement}
use Rattle.settle.specs.declared.Verdict.{Verdict}
use Rattle.settle.specs.declared.Verdict.TheVariants.{Least, Works, Fails}
pub mod Laws
pub mod Exactly
pub mod Meaning

-- the values of a verdict for a request with r = k: which of the three it is, in the order "least k", "works k number", "fails k row",
-- then k, and the number or the row
abbrev pub said_values : ℕ → Verdict → List ℕ
said_values k Least = 0 ∷ k ∷ []
said_values k (Works e) = 1 ∷ k ∷ number e ∷ []
said_values k (Fails row) = 2 ∷ k ∷ row ∷ []

-- what settling answers: a verdict with the network that it is of, or a refusal
abbrev pub Settling : Type 0
Settling = Result Settlement Refusal

-- document 01's number of it, 0 where it is not a refusal
abbrev pub verdict_number : Settling → ℕ
verdict_number (Ok x) = 0
verdict_number (Err e) = number e

-- and its values for a request with r = k: those of the verdict; "refused number" comes after the three
abbrev pub verdict_values : ℕ → Settling → List ℕ
verdict_values k (Ok x) = said_values k x.verdict
verdict_values k (Err e) = 3 ∷ []

-- "The decoded network comes with each verdict, the network of zeros with a refusal"
abbrev pub settled_network : Settling → Network
settled_network (Ok x) = x.network
settled_network (Err e) = zeros

-- settling says "least"
abbrev pub IsLeast : Settling → Type 0
IsLeast r = IsOkAnd r (λ x. x.verdict ≡ Least)

-- the request that the refutation is for: r is k−1
abbrev pub smaller : Request → Request
smaller q = with_switches q (q.r - 1)

-- "\"works\" with the refutation's number; else \"least\""
abbrev pub outcome_verdict : Outcome → Verdict
outcome_verdict (Ok x) = Least
outcome_verdict (Err e) = Works e

-- the verdict on a network that does the job: "then, for k above 0, \"works\" with the refutation's number; else \"least\""
unfoldable pub verdict_below : Request → List ℕ → Lent → Verdict
verdict_below q refutation s = cond (eqb q.r 0) Least (outcome_verdict (check_answer (smaller q) refutation s).outcome)

-- what the check of the decoded network w leads to, with the verdict v where it does the job: "\"fails\" with the row; then ..".
-- "The decoded network comes with each verdict". The check refuses no decoded network: decoded_rows, in Exactly
abbrev pub judged : Checked → Verdict → Network → Settling
judged (Ok None) v w = Ok (record { verdict = v; network = w })
judged (Ok (Some row)) v w = Ok (record { verdict = Fails row; network = w })
judged (Err e) v w = Err e

-- settling in document 01's numbers: "the answer's refusals". The network check adds none: decoded_rows, in Exactly
unfoldable pub settle_number : Request → List ℕ → ℕ
settle_number q answer = (reading_of q answer).refusal

-- the values where the network does the job: "then, for k above 0, \"works\" with the refutation's number; else \"least\""
unfoldable pub values_below : Request → List ℕ → Lent → List ℕ
values_below q refutation s =
    cond (eqb q.r 0) (0 ∷ q.r ∷ [])
    (cond (eqb (check_number (smaller q) refutation s) 0) (0 ∷ q.r ∷ []) (1 ∷ q.r ∷ check_number (smaller q) refutation s ∷ []))

-- and the values of settling: "\"fails\" with the row", where the network has a wrong one; then those
unfoldable pub settle_values : Request → List ℕ → List ℕ → Lent → List ℕ
settle_values q answer refutation s =
    cond (eqb (settle_number q answer) 0)
    (cond (ltb (first_wrong q (reading_of q answer).network) (2 ^ q.n))
    (2 ∷ q.r ∷ first_wrong q (reading_of q answer).network ∷ [])
    (values_below q refutation s))
    (3 ∷ [])

-- the same as an answer of the program: "the answer's refusals; \"fails\" with the row; then, for k above 0, \"works\" with the refutation's number; else
-- \"least\""
unfoldable pub settlement : Request → List ℕ → List ℕ → Lent → Settling
settlement q answer refutation s =
    cond (eqb (reading_of q answer).refusal 0)
    (judged (checked_of q (reading_of q answer).network) (verdict_below q refutation s) (reading_of q answer).network)
    (Err (numbered (reading_of q answer).refusal))

-- the slices s where the network does the job: "At k = 0 no refutation is read and no work slice touched"; else as the check of the
-- refutation leaves them
unfoldable pub leaves_below : Request → List ℕ → Lent → Lent
leaves_below q refutation s = cond (eqb q.r 0) s (check_leaves (smaller q) refutation s)

-- the slices s by the check of the decoded network: only where it does the job is a refutation read, and l left
abbrev pub slices_after : Checked → Lent → Lent → Lent
slices_after (Ok None) s l = l
slices_after (Ok (Some row)) s l = s
slices_after (Err e) s l = s

-- the slices afterwards: "A refusal of 1 to 15 writes nothing"
unfoldable pub settle_leaves : Request → List ℕ → List ℕ → Lent → Lent
settle_leaves q answer refutation s =
    cond (eqb (reading_of q answer).refusal 0)
    (slices_after (checked_of q (reading_of q answer).network) s (leaves_below q refutation s))
    s
