-- "least" is said exactly where the answer is taken, the network does the job and nothing smaller is left. Assumes nothing.
use Rattle.std.specs.Prelude.{◌≡◌, refl, List, ◌⊎◌, ◌↔◌, ℕ, Some, None, Result, Ok, Err}
use Rattle.std.proofs.Common.{sym, ap, subst, ◌∙◌, inl, inr, ⊎_elim, arith}
use Rattle.prelude.specs.Tests.{eq?}
use Rattle.request.specs.declared.Request.{Request}
use Rattle.network.specs.declared.Network.{Network}
use Rattle.refusal.specs.declared.Refusal.{Refusal}
use Rattle.refusal.specs.Refusal.{numbered}
use Rattle.network.specs.Check.{Checked, rows_answer, checked_of}
use Rattle.network.proofs.CheckLaws.{checked_rows}
use Rattle.answer.specs.Reading.{reading_of}
use Rattle.answer.proofs.ReadingMeaning.{assignment_in, taken_request, taken_describes, described_fits}
use Rattle.lrat.specs.Outcome.{Outcome}
use Rattle.lrat_check.specs.Refutation.{Lent, check_answer}
use Rattle.settle.specs.declared.Verdict.{Verdict}
use Rattle.settle.specs.declared.Verdict.TheVariants.{Least}
use Rattle.settle.specs.Settle.{Settling, IsLeast, smaller, outcome_verdict, verdict_below, judged, settlement}
use Rattle.settle.specs.Settle.Laws.{settles_refused, settles_judged, below_zero, below_more}

-- ---- what settling says
-- what it says: one of the verdicts, or a refusal
abbrev pub said : Settling → Result Verdict Refusal
said (Ok x) = Ok x.verdict
said (Err e) = Err e

-- ---- the verdict by the check of the network
-- "least" is said only where the network does the job
judged_least : (c : Checked) (v : Verdict) (w : Network) → IsLeast (judged c v w) → (c ≡ Ok None) × (v ≡ Least)
judged_least (Ok None) v w e = (refl, e)
judged_least (Ok (Some row)) v w e = absurd (let z : ◌≡◌ {A = ℕ} 0 1 = cc in omega arith)
judged_least (Err x) v w e = absurd e

-- ---- the verdict by the outcome of the refutation
outcome_least : (o : Outcome) → outcome_verdict o ≡ Least → o ≡ Ok tt
outcome_least (Ok x) e = refl
outcome_least (Err x) e = absurd (let z : ◌≡◌ {A = ℕ} 0 1 = cc in omega arith)

-- ---- the verdict where the network does the job
module _ (q : Request) (refutation : List ℕ) (s : Lent) where
  -- the outcome of the refutation for k−1
  abbrev outcome : Outcome
  outcome = (check_answer (smaller q) refutation s).outcome

  -- k is 0, or the refutation for k−1 ends in "none"
  abbrev pub NoneBelow : Type 0
  NoneBelow = (q.r ≡ 0) ⊎ ((check_answer (smaller q) refutation s).outcome ≡ Ok tt)

  below_least : verdict_below q refutation s ≡ Least → NoneBelow
  below_least e =
      ⊎_elim (λ (z : q.r ≡ 0). inl z) (λ (d : q.r ≡ 0 → ⊥). inr (outcome_least outcome ((below_more q refutation s d).0 ∙ e)))
      (eq? q.r 0)

  least_below : NoneBelow → verdict_below q refutation s ≡ Least
  least_below (inl z) = sym (below_zero q refutation s z).0
  least_below (inr o) =
      ⊎_elim (λ (z : q.r ≡ 0). sym (below_zero q refutation s z).0)
      (λ (d : q.r ≡ 0 → ⊥). sym (below_more q refutation s d).0 ∙ ap outcome_verdict o)
      (eq? q.r 0)

-- the check of a decoded network is answered by its rows
pub decoded_rows : (q : Request) (answer : List ℕ) → (reading_of q answer).refusal ≡ 0
    → Ok (rows_answer q (reading_of q answer).network) ≡ checked_of q (reading_of q answer).network
decoded_rows q answer taken =
    checked_rows q (reading_of q answer).network (taken_request q answer taken)
    (described_fits q (assignment_in q answer) (reading_of q answer).network (taken_describes q answer taken))

-- ---- the verdict "least"
module _ (q : Request) (answer refutation : List ℕ) (s : Lent) where
  -- the network that the answer describes, and the check of it
  abbrev read : Network
  read = (reading_of q answer).network

  abbrev checked : Checked
  checked = checked_of q read

  -- what is said of an answer that is taken
  taken_verdict : (reading_of q answer).refusal ≡ 0
      → said (judged checked (verdict_below q refutation s) read) ≡ said (settlement q answer refutation s)
  taken_verdict z = ap said (settles_judged q answer refutation s z checked refl).says

  -- an answer that is refused
  pub refused_verdict : ((reading_of q answer).refusal ≡ 0 → ⊥) → Err (numbered (reading_of q answer).refusal) ≡ settlement q answer refutation s
  refused_verdict d = (settles_refused q answer refutation s d).says

  -- the settlement, where the check of the network is known
  known : (reading_of q answer).refusal ≡ 0 → (c : Checked) → checked_of q (reading_of q answer).network ≡ c
      → settlement q answer refutation s ≡ judged c (verdict_below q refutation s) read
  known z c e = sym (settles_judged q answer refutation s z c (sym e)).says

  -- the three conditions of "least": the answer is taken, the network check says "does", and k is 0 or the refutation ends in
  -- "none"
  pub record LeastConditions : Type 0 where
    pub taken : (reading_of q answer).refusal ≡ 0
    pub does_job : checked_of q (reading_of q answer).network ≡ Ok None
    pub below : (q.r ≡ 0) ⊎ ((check_answer (smaller q) refutation s).outcome ≡ Ok tt)

  pub least_conditions : IsLeast (settlement q answer refutation s) → LeastConditions
  least_conditions e =
      ⊎_elim
      (λ (z : (reading_of q answer).refusal ≡ 0).
      let j = judged_least checked (verdict_below q refutation s) read (subst IsLeast (known z checked refl) e) in
      record { taken = z; does_job = j.0; below = below_least q refutation s j.1 })
      (λ (d : (reading_of q answer).refusal ≡ 0 → ⊥). absurd (subst IsLeast (sym (refused_verdict d)) e))
      (eq? (reading_of q answer).refusal 0)

  -- where they hold, "least" is said, with the decoded network
  pub conditions_least : LeastConditions → settlement q answer refutation s ≡ Ok (record { verdict = Least; network = (reading_of q answer).network })
  conditions_least t =
      known t.taken (Ok None) t.does_job ∙ ap (λ (v : Verdict). judged (Ok None) v read) (least_below q refutation s t.below)

  -- "least" is said exactly where they hold
  pub least_exactly : IsLeast (settlement q answer refutation s) ↔ LeastConditions
  least_exactly = (least_conditions, λ t. subst IsLeast (sym (conditions_least t)) refl)
