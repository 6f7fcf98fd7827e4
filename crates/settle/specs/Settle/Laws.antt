-- Settling by its tests: each verdict, with the network and the slices that go with it. Assumes nothing.
use Rattle.std.specs.Prelude.{◌≡◌, List, ℕ, Err}
use borrow.Author.Tests.{eq-eqb, ne_eqb}
use Rattle.request.specs.declared.Request.{Request}
use Rattle.network.specs.declared.Network.{Network}
use Rattle.refusal.specs.Refusal.{numbered}
use Rattle.network.specs.Check.{Checked, checked_of}
use Rattle.answer.specs.Reading.{reading_of}
use Rattle.lrat_check.specs.Refutation.{Lent, check_answer, check_leaves}
use Rattle.settle.specs.declared.Verdict.TheVariants.{Least}
use Rattle.settle.specs.Settle.{Settling, smaller, outcome_verdict, verdict_below, judged, settlement, leaves_below, slices_after, settle_leaves}

module _ (q : Request) (refutation : List ℕ) (s : Lent) where
  -- the verdict and the slices where the network does the job, at k = 0
  pub below_zero : q.r ≡ 0 → (Least ≡ verdict_below q refutation s) × (s ≡ leaves_below q refutation s)
  unfolding verdict_below leaves_below
  below_zero z = let n = eq-eqb q.r 0 z in (rw n, rw n)

  -- and at k above 0
  pub below_more : (q.r ≡ 0 → ⊥) → (outcome_verdict (check_answer (smaller q) refutation s).outcome ≡ verdict_below q refutation s)
      × (check_leaves (smaller q) refutation s ≡ leaves_below q refutation s)
  unfolding verdict_below leaves_below
  below_more d = let n = ne_eqb q.r 0 d in (rw n, rw n)

module _ (q : Request) (answer refutation : List ℕ) (s : Lent) where
  -- the network that the answer describes
  abbrev read : Network
  read = (reading_of q answer).network

  -- what settling says and leaves
  pub record Settles (x : Settling) (l : Lent) : Type 0 where
    pub says : x ≡ settlement q answer refutation s
    pub leaves : l ≡ settle_leaves q answer refutation s

  -- a refused answer
  pub settles_refused : ((reading_of q answer).refusal ≡ 0 → ⊥) → Settles (Err (numbered (reading_of q answer).refusal)) s
  unfolding settlement settle_leaves
  settles_refused d = let n = ne_eqb (reading_of q answer).refusal 0 d in record { says = rw n; leaves = rw n }

  module _ (taken : (reading_of q answer).refusal ≡ 0) where
    -- an answer that is taken, by the check of its network
    pub settles_judged : (c : Checked) → c ≡ checked_of q read
        → Settles (judged c (verdict_below q refutation s) read) (slices_after c s (leaves_below q refutation s))
    unfolding settlement settle_leaves
    settles_judged c e = let n = eq-eqb (reading_of q answer).refusal 0 taken in record { says = rw (n, e); leaves = rw (n, e) }
