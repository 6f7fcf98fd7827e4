-- Each way through the code is a case of the definition; the refutation is checked for the request with one switch fewer.
-- Assumes nothing.
use mathlib.Core.Path.{◌≡◌, refl, sym, ap, ◌∙◌}
use mathlib.Core.List.{List}
use Prim.Native.Nat.{ℕ, zero, suc}
use Rattle.std.specs.Prelude.{None, Some, Ok, Err, IfOk}
use Rattle.std.proofs.lemmas.Result.{err_from_is_err_and}
use native.Mathlib.Omega.{arith}
use lib.IntN.{ℤ}
use Rattle.request.specs.declared.Request.{Request}
use Rattle.network.specs.declared.Network.{Network}
use Rattle.network.specs.Check.{Checked, checked_of}
use Rattle.refusal.specs.declared.Refusal.{Refusal}
use Rattle.refusal.specs.Refusal.{numbered, unless}
use Rattle.refusal.specs.Refusal.Laws.{unless-ok}
use Rattle.answer.specs.Reading.{reading_of, result_of}
use Rattle.lrat.specs.declared.Checked.{Checked as Ended}
use Rattle.lrat_check.specs.Refutation.{Lent, lent, check_answer, check_leaves}
use Rattle.settle.specs.declared.Verdict.{Verdict}
use Rattle.settle.specs.declared.Verdict.TheVariants.{Least}
use Rattle.network.specs.Least.{LeastFor}
use Rattle.settle.specs.Settle.{Settling, verdict_number, verdict_values, smaller, outcome_verdict, verdict_below, judged, settle_number, settle_values, settlement, leaves_below, slices_after, settle_leaves}
use Rattle.settle.proofs.SettleNumbers.{settle_number_lem, settle_values_lem}
use Rattle.settle.specs.Settle.Laws.{Settles, settles_refused, settles_judged, below_zero, below_more}
use Rattle.settle.specs.Settle.Meaning.{least_told}
use Rattle.settle.proofs.settle.Goals as goal

module _ (q : Request) (answer refutation : List ℕ) (literals : List ℤ) (pairs added values : List ℕ) where
  abbrev before : Lent
  before = lent literals pairs added values

  -- what is ensured of what settling answers and of the slices
  abbrev Answer : Settling → Lent → Type 0
  Answer x l =
      (x ≡ settlement q answer refutation before)
      × ((l ≡ settle_leaves q answer refutation before) × (IfOk x (λ y. y.verdict ≡ Least → LeastFor q y.network)
      × ((verdict_number x ≡ settle_number q answer)
      × (verdict_values q.r x ≡ settle_values q answer refutation before))))

  answered : (x : Settling) (l : Lent) → Settles q answer refutation before x l → Answer x l
  answered x l s = (
    s.says,
    (
      s.leaves,
      (
        least_told q answer refutation before x s.says,
        (
          ap verdict_number s.says ∙ settle_number_lem q answer refutation before,
          ap (verdict_values q.r) s.says ∙ settle_values_lem q answer refutation before,
        ),
      ),
    ),
  )

  -- a reading that refuses
  is-refused : (f : Refusal) → Err f ≡ result_of (reading_of q answer) → (x : Settling) → x ≡ Err f → Answer x before
  is-refused f g x e =
      let r = refused_by f g in
      let s = settles_refused q answer refutation before r.0 in
      answered x before (record { says = e ∙ ap Err r.1 ∙ s.says; leaves = s.leaves })
    where
      refused_by : (f : Refusal) → Err f ≡ result_of (reading_of q answer) → ((reading_of q answer).refusal ≡ 0 → ⊥) × (f ≡ numbered (reading_of q answer).refusal)
      refused_by f g = go (reading_of q answer).refusal (reading_of q answer).network g
        where
          go : (k : ℕ) (w : Network) → Err f ≡ unless k w → (k ≡ 0 → ⊥) × (f ≡ numbered k)
          go zero w h = absurd (cc)
          go (suc k) w h = (λ z. omega arith, cc)

  -- what the reading gave
  module _ (w : Network) (w-is : Ok w ≡ result_of (reading_of q answer)) where
    read-ok : ((reading_of q answer).refusal ≡ 0) × (w ≡ (reading_of q answer).network)
    read-ok = let r = unless-ok (reading_of q answer).refusal (reading_of q answer).network w (sym w-is) in (r.0, sym r.1)

    -- what the check of its network gave
    module _ (c : Checked) (c-is : c ≡ checked_of q w) where
      is-judged : (x : Settling) (l : Lent) (k : Checked) → c ≡ k → x ≡ judged k (verdict_below q refutation before) w
          → l ≡ slices_after k before (leaves_below q refutation before) → Answer x l
      is-judged x l k e f g =
          let s = settles_judged q answer refutation before read-ok.0 k (sym e ∙ c-is ∙ ap (checked_of q) read-ok.1) in
          answered x l (record { says = f ∙ ap (judged k (verdict_below q refutation before)) read-ok.1 ∙ s.says; leaves = g ∙ s.leaves })

      is_zero : c ≡ Ok None → q.r ≡ 0 → (x : Settling) → x ≡ Ok (record { verdict = Least; network = w }) → Answer x before
      is_zero e z x f =
          let b = below_zero q refutation before z in
          is-judged x before (Ok None) e (f ∙ ap (λ (v : Verdict). judged (Ok None) v w) b.0) b.1

      -- the check of the refutation
      is-more : c ≡ Ok None → (q.r ≡ 0 → ⊥) → (p : Request) → p ≡ smaller q
          → (t : Ended) → t ≡ check_answer p refutation before → (l : Lent) → l ≡ check_leaves p refutation before
          → (v : Verdict) → v ≡ outcome_verdict t.outcome
          → (x : Settling) → x ≡ Ok (record { verdict = v; network = w }) → Answer x l
      is-more e h p p-is t t-is l l-is v v-is x f =
          let b = below_more q refutation before h in
          let o = t-is ∙ ap (λ (y : Request). check_answer y refutation before) p-is in
          is-judged x l (Ok None) e
          (f ∙ ap (λ (u : Verdict). judged (Ok None) u w) (v-is ∙ ap (λ (y : Ended). outcome_verdict y.outcome) o ∙ b.0))
          (l-is ∙ ap (λ (y : Request). check_leaves y refutation before) p-is ∙ b.1)

pub returns-in_err-network : goal.returns-in_err-network
returns-in_err-network c =
    let e = err_from_is_err_and c.from_residual.result c.from_residual.ensures.1 in
    let p = is-refused c.args.q c.args.answer.now c.args.refutation.now c.args.literals.now c.args.pairs.now
    c.args.added.now c.args.values.now _ c.in_err-network.ensures.reading _ (e.1 ∙ ap Err e.2) in
    record { settled = p.0; slices = p.1.0; least = p.1.1.0; number = p.1.1.1.0; values = p.1.1.1.1 }

pub returns-in_err-row : goal.returns-in_err-row
returns-in_err-row c =
    let r = c.from_residual-in_err-row in
    let e = err_from_is_err_and r.result r.ensures.1 in
    let p = is-judged c.args.q c.args.answer.now c.args.refutation.now c.args.literals.now c.args.pairs.now
    c.args.added.now c.args.values.now _ c.in_ok-network.ensures.reading _ c.in_err-row.ensures.answer
    _ _ _ refl (e.1 ∙ ap Err e.2) refl in
    record { settled = p.0; slices = p.1.0; least = p.1.1.0; number = p.1.1.1.0; values = p.1.1.1.1 }

pub returns-in-Some : goal.returns-in-Some
returns-in-Some c =
    let p = is-judged c.args.q c.args.answer.now c.args.refutation.now c.args.literals.now c.args.pairs.now
    c.args.added.now c.args.values.now _ c.in_ok-network.ensures.reading _ c.in_ok-row.ensures.answer
    _ _ (Ok (Some c.in-Some.row)) (ap Ok c.in-Some.is) refl refl in
    record { settled = p.0; slices = p.1.0; least = p.1.1.0; number = p.1.1.1.0; values = p.1.1.1.1 }

pub returns-in-None : goal.returns-in-None
returns-in-None c =
    let p = is_zero c.args.q c.args.answer.now c.args.refutation.now c.args.literals.now c.args.pairs.now
    c.args.added.now c.args.values.now _ c.in_ok-network.ensures.reading _ c.in_ok-row.ensures.answer
    (ap Ok c.in-None.is) (omega (arith, c.if-q-eq0.true)) _ refl in
    record { settled = p.0; slices = p.1.0; least = p.1.1.0; number = p.1.1.1.0; values = p.1.1.1.1 }

pub returns-in-None-2 : goal.returns-in-None-2
returns-in-None-2 c =
    let p = is-more c.args.q c.args.answer.now c.args.refutation.now c.args.literals.now c.args.pairs.now
    c.args.added.now c.args.values.now _ c.in_ok-network.ensures.reading _ c.in_ok-row.ensures.answer
    (ap Ok c.in-None-2.is) (λ z. omega (arith, c.if-q-eq0.false))
    _ c.one_fewer.ensures _ c.check-below.ensures.answer _ c.check-below.ensures.slices _ c.verdict_of-verdict.ensures _ refl in
    record { settled = p.0; slices = p.1.0; least = p.1.1.0; number = p.1.1.1.0; values = p.1.1.1.1 }
