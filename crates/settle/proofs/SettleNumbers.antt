-- Settling by document 01's numbers and values. Assumes nothing.
use Rattle.std.specs.Prelude.{◌≡◌, refl, Bool, true, false, List, [], ◌∷◌, ℕ, ◌^◌, eqb, ltb, Some, None, Ok, Err}
use Rattle.std.proofs.Math.Path.{sym, ap, ap₂}
use Rattle.std.proofs.Common.{◌∙◌, arith, eq-eqb, ne_eqb}
use Rattle.std.proofs.Math.Bool.{cond}
use Rattle.std.proofs.Math.Logic.{⊎_elim}
use Rattle.prelude.specs.Tests.{eq?}
use Rattle.request.specs.declared.Request.{Request}
use Rattle.network.specs.declared.Network.{Network}
use Rattle.refusal.specs.declared.Refusal.{Refusal}
use Rattle.refusal.specs.Refusal.{number, numbered}
use Rattle.refusal.specs.Refusal.Laws.{numbered_number, number_some, numbered_back}
use Rattle.network.specs.Check.{first_wrong, rows_answer}
use Rattle.answer.specs.Reading.{reading_of}
use Rattle.answer.proofs.ReadingNumbers.{reading_numbered}
use Rattle.lrat.specs.Outcome.{Outcome, outcome_number}
use Rattle.lrat_check.specs.Refutation.{Lent, check_answer}
use Rattle.lrat_check.specs.Refutation.Laws.{answer_number}
use Rattle.settle.specs.declared.Verdict.{Verdict}
use Rattle.settle.specs.declared.Verdict.TheVariants.{Least, Works, Fails}
use Rattle.settle.specs.Settle.{Settling, verdict_number, said_values, verdict_values, settled_network, smaller, outcome_verdict, verdict_below, judged, settle_number, values_below, settle_values, settlement}
use Rattle.settle.specs.Settle.Laws.{settles_judged}
use Rattle.settle.specs.Settle.Exactly.{said, decoded_rows, refused_verdict}

-- the verdict that a refutation leads to is no refusal
outcome_zero : (o : Outcome) (w : Network) → verdict_number (judged (Ok None) (outcome_verdict o) w) ≡ 0
outcome_zero (Ok x) w = refl
outcome_zero (Err e) w = refl

-- and its values
outcome_values : (k : ℕ) (o : Outcome)
    → said_values k (outcome_verdict o) ≡ cond (eqb (outcome_number o) 0) (0 ∷ k ∷ []) (1 ∷ k ∷ outcome_number o ∷ [])
outcome_values k (Ok x) = refl
outcome_values k (Err e) = rw (ne_eqb (number e) 0 (number_some e))

-- the number and the values by the rows of a network: a verdict is no refusal
rows_zero : (b : Bool) (row : ℕ) (v : Verdict) (w : Network) → verdict_number (judged (Ok (cond b (Some row) None)) v w) ≡ 0
rows_zero true row v w = refl
rows_zero false row Least w = refl
rows_zero false row (Works e) w = refl
rows_zero false row (Fails k) w = refl

rows_values_lem : (b : Bool) (k row : ℕ) (v : Verdict) (w : Network)
    → verdict_values k (judged (Ok (cond b (Some row) None)) v w) ≡ cond b (2 ∷ k ∷ row ∷ []) (said_values k v)
rows_values_lem true k row v w = refl
rows_values_lem false k row v w = refl

-- the number and the values where the network does the job
module _ (q : Request) (refutation : List ℕ) (s : Lent) where
  below_unrefused : (w : Network) → verdict_number (judged (Ok None) (verdict_below q refutation s) w) ≡ 0
  below_unrefused w = rows_zero false 0 (verdict_below q refutation s) w

  below_values : said_values q.r (verdict_below q refutation s) ≡ values_below q refutation s
  unfolding verdict_below values_below
  below_values =
      ⊎_elim (λ (z : q.r ≡ 0). rw (eq-eqb q.r 0 z))
      (λ (d : q.r ≡ 0 → ⊥).
      rw (ne_eqb q.r 0 d)
      (outcome_values q.r (check_answer (smaller q) refutation s).outcome
      ∙ ap (λ (x : ℕ). cond (eqb x 0) (0 ∷ q.r ∷ []) (1 ∷ q.r ∷ x ∷ [])) (answer_number (smaller q) refutation s)))
      (eq? q.r 0)

module _ (q : Request) (answer refutation : List ℕ) (s : Lent) where
  -- the network that the answer describes
  abbrev read : Network
  read = (reading_of q answer).network

  -- what settling says of an answer that is taken, by the rows of its network
  by_rows : (reading_of q answer).refusal ≡ 0
      → judged (Ok (rows_answer q read)) (verdict_below q refutation s) read ≡ settlement q answer refutation s
  by_rows z = (settles_judged q answer refutation s z (Ok (rows_answer q read)) (decoded_rows q answer z)).says

  -- a refused answer is told by its refusal's own number
  pub refused_number : ((reading_of q answer).refusal ≡ 0 → ⊥) → verdict_number (settlement q answer refutation s) ≡ (reading_of q answer).refusal
  refused_number d =
      ap verdict_number (sym (refused_verdict q answer refutation s d)) ∙ numbered_back (reading_of q answer).refusal d (reading_numbered q answer)

  -- the number of settling is the rule's
  pub settle_number_lem : verdict_number (settlement q answer refutation s) ≡ settle_number q answer
  unfolding settle_number rows_answer
  settle_number_lem =
      ⊎_elim
      (λ (z : (reading_of q answer).refusal ≡ 0).
      ap verdict_number (sym (by_rows z))
      ∙ rows_zero (ltb (first_wrong q read) (2 ^ q.n)) (first_wrong q read) (verdict_below q refutation s) read
      ∙ sym z)
      (λ (d : (reading_of q answer).refusal ≡ 0 → ⊥). refused_number d)
      (eq? (reading_of q answer).refusal 0)

  -- and so are the values
  pub settle_values_lem : verdict_values q.r (settlement q answer refutation s) ≡ settle_values q answer refutation s
  unfolding settle_number settle_values rows_answer
  settle_values_lem =
      ⊎_elim
      (λ (z : (reading_of q answer).refusal ≡ 0).
      rw (eq-eqb (reading_of q answer).refusal 0 z)
      (ap (verdict_values q.r) (sym (by_rows z))
      ∙ rows_values_lem (ltb (first_wrong q read) (2 ^ q.n)) q.r (first_wrong q read) (verdict_below q refutation s) read
      ∙ ap (cond (ltb (first_wrong q read) (2 ^ q.n)) (2 ∷ q.r ∷ first_wrong q read ∷ [])) (below_values q refutation s)))
      (λ (d : (reading_of q answer).refusal ≡ 0 → ⊥).
      rw (ne_eqb (reading_of q answer).refusal 0 d) (ap (verdict_values q.r) (sym (refused_verdict q answer refutation s d))))
      (eq? (reading_of q answer).refusal 0)

-- two refusals with one number are one
numbers_differ : (x y : Refusal) → number x ≡ number y → x ≡ y
numbers_differ x y e = sym (numbered_number x) ∙ ap numbered e ∙ numbered_number y

-- no two different verdicts have equal values
pub said_differ : (k : ℕ) (x y : Verdict) → said_values k x ≡ said_values k y → x ≡ y
said_differ k Least Least f = refl
said_differ k Least (Works y) f = absurd (let z : ◌≡◌ {A = ℕ} 0 1 = cc in omega arith)
said_differ k Least (Fails y) f = absurd (let z : ◌≡◌ {A = ℕ} 0 2 = cc in omega arith)
said_differ k (Works x) Least f = absurd (let z : ◌≡◌ {A = ℕ} 1 0 = cc in omega arith)
said_differ k (Works x) (Works y) f = let z : number x ≡ number y = cc in ap Works (numbers_differ x y z)
said_differ k (Works x) (Fails y) f = absurd (let z : ◌≡◌ {A = ℕ} 1 2 = cc in omega arith)
said_differ k (Fails x) Least f = absurd (let z : ◌≡◌ {A = ℕ} 2 0 = cc in omega arith)
said_differ k (Fails x) (Works y) f = absurd (let z : ◌≡◌ {A = ℕ} 2 1 = cc in omega arith)
said_differ k (Fails x) (Fails y) f = cc

-- no two different verdicts have equal number and values, and no refusal has those of a verdict or of another refusal
pub verdicts_differ : (k : ℕ) (x y : Settling) → verdict_number x ≡ verdict_number y → verdict_values k x ≡ verdict_values k y → said x ≡ said y
verdicts_differ k (Ok x) (Ok y) e f = ap Ok (said_differ k x.verdict y.verdict f)
verdicts_differ k (Ok x) (Err y) e f = absurd (number_some y (sym e))
verdicts_differ k (Err x) (Ok y) e f = absurd (number_some x e)
verdicts_differ k (Err x) (Err y) e f = ap Err (numbers_differ x y e)

-- nothing different that settling answers has equal number, values and network
pub settlings_differ : (k : ℕ) (x y : Settling) → verdict_number x ≡ verdict_number y → verdict_values k x ≡ verdict_values k y
    → settled_network x ≡ settled_network y → x ≡ y
settlings_differ k (Ok x) (Ok y) e f g =
    ap₂ (λ (v : Verdict) (w : Network). Ok (record { verdict = v; network = w })) (said_differ k x.verdict y.verdict f) g
settlings_differ k (Ok x) (Err y) e f g = absurd (number_some y (sym e))
settlings_differ k (Err x) (Ok y) e f g = absurd (number_some x e)
settlings_differ k (Err x) (Err y) e f g = ap Err (numbers_differ x y e)
