-- Outcomes by their code, and by their number. Assumes nothing.
use Rattle.std.specs.Prelude.{◌≡◌, refl, ◌&&◌, cond, ℕ, zero, suc, ◌≤◌, ◌<◌, leb, length, Ok, Err}
use Rattle.std.proofs.Common.{sym, ap, ◌∙◌, ⊎_elim, arith, eq-eqb, ne_eqb}
use Rattle.std.proofs.lemmas.List.{get_or_past}
use borrow.Author.Tests.{le-leb, lt-leb}
use Rattle.prelude.specs.Tests.{eq?, le?}
use Rattle.refusal.specs.declared.Refusal.{Refusal}
use Rattle.refusal.specs.declared.Refusal.TheVariants.{RequestLine}
use Rattle.refusal.specs.Refusal.{number, refusals, numbered}
use Rattle.refusal.specs.Refusal.Laws.{numbered_number, number_some, numbered_back}
use Rattle.lrat.specs.declared.Checked.{Checked}
use Rattle.lrat.specs.Outcome.{Outcome, outcome_number, number_of, values_of, outcome_of, end_number}
use Rattle.lrat.specs.Outcome.Ending.{refused, ending_number, ending_of, in_numbers}

-- the code 1
pub outcome_none : (code : ℕ) → code ≡ 1 → Ok tt ≡ outcome_of code
unfolding outcome_of
outcome_none code e = rw (eq-eqb code 1 e)

-- and another
pub outcome_refused_lem : (code : ℕ) → (code ≡ 1 → ⊥) → Err (numbered code) ≡ outcome_of code
unfolding outcome_of
outcome_refused_lem code d = rw (ne_eqb code 1 d)

-- only the code 1 gives "none"
pub none_code : (code : ℕ) → outcome_of code ≡ Ok tt → code ≡ 1
none_code code e =
    ⊎_elim (λ (z : code ≡ 1). z)
    (λ (d : code ≡ 1 → ⊥). absurd (let f = outcome_refused_lem code d in cc))
    (eq? code 1)

-- the number of the refusal by any number: the number itself from 1 to 24, and that of the first refusal for another
numbered_any : (k : ℕ) → number (numbered k) ≡ cond (leb 1 k && leb k 24) k 1
numbered_any zero = refl
numbered_any (suc n) =
    ⊎_elim (λ (h : suc n ≤ 24). rw (le-leb 1 (suc n) (omega arith), le-leb (suc n) 24 h) (numbered_back (suc n) (λ z. omega arith) h))
    (λ (h : 24 < suc n). rw (le-leb 1 (suc n) (omega arith), lt-leb (suc n) 24 h) (ap number (get_or_past refusals n RequestLine (let m : length refusals ≤ n = omega arith in m))))
    (le? (suc n) 24)

-- the number of the outcome, for every code: the rule's for "none" and where a refusal has it, and 1, that of the first, where none has
pub outcome_number_lem : (code : ℕ) → outcome_number (outcome_of code) ≡ cond (leb 1 code && leb code 24) (end_number code) 1
unfolding outcome_of end_number
outcome_number_lem code =
    ⊎_elim (λ (z : code ≡ 1). rw z) (λ (d : code ≡ 1 → ⊥). rw (ne_eqb code 1 d) (numbered_any code)) (eq? code 1)

-- so it is the rule's for a code that a refusal has as its number, or that of "none"
pub outcome_number_within : (code : ℕ) → code ≤ 24 → (code ≡ 0 → ⊥) → outcome_number (outcome_of code) ≡ end_number code
unfolding outcome_of end_number
outcome_number_within code h n =
    ⊎_elim (λ (z : code ≡ 1). rw (eq-eqb code 1 z)) (λ (d : code ≡ 1 → ⊥). rw (ne_eqb code 1 d) (numbered_back code n h)) (eq? code 1)

-- a code that is not 0 is refused with a number that is not 0
pub refused_numbered : (code : ℕ) → (code ≡ 0 → ⊥) → (e : Refusal) → outcome_of code ≡ Err e → end_number code ≡ 0 → ⊥
unfolding outcome_of end_number
refused_numbered code h e f z =
    ⊎_elim (λ (y : code ≡ 1). absurd (let g = rw (eq-eqb code 1 y) at f in cc)) (λ (d : code ≡ 1 → ⊥). h (rw (ne_eqb code 1 d) at z)) (eq? code 1)

-- no refusal that a code gives has the number 0
pub refused_some : (code : ℕ) (e : Refusal) → outcome_of code ≡ Err e → number e ≡ 0 → ⊥
refused_some code e h = number_some e

-- ---- the same in numbers alone, for every code
-- a code other than 1 is refused with itself
pub ending_refused : (code : ℕ) → (code ≡ 1 → ⊥) → refused code ≡ ending_of code
unfolding ending_of
ending_refused code d = rw (ne_eqb code 1 d)

-- the number of the ending is the rule's
pub ending_number_lem : (code : ℕ) → ending_number (ending_of code) ≡ end_number code
unfolding ending_of end_number
ending_number_lem code =
    ⊎_elim (λ (z : code ≡ 1). rw (eq-eqb code 1 z)) (λ (d : code ≡ 1 → ⊥). rw (ne_eqb code 1 d)) (eq? code 1)

-- a code that is not 0 is refused with no 0
pub ending_numbered : (code : ℕ) → (code ≡ 0 → ⊥) → ending_of code ≡ refused 0 → ⊥
unfolding ending_of
ending_numbered code h e =
    ⊎_elim (λ (z : code ≡ 1). absurd (let f = rw (eq-eqb code 1 z) at e in cc))
    (λ (d : code ≡ 1 → ⊥). h (ap ending_number (rw (ne_eqb code 1 d) at e)))
    (eq? code 1)

-- an outcome has the number of what it is in numbers
pub ending_same : (x : Outcome) → ending_number (in_numbers x) ≡ outcome_number x
ending_same (Ok x) = refl
ending_same (Err e) = refl

-- the outcome of a code is its ending, where a refusal has the code as its number, or it is that of "none"
pub outcome_ending : (code : ℕ) → code ≤ 24 → (code ≡ 0 → ⊥) → in_numbers (outcome_of code) ≡ ending_of code
unfolding outcome_of ending_of
outcome_ending code h n =
    ⊎_elim (λ (z : code ≡ 1). rw (eq-eqb code 1 z))
    (λ (d : code ≡ 1 → ⊥). rw (ne_eqb code 1 d) (ap refused (numbered_back code n h)))
    (eq? code 1)

-- no two different results have equal number and values
outcomes_differ : (x y : Outcome) → outcome_number x ≡ outcome_number y → x ≡ y
outcomes_differ (Ok x) (Ok y) e = refl
outcomes_differ (Ok x) (Err y) e = absurd (number_some y (sym e))
outcomes_differ (Err x) (Ok y) e = absurd (number_some x e)
outcomes_differ (Err x) (Err y) e = ap Err (sym (numbered_number x) ∙ ap numbered e ∙ numbered_number y)

pub results_differ : (x y : Checked) → number_of x ≡ number_of y → values_of x ≡ values_of y → x ≡ y
results_differ x y e f = let g = outcomes_differ x.outcome y.outcome e in let h : x.count ≡ y.count = cc in rw (g, h)
