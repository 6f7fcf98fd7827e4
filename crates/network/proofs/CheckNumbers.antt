-- The check's answers by document 01's numbers and values. Assumes nothing.
use Rattle.std.specs.Prelude.{◌≡◌, refl, Bool, true, false, not, cond, [], ◌∷◌, ℕ, ◌^◌, T, eqb, ltb, Some, None, Ok, Err}
use Rattle.std.proofs.Common.{sym, ap, ◌∙◌}
use Rattle.refusal.specs.Refusal.{number, numbered}
use Rattle.refusal.specs.Refusal.Laws.{numbered_number, number_some, numbered_back}
use Rattle.request.proofs.NumbersLaws.{refusal_most}
use Rattle.refusal.specs.declared.Refusal.{Refusal}
use Rattle.refusal.specs.declared.Refusal.TheVariants.{NetworkForm}
use Rattle.prelude.specs.Tests.{neqb→ne}
use Rattle.request.specs.Numbers.{refusal_of}
use Rattle.request.specs.declared.Request.{Request}
use Rattle.network.specs.declared.Network.{Network}
use Rattle.network.specs.Check.{Checked, number_of, values_of, fitting, first_wrong, rows_answer, checked_number, checked_values, checked_of}

-- by the three tests
number_by : (a b c : Bool) (k x : ℕ) → (T (not a) → number (numbered x) ≡ x)
    → number_of (cond a (cond b (Ok (cond c (Some k) None)) (Err NetworkForm)) (Err (numbered x))) ≡ cond a (cond b 0 13) x
number_by false b c k x h = h tt
number_by true false c k x h = refl
number_by true true true k x h = refl
number_by true true false k x h = refl

values_by : (a b c : Bool) (k x : ℕ)
    → values_of (cond a (cond b (Ok (cond c (Some k) None)) (Err NetworkForm)) (Err (numbered x))) ≡ cond a (cond b (cond c (k ∷ []) []) []) []
values_by false b c k x = refl
values_by true false c k x = refl
values_by true true true k x = refl
values_by true true false k x = refl

module _ (q : Request) (w : Network) where
  -- the number of the answer is the rule's
  pub checked_number_lem : number_of (checked_of q w) ≡ checked_number q w
  unfolding checked_of rows_answer checked_number
  checked_number_lem =
      number_by (eqb (refusal_of q) 0) (fitting q w) (ltb (first_wrong q w) (2 ^ q.n)) (first_wrong q w) (refusal_of q)
      (λ t. numbered_back (refusal_of q) (neqb→ne (refusal_of q) 0 t) (refusal_most q))

  -- and so are the values
  pub checked_values_lem : values_of (checked_of q w) ≡ checked_values q w
  unfolding checked_of rows_answer checked_values
  checked_values_lem = values_by (eqb (refusal_of q) 0) (fitting q w) (ltb (first_wrong q w) (2 ^ q.n)) (first_wrong q w) (refusal_of q)

-- no two different answers have equal number and values
pub answers_differ : (x y : Checked) → number_of x ≡ number_of y → values_of x ≡ values_of y → x ≡ y
answers_differ (Ok None) (Ok None) e f = refl
answers_differ (Ok None) (Ok (Some k)) e f = cc
answers_differ (Ok None) (Err y) e f = absurd (number_some y (sym e))
answers_differ (Ok (Some j)) (Ok None) e f = cc
answers_differ (Ok (Some j)) (Ok (Some k)) e f = cc
answers_differ (Ok (Some j)) (Err y) e f = absurd (number_some y (sym e))
answers_differ (Err x) (Ok None) e f = absurd (number_some x e)
answers_differ (Err x) (Ok (Some k)) e f = absurd (number_some x e)
answers_differ (Err x) (Err y) e f = ap Err (sym (numbered_number x) ∙ ap numbered e ∙ numbered_number y)

-- where no rule refuses no answer is a refusal, by the three tests
not_refused : (a b c : Bool) (k x : ℕ) (e : Refusal) → (T (not a) → x ≡ 0 → ⊥)
    → cond a (cond b (Ok (cond c (Some k) None)) (Err NetworkForm)) (Err (numbered x)) ≡ Err e → cond a (cond b 0 13) x ≡ 0 → ⊥
not_refused false b c k x e h f z = h tt z
not_refused true false c k x e h f z = cc
not_refused true true c k x e h f z = cc

pub refusal_numbered : (q : Request) (w : Network) (e : Refusal) → checked_of q w ≡ Err e → checked_number q w ≡ 0 → ⊥
unfolding checked_of rows_answer checked_number
refusal_numbered q w e =
    not_refused (eqb (refusal_of q) 0) (fitting q w) (ltb (first_wrong q w) (2 ^ q.n)) (first_wrong q w) (refusal_of q) e
    (neqb→ne (refusal_of q) 0)

-- and no refusal's number is 0
pub refusal_some : (q : Request) (w : Network) (e : Refusal) → checked_of q w ≡ Err e → number e ≡ 0 → ⊥
refusal_some q w e _ = number_some e
