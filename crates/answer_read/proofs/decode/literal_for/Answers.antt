-- The first literal that is found is the lowest whose L is true; where none is found, none is. Assumes nothing.
use Rattle.std.specs.Prelude.{◌≡◌, Bool, true, false, not, List, ℕ, ◌*◌, ◌≤◌, ◌<◌, Option, Some, None, MatchOption, unwrap_or}
use Rattle.std.proofs.Common.{refl, ap, ◌∙◌, arith, rules}
use Rattle.std.proofs.lemmas.Iterator.{first_from_Range}
use borrow.Author.Tests.{tests}
use Rattle.prelude.specs.Tests.{T_of}
use Rattle.formula.specs.Formula.{terminals, L}
use Rattle.answer.specs.Values.{assigned}
use Rattle.answer.specs.Decode.{literal_for}
use Rattle.answer.specs.Decode.Laws.{literal_found, literal_none}
use Rattle.answer_read.proofs.decode.literal_for.Goals as goal

module _ (n r : ℕ) (values : List ℕ) (s : ℕ) where
  abbrev chosen : ℕ → Bool
  chosen v = assigned values (L n (terminals r) s v)

  found : (x : Option ℕ) → MatchOption x ((k : ℕ) → 0 ≤ k → k < 2 * n → chosen k ≡ false)
      (λ i. (0 ≤ i) × (i < 2 * n) × (chosen i ≡ true) × ((k : ℕ) → 0 ≤ k → k < i → chosen k ≡ false))
      → unwrap_or x (2 * n) ≡ literal_for n r (assigned values) s
  found None m = literal_none n r values s (2 * n) (omega arith) (omega arith) (λ j h. T_of _ (ap not (m j (omega arith) h)))
  found (Some v) m = literal_found n r values s v _ _ m.1 refl refl m.2 (λ j h. T_of _ (ap not (m.3 j (omega arith) h)))

pub returns : goal.returns
returns c =
    let q = c.args.good.request in
    let values = c.args.values.now in
    c.unwrap_or.ensures
    ∙ found q.n q.r values c.args.s _
    (first_from_Range _ _ _ _ (λ k. assigned values (L q.n (terminals q.r) c.args.s k) ≡ true) (λ k. assigned values (L q.n (terminals q.r) c.args.s k) ≡ false) c.find.ensures.ran
    (λ x f z. search (rules, tests)) (λ x f z. search (rules, tests)))
