-- The first row that is found is the lowest wrong one; where none is found, all are right. Assumes nothing.
use Rattle.std.specs.Prelude.{◌≡◌, refl, true, false, ℕ, ◌^◌, ◌≤◌, ◌<◌, Option, Some, None, MatchOption}
use Rattle.std.proofs.Common.{sym, arith, rules}
use borrow.Author.Tests.{tests}
use Rattle.std.proofs.lemmas.Iterator.{first_from_Range}
use Rattle.rows.proofs.RowsLaws.{one_shifted}
use Rattle.request.specs.declared.Request.{Request}
use Rattle.network.specs.declared.Network.{Network}
use Rattle.network.specs.Check.{rows_answer}
use Rattle.network.proofs.CheckLaws.{right_at, rows_wrong, rows_right}
use Rattle.network_check.proofs.lowest_wrong.Goals as goal

found : (q : Request) (w : Network) (n : ℕ) → n ≡ 2 ^ q.n → (r : Option ℕ)
    → MatchOption r ((k : ℕ) → 0 ≤ k → k < n → right_at q w k ≡ true)
    (λ i. (0 ≤ i) × (i < n) × (right_at q w i ≡ false) × ((k : ℕ) → 0 ≤ k → k < i → right_at q w k ≡ true))
    → r ≡ rows_answer q w
found q w n e None m = rows_right q w (λ j h. m j (omega arith) (omega arith))
found q w n e (Some k) m = rows_wrong q w k false (omega (arith, m.1)) (sym m.2) refl (λ j h. m.3 j (omega arith) h)

pub returns : goal.returns
returns c =
    let q = c.args.q.request in
    found q c.args.w _ (one_shifted q.n 8 (omega arith)) _
    (first_from_Range _ _ _ _ (λ k. right_at q c.args.w k ≡ false) (λ k. right_at q c.args.w k ≡ true) c.find.ensures.ran
    (λ x q z. search (rules, tests)) (λ x q z. search (rules, tests)))
