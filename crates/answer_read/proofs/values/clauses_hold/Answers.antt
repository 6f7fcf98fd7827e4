-- The clauses are the request's first ones, and each is tested. Assumes nothing.
use Rattle.std.proofs.Common.{◌≡◌, Bool, ◌&&◌, ℕ, zero, suc, ◌+◌, ◌≤◌, ◌<◌, refl, ap, ◌∙◌, ap₂, rules, arith}
use Rattle.std.proofs.lemmas.Iterator.{YieldsList-from_range}
use Rattle.std.proofs.lemmas.Iterator.Search.{all_from_yields_List}
use borrow.Author.Tests.{tests}
use Rattle.prelude.specs.Lists.{all_from}
use Rattle.prelude.specs.Arrays.{all_range}
use Rattle.cnf.specs.Cnf.{clause_holds}
use Rattle.formula.specs.Number.{clause_of}
use Rattle.answer_read.proofs.ClauseLaws.{low_of}
use Rattle.std.proofs.iter.Serving.{serving}
use Rattle.formula_clauses.specs.Block.{network_clause}
use Rattle.formula_clauses.specs.Block.Laws.{network_number}
use Rattle.answer.specs.Values.{assigned, holding}
use Rattle.answer_read.proofs.values.clauses_hold.Goals as goal

-- tests that agree on the range give the same
all_same : (a n : ℕ) (p q : ℕ → Bool) → ((i : ℕ) → a ≤ i → i < a + n → p i ≡ q i) → all_from a n p ≡ all_from a n q
all_same a zero p q h = refl
all_same a (suc n) p q h =
    ap₂ ◌&&◌ (h a (omega arith) (omega arith)) (all_same (suc a) n p q (λ i l u. h i (omega arith) (omega arith)))

pub all-requires-clause-callable : goal.all-requires-clause-callable
all-requires-clause-callable c = grind (arith, serving, low_of c.args.good.request)

pub returns : goal.returns
unfolding holding
returns c =
    let q = c.args.good.request in
    let α = assigned c.args.values.now in
    let p : ℕ → Bool = λ k. clause_holds α (network_clause q k) in
    let n = c.network_count.result in
    all_from_yields_List p _ _ _ c.all.ensures.ran (YieldsList-from_range 0 n n refl (omega arith)) (λ x b q k. search (rules, tests))
    ∙ all_range p n 0
    ∙ ap (λ (m : ℕ). all_from 0 m p) c.network_count.ensures.0
    ∙ all_same 0 _ p (λ k. clause_holds α (clause_of q k)) (λ k l u. ap (clause_holds α) (network_number q c.args.good.good k (omega arith)))
