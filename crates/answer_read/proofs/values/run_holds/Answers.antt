-- Some variable of the run is true just where its clause holds. Assumes nothing.
use Rattle.std.proofs.Common.{◌≡◌, ◌⊎◌, ℕ, ◌+◌, ◌-◌, refl, ap, ◌∙◌, inl, inr, ⊎_elim, rules, arith, not}
use Rattle.std.proofs.lemmas.Iterator.{YieldsList-from_range}
use Rattle.std.proofs.lemmas.Iterator.Search.{any_from_yields_List}
use Rattle.std.proofs.Math.Dec.{T}
use borrow.Author.Tests.{tests}
use Rattle.prelude.specs.Tests.{T-eq, F-eq, T-cases, T_of, le?, not_true_false}
use Rattle.prelude.specs.Lists.{any_from}
use Rattle.prelude.specs.Lists.Laws.{any_out, any_in}
use Rattle.prelude.specs.Arrays.{any_range}
use Rattle.cnf.specs.Cnf.{Assignment, clause_holds}
use Rattle.formula.specs.Clause.{run}
use Rattle.formula.proofs.ClauseLaws.{low_at}
use Rattle.answer.specs.Values.{assigned}
use Rattle.answer.proofs.ValuesLaws.{run_true, run_false}
use Rattle.answer_read.proofs.values.run_holds.Goals as goal

run_any : (α : Assignment) (first count : ℕ) → any_from first count α ≡ clause_holds α (run first count)
run_any α first count = go (T-cases (any_from first count α))
  where
    go : T (any_from first count α) ⊎ T (not (any_from first count α)) → any_from first count α ≡ clause_holds α (run first count)
    go (inl t) =
        let w = any_out first count α t in
        let e : w.0 ≡ first + (w.0 - first) = omega (arith, w.1) in
        T-eq _ t ∙ run_true α first count (w.0 - first) (α w.0) (omega (arith, w.1, w.2)) (ap α e) (T-eq _ w.3)
    go (inr f) =
        F-eq _ f ∙ run_false α first count (λ i l. not_true_false (α (first + i)) (λ e.
        cc (F-eq _ f, T-eq _ (any_in first count α (first + i) (omega arith) (omega arith) (T_of _ e)))))

pub overflow_add-first : goal.overflow_add-first
overflow_add-first c =
    ⊎_elim (λ z. omega arith) (λ z. omega (arith, low_at _ _ (c.args.count - 1) c.requires (omega arith))) (le? c.args.count 0)

pub returns : goal.returns
returns c =
    let α = assigned c.args.values.now in
    any_from_yields_List α _ _ _ c.any.ensures.ran (YieldsList-from_range c.args.first (c.args.first + c.args.count) c.args.count refl (omega arith)) (λ x b q k. search (rules, tests))
    ∙ any_range α c.args.count c.args.first
    ∙ run_any α c.args.first c.args.count
