-- Laws of a clause by its number: what stands at a number by the part of the formula that it lies in. Assumes nothing.
use Rattle.std.specs.Prelude.{◌≡◌, [], ◌++◌, ℕ, ◌+◌, ◌-◌, ◌<◌, eqb, length, get_or}
use Rattle.std.proofs.Common.{ap, ◌∙◌, arith, ne_eqb, eqb→eq}
use Rattle.std.proofs.Math.ListN.{get_or-append}
use Rattle.prelude.specs.Lists.Laws.{get_d_right, each_cond, each_then, each_get}
use Rattle.cnf.specs.Cnf.{Formula}
use Rattle.rows.specs.Rows.{rows_of}
use Rattle.request.specs.Numbers.{Good, refusal_of}
use Rattle.request.proofs.NumbersLaws.{good_refusal, refusal_good}
use Rattle.request.specs.declared.Request.{Request}
use Rattle.formula.specs.Formula.{terminals, transitivity, choices, rows_from, formula, formula_of, network_variables}
use Rattle.formula.proofs.FormulaRange.{ClauseIn, range, variables_most_lem}
use Rattle.formula.specs.Count.{variable_count}
use Rattle.formula.specs.Clause.{Low}
use Rattle.formula.specs.Number.{clause_of}

-- a good request's clauses are the formula's
pub clause_good : (q : Request) (k : ℕ) → Good q → clause_of q k ≡ get_or (formula_of q) k []
unfolding clause_of
clause_good q k g = rw (good_refusal q g)

-- a refused request has none
pub clause_refused : (q : Request) (k x : ℕ) → x ≡ refusal_of q → (x ≡ 0 → ⊥) → [] ≡ clause_of q k
unfolding clause_of
clause_refused q k x e h = rw (ne_eqb (refusal_of q) 0 (λ z. h (e ∙ z)))

-- the variables of any request's clauses are small
pub clause_low : (q : Request) (k : ℕ) → Low (clause_of q k)
unfolding clause_of
clause_low q k =
    each_cond _ (eqb (refusal_of q) 0) (get_or (formula_of q) k []) []
    (λ t.
    let g : Good q = refusal_good q (eqb→eq (refusal_of q) 0 t) in
    let most = variables_most_lem q g in
    each_then _ _ (get_or (formula_of q) k []) (λ l h. let u = h.1 in omega arith)
    (each_get (ClauseIn (variable_count q)) (formula_of q) [] tt (range q) k))
    (λ _. tt)

-- the first two parts of the formula
pub in_nets : (q : Request) (k : ℕ) → k < length (transitivity (terminals q.r)) → get_or (formula_of q) k [] ≡ get_or (transitivity (terminals q.r)) k []
unfolding formula_of formula
in_nets q k h = get_or-append (transitivity (terminals q.r)) _ [] k h

abbrev rows_of_request : Request → Formula
rows_of_request q = rows_from q.n q.r q.m (network_variables q.n q.r) (rows_of q)

pub in_choices : (q : Request) (k j : ℕ) → k ≡ length (transitivity (terminals q.r)) + j → j < length (choices q.n (terminals q.r) q.r)
    → get_or (formula_of q) k [] ≡ get_or (choices q.n (terminals q.r) q.r) j []
unfolding formula_of formula
in_choices q k j e h =
    let d : k - length (transitivity (terminals q.r)) ≡ j = omega arith in
    get_d_right (transitivity (terminals q.r)) (choices q.n (terminals q.r) q.r ++ rows_of_request q) k [] (omega arith)
    ∙ ap (λ (x : ℕ). get_or (choices q.n (terminals q.r) q.r ++ rows_of_request q) x []) d ∙ get_or-append (choices q.n (terminals q.r) q.r) (rows_of_request q) [] j h
