-- What a reader above the store may use of how clauses are made: V, C and T are those of the clauses that it holds, in the slices there
-- is room for them, and their variables are from 1 to V. Assumes nothing.
use Rattle.std.specs.Prelude.{◌≡◌, Ok, ℕ, ◌*◌, ◌≤◌, ◌<◌, length}
use Rattle.std.proofs.Common.{sym, ap, ◌∙◌, arith}
use Rattle.prelude.specs.Blocks.{flatten}
use Rattle.prelude.specs.Lists.{Each}
use Rattle.request.proofs.NumbersLaws.{refusal_good}
use Rattle.request.specs.declared.Request.{Request}
use Rattle.formula.proofs.FormulaRange.{range, variables_most_lem}
use Rattle.formula.proofs.CountLaws.{clause_count_lem, literal_count_lem}
use Rattle.formula.specs.declared.Sizes.{Sizes}
use Rattle.formula_clauses.specs.Store.{stored_formula, stored_variables, store_refusal, store_sizes}
use Rattle.formula_clauses.specs.Store.Laws.{none_taken, sizes_ok}

pub record Promise (q : Request) (literals pairs : ℕ) (x : Sizes) : Type 0 where
  pub taken : store_refusal q literals pairs ≡ 0
  pub variables_are : x.variables ≡ stored_variables q
  pub variables_few : x.variables < 65536
  pub clauses_are : x.clauses ≡ length (stored_formula q)
  pub literals_are : x.literals ≡ length (flatten (stored_formula q))
  pub literals_room : length (flatten (stored_formula q)) ≤ literals
  pub pairs_room : 2 * length (stored_formula q) ≤ pairs
  pub in_range : Each (Each (λ l. (1 ≤ l.variable) × (l.variable ≤ stored_variables q))) (stored_formula q)

pub promise : (q : Request) (literals pairs : ℕ) (x : Sizes) → Ok x ≡ store_sizes q literals pairs → Promise q literals pairs x
promise q literals pairs x x-is =
    let u = sizes_ok q literals pairs x x-is in
    let t = none_taken _ _ _ _ _ u.0 in
    let g = refusal_good q t.request in
    let v = ap (λ (y : Sizes). y.variables) u.1 in
    let c = clause_count_lem q in
    let l = literal_count_lem q in
    let most = variables_most_lem q g in
    record {
      taken = u.0;
      variables_are = v;
      variables_few = omega arith;
      clauses_are = ap (λ (y : Sizes). y.clauses) u.1 ∙ sym c;
      literals_are = ap (λ (y : Sizes). y.literals) u.1 ∙ sym l;
      literals_room = omega (arith, t.literals_long);
      pairs_room = omega (arith, t.pairs_long);
      in_range = range q;
    }
