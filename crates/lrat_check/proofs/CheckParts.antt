-- What checking answers and leaves by the lines over the filled store. Assumes nothing.
use Rattle.std.specs.Prelude.{◌≡◌, refl, List, ◌++◌, ℕ, ◌+◌, ◌≤◌, ◌<◌, ℤ, length, drop, Ok, Err}
use Rattle.std.proofs.Common.{ap, ◌∙◌, arith}
use Rattle.prelude.specs.Blocks.{flatten, pairs_from}
use Rattle.prelude.specs.Written.{written}
use Rattle.refusal.specs.declared.Refusal.{Refusal}
use Rattle.refusal.specs.Refusal.{unless}
use Rattle.request.specs.declared.Request.{Request}
use Rattle.formula.specs.declared.Sizes.{Sizes}
use Rattle.formula_clauses.specs.Store.{signs, stored_formula, stored_variables, store_sizes, stored_literals, stored_pairs}
use Rattle.formula_clauses.specs.Store.Laws.{store_taken}
use Rattle.formula_clauses.specs.Store.Promise.{Promise, promise}
use Rattle.lrat.specs.Words.{text_limit}
use Rattle.lrat.specs.Bytes.{zeros, formula_in}
use Rattle.lrat.specs.State.{OriginalsInStore}
use Rattle.lrat.specs.Check.{lines_of}
use Rattle.lrat.specs.Results.{Ends}
use Rattle.lrat.specs.declared.Checked.{Checked}
use Rattle.lrat_check.specs.Refutation.{Lent, lent, check_answer, check_leaves}
use Rattle.lrat_check.specs.Refutation.Seam.{formula_in_is, originals_in_store}
use Rattle.lrat_check.specs.Refutation.Laws.{goes_answer, goes_slices}

-- a store that is not refused is filled
pub never : {A : Type 0} (n : ℕ) (e : Refusal) → n ≡ 0 → Err e ≡ unless {A = Unit {0}} n tt → A
never n e z f = let g = rw z at f in absurd (cc)

module _ (q : Request) (text : List ℕ) (literals : List ℤ) (pairs added values : List ℕ) where
  abbrev before : Lent
  before = lent literals pairs added values

  -- the store filled
  module _ (size : Sizes) (sized : Ok size ≡ store_sizes q (length literals) (length pairs)) (l : List ℤ) (p : List ℕ)
      (l-is : l ≡ stored_literals q (length pairs) literals) (p-is : p ≡ stored_pairs q (length literals) pairs) where
    given : Promise q (length literals) (length pairs) size
    given = promise q (length literals) (length pairs) size sized

    l-now : l ≡ written literals 0 (signs (flatten (stored_formula q)))
    l-now = l-is ∙ (store_taken q literals pairs given.taken).0

    p-now : p ≡ written pairs 0 (pairs_from 0 (stored_formula q))
    p-now = p-is ∙ (store_taken q literals pairs given.taken).1

    formula-is : formula_in size.clauses l p ≡ stored_formula q
    formula-is =
        let g = given in
        rw (l-now, p-now, g.clauses_are)
        (formula_in_is (stored_formula q) (stored_variables q) g.in_range literals pairs g.literals_room g.pairs_room)

    pub originals : OriginalsInStore size.clauses l p (size.variables + 1)
    originals =
        let g = given in
        rw (l-now, p-now, g.clauses_are, g.variables_are)
        (originals_in_store (stored_formula q) (stored_variables q) g.in_range literals pairs g.literals_room g.pairs_room)

    pub variables_few : size.variables < 65536
    variables_few = given.variables_few

    -- the lines over it
    pub ended : size.variables < length values → length text ≤ text_limit → (x : Checked) (n v : List ℕ)
        → Ends (lines_of (formula_in size.clauses l p) text size.variables added) x n → v ≡ zeros (size.variables + 1)
        → (x ≡ check_answer q text before) × (lent l p n (v ++ drop (size.variables + 1) values) ≡ check_leaves q text before)
    ended long short x n v e z =
        let g = given in
        let enough : stored_variables q < length values = omega (arith, long, g.variables_are) in
        let m = lines_of (formula_in size.clauses l p) text size.variables added in
        let k : m ≡ lines_of (formula_in size.clauses l p) text (stored_variables q) added =
        ap (λ (n : ℕ). lines_of (formula_in size.clauses l p) text n added) g.variables_are in (
          sames x _ _ e.outcome e.count ∙ goes_answer q text before g.taken enough short (formula_in size.clauses l p) formula-is m k _ refl,
          ap (λ (k : ℕ). lent l p n (v ++ drop (k + 1) values)) g.variables_are
              ∙ ap (λ (k : List ℕ). lent l p k (v ++ drop (stored_variables q + 1) values)) e.records
              ∙ goes_slices q text before g.taken enough short (formula_in size.clauses l p) formula-is m k l p v l-is p-is
              (z ∙ ap (λ (n : ℕ). zeros (n + 1)) g.variables_are),
        )
      where
        sames : (x : Checked) (o : _) (c : ℕ) → x.outcome ≡ o → x.count ≡ c → x ≡ record { outcome = o; count = c }
        sames x o c e f = rw (← e, ← f)
