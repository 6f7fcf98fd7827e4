-- Laws of the rows' clauses: the clauses of some rows and then of others, and the clause at a place of a row. Assumes nothing.
use Rattle.std.specs.Prelude.{◌≡◌, List, [], ◌∷◌, ◌++◌, ℕ, ◌+◌}
use Rattle.std.proofs.Common.{sym, ap, ◌∙◌, append_assoc}
use native.Mathlib.Nat.{add-zero, add_assoc}
use Rattle.cnf.specs.Cnf.{Formula}
use Rattle.rows.specs.Rows.{Row}
use Rattle.formula.specs.Formula.{row_variables, row_clauses, rows_from}

-- the variables of some rows
unfoldable pub variables_in : ℕ → ℕ → List Row → ℕ
variables_in r m [] = 0
variables_in r m (row ∷ rows) = row_variables r m row + variables_in r m rows

-- some rows and then others
pub rows_append : (n r m B : ℕ) (a b : List Row)
    → rows_from n r m B (a ++ b) ≡ rows_from n r m B a ++ rows_from n r m (B + variables_in r m a) b
unfolding rows_from variables_in
rows_append n r m B [] b = ap (λ (x : ℕ). rows_from n r m x b) (sym (add-zero B))
rows_append n r m B (row ∷ a) b =
    ap (λ (f : Formula). row_clauses n r m B row ++ f)
    (rows_append n r m (B + row_variables r m row) a b
    ∙ ap (λ (x : ℕ). rows_from n r m (B + row_variables r m row) a ++ rows_from n r m x b) (add_assoc B (row_variables r m row) (variables_in r m a)))
    ∙ sym (append_assoc (row_clauses n r m B row) (rows_from n r m (B + row_variables r m row) a) _)

pub variables_append : (r m : ℕ) (a b : List Row) → variables_in r m (a ++ b) ≡ variables_in r m a + variables_in r m b
unfolding variables_in
variables_append r m [] b = sym (native.Mathlib.Nat.zero-add (variables_in r m b))
variables_append r m (row ∷ a) b =
    ap (λ (x : ℕ). row_variables r m row + x) (variables_append r m a b) ∙ sym (add_assoc (row_variables r m row) (variables_in r m a) (variables_in r m b))
