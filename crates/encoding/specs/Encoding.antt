-- A request's clauses are satisfiable exactly when some network of r switches does its job: an assignment that satisfies them
-- gives the network decoded from it, and a network gives the values of X, L and the rows. Assumes nothing.
use Rattle.std.specs.Prelude.{◌≡◌, Bool, ◌↔◌, ℕ, ◌+◌}
use Rattle.std.proofs.Common.{sym, subst}
use mathlib.Core.List.{List, [], ◌∷◌, ◌++◌}
use Rattle.cnf.specs.Cnf.{Formula, Assignment, Sat, Satisfiable}
use Rattle.cnf.specs.Cnf.Parts.{Sat-split, Sat-join}
use Rattle.rows.specs.Rows.{Row, rows_of, by_kind}
use Rattle.rows.specs.declared.Kind.{Kind}
use Rattle.rows.specs.declared.Kind.TheVariants.{On, Off, Free}
use Rattle.request.specs.declared.Request.{Request}
use Rattle.network.specs.Networks.{Net, label_at, switches, FormedAs, Formed, closed_on, DoneIf, DoesAll, Does}
use Rattle.network.specs.Value.{listed}
use Rattle.formula.specs.Formula.{terminals, transitivity, choices, on_row, off_row, row_variables, row_clauses, rows_from, formula, formula_of, network_variables}
use Rattle.answer.specs.Decode.{decoded}
use Rattle.answer.specs.Decode.Meaning.{decoded_formed}
use Rattle.encoding.specs.Stands.{Stands, nets_hold, picks_hold, decoded_stands}
use Rattle.encoding.specs.OnRow.{on_walk}
use Rattle.encoding.specs.OffRow.{off_none}
use Rattle.encoding.specs.Values.{valued, joined_values, chosen_values, rows_values, values_stand, rows_after, rows_hold}

-- ---- a satisfying assignment gives a network
-- the clauses of the rows
abbrev rows_clauses : Request → Formula
rows_clauses q = rows_from q.n q.r q.m (network_variables q.n q.r) (rows_of q)

-- the three groups of clauses
groups : (q : Request) (α : Assignment) → Sat α (formula_of q)
    → Sat α (transitivity (terminals q.r)) × Sat α (choices q.n (terminals q.r) q.r) × Sat α (rows_clauses q)
unfolding formula_of formula
groups q α s =
    let a = Sat-split α (transitivity (terminals q.r)) _ s in
    let b = Sat-split α (choices q.n (terminals q.r) q.r) _ a.1 in
    (a.0, b.0, b.1)

module _ (n r m : ℕ) (w : Net) (α : Assignment) (stands : Stands n r w α) where
  -- a row whose clauses hold is done
  row_done : (B : ℕ) (row : Row) (x : Kind) → Sat α (by_kind (on_row n r m B row.value) (off_row n (terminals r) r B row.value) [] x)
      → DoneIf x r m (closed_on row w) (label_at w)
  row_done B row On s = on_walk n r m w α stands B row s
  row_done B row Off s = off_none n r m w α stands B row s
  row_done B row Free s = tt

  -- and so is each of some rows
  rows_done : (B : ℕ) (rows : List Row) → Sat α (rows_from n r m B rows) → DoesAll r m w rows
  unfolding rows_from row_clauses
  rows_done B [] s = tt
  rows_done B (row ∷ rows) s =
      let two = Sat-split α (row_clauses n r m B row) (rows_from n r m (B + row_variables r m row) rows) s in
      (row_done B row row.kind two.0, rows_done (B + row_variables r m row) rows two.1)

-- the network of an assignment
abbrev made : Request → Assignment → Net
made q α = listed q.r (decoded q.n q.r α)

-- where an assignment satisfies a request's clauses, the network decoded from it has r switches
pub satisfied_switches : (q : Request) (α : Assignment) → Sat α (formula_of q)
    → switches (listed q.r (decoded q.n q.r α)) ≡ q.r
satisfied_switches q α s = let g = groups q α s in (decoded_formed q.n q.r α g.0 g.1).literals_long

-- and the form
pub satisfied_formed : (q : Request) (α : Assignment) → Sat α (formula_of q) → Formed q (listed q.r (decoded q.n q.r α))
satisfied_formed q α s =
    let g = groups q α s in
    subst (λ (k : ℕ). FormedAs q.n k (made q α)) (sym (satisfied_switches q α s))
    (decoded_formed q.n q.r α g.0 g.1)

-- and does the job
pub satisfied_does : (q : Request) (α : Assignment) → Sat α (formula_of q) → Does q (listed q.r (decoded q.n q.r α))
satisfied_does q α s =
    let g = groups q α s in
    subst (λ (k : ℕ). DoesAll k q.m (made q α) (rows_of q)) (sym (satisfied_switches q α s))
    (rows_done q.n q.r q.m (made q α) α (decoded_stands q α g.0 g.1)
    (network_variables q.n q.r) (rows_of q) g.2)

-- ---- a network that does the job of some rows gives an assignment that satisfies their clauses
does_satisfies : (n r m : ℕ) (rows : List Row) (w : Net) → FormedAs n r w → DoesAll r m w rows
    → Satisfiable (formula n r m rows)
unfolding formula
does_satisfies n r m rows w form d =
    let rest : List Bool = rows_values r m w rows d in
    let values : List Bool = joined_values r w ++ (chosen_values n r w ++ rest) in
    let stands : Stands n r w (valued values) = values_stand n r w rest form in (
      valued values,
      Sat-join (valued values) (transitivity (terminals r)) _ (nets_hold n r w (valued values) stands)
          (Sat-join (valued values) (choices n (terminals r) r) _ (picks_hold n r w (valued values) stands)
          (rows_hold n r m w values stands (network_variables n r) rows d (rows_after n r w rest))),
    )

-- "satisfiable exactly when some network of r switches does the job", said of a request's clauses
abbrev pub FileMeans : Request → Type 0
FileMeans q = Satisfiable (formula_of q) ↔ ((w : Net) × (switches w ≡ q.r) × Formed q w × Does q w)

-- it holds of every request
pub encoding : (q : Request) → FileMeans q
unfolding formula_of
encoding q = (
  λ (α, s). (listed q.r (decoded q.n q.r α), satisfied_switches q α s, satisfied_formed q α s, satisfied_does q α s),
  λ (w, size, form, does).
      does_satisfies q.n q.r q.m (rows_of q) w
      (subst (λ (k : ℕ). FormedAs q.n k w) size form)
      (subst (λ (k : ℕ). DoesAll k q.m w (rows_of q)) size does),
)
