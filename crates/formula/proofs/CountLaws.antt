-- The counts are what the clauses have: a measure of clauses that adds up over rows is so much for each on row and so much for
-- each off row. Assumes nothing.
use Rattle.std.specs.Prelude.{◌≡◌, Result, Ok, Err, IfOk}
use Rattle.std.proofs.Math.Path.{refl, ap, ap₂}
use Rattle.std.proofs.Common.{sym, ◌∙◌, zero-mul, add-mul, mul-le-mul_left, mul-le-mul_right, arith}
use mathlib.Core.List.{List, [], ◌∷◌, ◌++◌}
use Prim.Native.Nat.{ℕ, zero, suc, ◌+◌, ◌*◌, ◌^◌, ◌≤◌}
use Rattle.std.proofs.Math.Nat.{add-zero}
use Rattle.std.proofs.Math.ListN.{length, length-append}
use Rattle.prelude.specs.Blocks.{flatten}
use Rattle.prelude.specs.Blocks.Laws.{flatten_append}
use Rattle.prelude.specs.Lists.{tab}
use Rattle.prelude.specs.Lists.Laws.{tab_more}
use Rattle.cnf.specs.Cnf.{Formula}
use Rattle.rows.specs.Rows.{Row, set_below, kind_of, by_kind, off_below, row_at, rows_of, literal_on}
use Rattle.rows.proofs.RowsLaws.{on_step}
use Rattle.rows.specs.declared.Kind.{Kind}
use Rattle.rows.specs.declared.Kind.TheVariants.{On, Off, Free}
use Rattle.request.proofs.NumbersLaws.{refusal_most}
use Rattle.request.specs.Numbers.{rows_most, refusal_of}
use Rattle.request.specs.declared.Request.{Request}
use Rattle.formula.specs.Formula.{terminals, transitivity, choices, on_row, off_row, row_variables, row_clauses, rows_from, formula, formula_of, network_variables}
use Rattle.formula.specs.Formula.Groups.{transitivity_length, transitivity_literals, choices_length, choices_literals}
use Rattle.formula.proofs.FormulaOnRow.{on_row_length, on_row_literals_lem}
use Rattle.formula.proofs.FormulaOffRow.{off_row_length, off_row_literals_lem}
use Rattle.formula.proofs.FormulaRows.{variables_in, rows_append, variables_append}
use Rattle.formula.specs.Count.{on_row_count, on_row_literals, off_row_count, off_row_literals, network_count, network_literals, split, clauses_before, literals_before, clause_count, literal_count, counts_of, sizes_of}
use Rattle.formula.specs.declared.Sizes.{Sizes}
use Rattle.refusal.specs.declared.Refusal.{Refusal}
use Rattle.refusal.specs.Refusal.{number_of}
use Rattle.refusal.specs.Refusal.Laws.{unless-number_of, unless-ok}

-- so much for each row
pub weighted_most : (on off a b c : ℕ) → on + off ≤ rows_most → a ≤ c → b ≤ c → on * a + off * b ≤ rows_most * c
weighted_most on off a b c h k l =
    let x = mul-le-mul_left on k in
    let y = mul-le-mul_left off l in
    let z = add-mul on off c in
    let w = mul-le-mul_right c h in
    omega arith

pub split_none : (q : Request) (a b : ℕ) → split q a b 0 ≡ 0
unfolding split set_below off_below
split_none q a b = ap₂ (λ (x y : ℕ). x + y) (zero-mul a) (zero-mul b)

-- one row more: a if it is on, b if it is off, and nothing if it is free
pub split_more : (q : Request) (a b k : ℕ) → split q a b (suc k) ≡ split q a b k + by_kind a b 0 (kind_of q k)
unfolding split off_below
split_more q a b k =
    ap (λ (x : ℕ). x * a + (off_below q k + by_kind 0 1 0 (kind_of q k)) * b) (on_step q k)
    ∙ go (kind_of q k) (set_below q.table k) (off_below q k)
  where
    go : (x : Kind) (s t : ℕ) → (s + by_kind 1 0 0 x) * a + (t + by_kind 0 1 0 x) * b ≡ s * a + t * b + by_kind a b 0 x
    go On s t = let e = add-mul s 1 a in ap (λ (y : ℕ). (s + 1) * a + y * b) (add-zero t) ∙ omega arith
    go Off s t = let e = add-mul t 1 b in ap (λ (y : ℕ). y * a + (t + 1) * b) (add-zero s) ∙ omega arith
    go Free s t = ap₂ (λ (x y : ℕ). x * a + y * b) (add-zero s) (add-zero t) ∙ omega arith

-- a measure that adds up over rows
measured : (q : Request) (a b : ℕ) (μ : ℕ → ℕ) → μ 0 ≡ 0 → ((k : ℕ) → μ (suc k) ≡ μ k + by_kind a b 0 (kind_of q k))
    → (k : ℕ) → μ k ≡ split q a b k
measured q a b μ z s zero = z ∙ sym (split_none q a b)
measured q a b μ z s (suc k) =
    s k ∙ ap (λ (x : ℕ). x + by_kind a b 0 (kind_of q k)) (measured q a b μ z s k) ∙ sym (split_more q a b k)

module _ (q : Request) where
  -- the rows below row k
  abbrev pub rows_below : ℕ → List Row
  rows_below k = tab 0 k (row_at q)

  pub below_more : (k : ℕ) → rows_below (suc k) ≡ rows_below k ++ (row_at q k ∷ [])
  below_more k = tab_more 0 k (row_at q) ∙ ap (λ (x : ℕ). rows_below k ++ (row_at q x ∷ [])) (let z : 0 + k ≡ k = omega arith in z)

  -- their variables
  pub variables_below : (k : ℕ) → variables_in q.r q.m (rows_below k) ≡ split q (q.m * (2 * q.r + 1)) (terminals q.r) k
  unfolding variables_in row_variables
  variables_below k =
      measured q (q.m * (2 * q.r + 1)) (terminals q.r) (λ j. variables_in q.r q.m (rows_below j)) refl
      (λ j. ap (variables_in q.r q.m) (below_more j) ∙ variables_append q.r q.m (rows_below j) (row_at q j ∷ [])
      ∙ ap (λ (x : ℕ). variables_in q.r q.m (rows_below j) + x) (add-zero (by_kind (q.m * (2 * q.r + 1)) (terminals q.r) 0 (kind_of q j))))
      k

  -- the clauses of row k, past C variables
  abbrev clauses_at : ℕ → ℕ → Formula
  clauses_at C k = row_clauses q.n q.r q.m C (row_at q k)

  -- and those of the rows below it
  abbrev clauses_up_to : ℕ → ℕ → Formula
  clauses_up_to B k = rows_from q.n q.r q.m B (rows_below k)

  -- these by a measure that adds up
  clauses_below : (μ : Formula → ℕ) → μ [] ≡ 0 → ((f g : Formula) → μ (f ++ g) ≡ μ f + μ g) → (a b B : ℕ)
      → ((C k : ℕ) → μ (clauses_at C k) ≡ by_kind a b 0 (kind_of q k))
      → (k : ℕ) → μ (clauses_up_to B k) ≡ split q a b k
  unfolding rows_from
  clauses_below μ z add a b B size k =
      measured q a b (λ j. μ (clauses_up_to B j)) z
      (λ j.
      let C : ℕ = B + variables_in q.r q.m (rows_below j) in
      ap (λ (x : List Row). μ (rows_from q.n q.r q.m B x)) (below_more j)
      ∙ ap μ (rows_append q.n q.r q.m B (rows_below j) (row_at q j ∷ []))
      ∙ add (clauses_up_to B j) (clauses_at C j ++ [])
      ∙ ap (λ (x : ℕ). μ (clauses_up_to B j) + x)
      (add (clauses_at C j) [] ∙ ap₂ (λ (x y : ℕ). x + y) (size C j) z ∙ add-zero (by_kind a b 0 (kind_of q j))))
      k

  -- the clauses of a row
  pub row_length : (C k : ℕ)
      → length (clauses_at C k) ≡ by_kind (on_row_count q.n q.r q.m) (off_row_count q.n (terminals q.r) q.r) 0 (kind_of q k)
  unfolding row_clauses
  row_length C k = go (kind_of q k)
    where
      go : (x : Kind)
          → length (by_kind (on_row q.n q.r q.m C (literal_on q.n k)) (off_row q.n (terminals q.r) q.r C (literal_on q.n k)) [] x)
          ≡ by_kind (on_row_count q.n q.r q.m) (off_row_count q.n (terminals q.r) q.r) 0 x
      go On = on_row_length q.n q.r q.m C k
      go Off = off_row_length q.n (terminals q.r) q.r C k
      go Free = refl

  -- the literals of a row
  row_literals : (C k : ℕ)
      → length (flatten (clauses_at C k)) ≡ by_kind (on_row_literals q.n q.r q.m) (off_row_literals q.n (terminals q.r) q.r) 0 (kind_of q k)
  unfolding row_clauses flatten
  row_literals C k = go (kind_of q k)
    where
      go : (x : Kind)
          → length (flatten (by_kind (on_row q.n q.r q.m C (literal_on q.n k)) (off_row q.n (terminals q.r) q.r C (literal_on q.n k)) [] x))
          ≡ by_kind (on_row_literals q.n q.r q.m) (off_row_literals q.n (terminals q.r) q.r) 0 x
      go On = on_row_literals_lem q.n q.r q.m C k
      go Off = off_row_literals_lem q.n (terminals q.r) q.r C k
      go Free = refl

  pub rows_clauses_lem : (B k : ℕ)
      → length (clauses_up_to B k) ≡ split q (on_row_count q.n q.r q.m) (off_row_count q.n (terminals q.r) q.r) k
  rows_clauses_lem B k =
      clauses_below length refl length-append (on_row_count q.n q.r q.m) (off_row_count q.n (terminals q.r) q.r) B row_length k

  pub rows_literals : (B k : ℕ)
      → length (flatten (clauses_up_to B k)) ≡ split q (on_row_literals q.n q.r q.m) (off_row_literals q.n (terminals q.r) q.r) k
  unfolding flatten
  rows_literals B k =
      clauses_below (λ (f : Formula). length (flatten f)) refl (λ f g. ap length (flatten_append f g) ∙ length-append (flatten f) (flatten g))
      (on_row_literals q.n q.r q.m) (off_row_literals q.n (terminals q.r) q.r) B row_literals k

-- groups 1 and 2 have so many clauses
pub network_length : (n r : ℕ) → length (transitivity (terminals r)) + length (choices n (terminals r) r) ≡ network_count n r
network_length n r = ap₂ (λ (x y : ℕ). x + y) (transitivity_length (terminals r)) (choices_length n (terminals r) r)

-- and so many literals
pub network_literals_lem : (n r : ℕ)
    → length (flatten (transitivity (terminals r))) + length (flatten (choices n (terminals r) r)) ≡ network_literals n r
network_literals_lem n r =
    ap₂ (λ (x y : ℕ). x + y) (transitivity_literals (terminals r) ∙ ap (λ (x : ℕ). 3 * x) (transitivity_length (terminals r)))
    (choices_literals n (terminals r) r)

module _ (q : Request) where
  -- C is the number of clauses
  pub clause_count_lem : length (formula_of q) ≡ clause_count q
  unfolding formula_of formula clause_count clauses_before rows_of
  clause_count_lem =
      let e = network_length q.n q.r in
      let f = rows_clauses_lem q (network_variables q.n q.r) (2 ^ q.n) in
      simp length-append (omega arith)

  -- T is the number of literals
  pub literal_count_lem : length (flatten (formula_of q)) ≡ literal_count q
  unfolding formula_of formula literal_count literals_before rows_of
  literal_count_lem =
      let e = network_literals_lem q.n q.r in
      let f = rows_literals q (network_variables q.n q.r) (2 ^ q.n) in
      simp (flatten_append, length-append) (omega arith)

  -- the sizes of a request that is taken
  pub sizes_taken : refusal_of q ≡ 0 → sizes_of q ≡ Ok (counts_of q)
  unfolding sizes_of
  sizes_taken e = rw e

  -- their refusal is the request's
  pub sizes_refusal : number_of (sizes_of q) ≡ refusal_of q
  unfolding sizes_of
  sizes_refusal = unless-number_of (refusal_of q) (counts_of q) (refusal_most q)

  -- and where there is none they are V, C and T
  pub sizes_values : (x : Result Sizes Refusal) → x ≡ sizes_of q → IfOk x (λ s. s ≡ counts_of q)
  unfolding sizes_of
  sizes_values (Ok s) e = sym (unless-ok (refusal_of q) (counts_of q) s (sym e)).1
  sizes_values (Err f) e = tt
