-- Every variable of a request's clauses is from 1 to V, and V is small. Assumes nothing.
use Rattle.std.proofs.Common.{sym, subst, ⊎_elim, add-mul, mul-add, mul-le-mul, le_refl}
use Rattle.std.specs.Prelude.{Bool, ◌≢◌, eqb}
use Rattle.std.proofs.Math.Bool.{cond}
use mathlib.Core.List.{List, [], ◌∷◌}
use Prim.Native.Nat.{ℕ, ◌+◌, ◌-◌, ◌*◌, ◌^◌, ◌≤◌, ◌<◌}
use native.Mathlib.Omega.{arith}
use Rattle.prelude.specs.Tests.{neqb→ne, le?}
use Rattle.prelude.specs.Lists.{Each}
use Rattle.prelude.specs.Lists.Laws.{each_join, each_cond}
use Rattle.prelude.specs.Blocks.{for}
use Rattle.prelude.specs.Blocks.Laws.{each_blocks}
use Rattle.cnf.specs.Cnf.{pos, neg, Clause}
use Rattle.cnf.specs.declared.Literal.{Literal}
use Rattle.rows.specs.Rows.{Row, set_below, by_kind, off_below, rows_of}
use Rattle.rows.proofs.RowsLaws.{on_off_most}
use Rattle.rows.specs.declared.Kind.{Kind}
use Rattle.rows.specs.declared.Kind.TheVariants.{On, Off, Free}
use Rattle.request.specs.Numbers.{Good}
use Rattle.request.proofs.NumbersLaws.{rows_high}
use Rattle.request.specs.declared.Request.{Request}
use Rattle.network.specs.Networks.{source, sink, switch_of, other}
use Rattle.formula.specs.Formula.{terminals, pair_number, X, P, L, W, S, transitivity, choice, choices, some_step, closed_step, first_step, link_step, last_step, on_row, net_sides, switch_sides, off_row, row_variables, row_clauses, rows_from, formula, formula_of, network_variables}
use Rattle.formula.specs.Formula.Bounds.{pairs_most, chosen_most, steps_most}
use Rattle.formula.specs.Formula.Laws.{joined_low, joined_high, pair_number_lem, pairs_count}
use Rattle.formula.specs.Pairs.Laws.{pairs_grow}
use Rattle.formula.proofs.FormulaRows.{variables_in}
use Rattle.formula.specs.Count.{variables_most, split, variables_before, variable_count}
use Rattle.formula.proofs.CountLaws.{weighted_most, variables_below}

-- a variable from 1 to top
abbrev pub In : ℕ → ℕ → Type 0
In top x = (1 ≤ x) × (x ≤ top)

-- a clause whose variables are from 1 to top
abbrev pub ClauseIn : ℕ → Clause → Type 0
ClauseIn top c = Each (λ (l : Literal). In top l.variable) c

-- X(i,j), i<j, is from 1 to P
pair_in : (N i j : ℕ) → i < j → j < N → In (P N) (pair_number N i j)
pair_in N i j l u =
    let e = pair_number_lem N i j (omega arith) in
    let f = pairs_count N in
    let g = pairs_grow N i N (omega arith) in
    (omega arith, omega arith)

-- X(i,j) is from 1 to P
pub joined_in : (N i j : ℕ) → i < N → j < N → i ≢ j → In (P N) (X N i j)
joined_in N i j l u d =
    ⊎_elim (λ (k : j ≤ i). subst (In (P N)) (sym (joined_high N i j k)) (pair_in N j i (omega (arith, d)) l))
    (λ (k : i < j). subst (In (P N)) (sym (joined_low N i j k)) (pair_in N i j k u))
    (le? j i)

-- L(s,v) is from 1 to P + 2n·r
pub chosen_in : (n N r s v : ℕ) → s < r → v < 2 * n → In (P N + 2 * n * r) (L n N s v)
unfolding L
chosen_in n N r s v h l =
    let e = mul-add (2 * n) s 1 in
    let m = mul-le-mul {n₁ = 2 * n} {m₁ = s + 1} {n₂ = 2 * n} {m₂ = r} (le_refl _) (omega arith) in
    (omega arith, omega arith)

-- W(t,e) and Z(t) are among the m(2r+1) variables from B on
pub entered_in : (r m B t e : ℕ) → 1 ≤ t → t ≤ m → 1 ≤ e → e ≤ 2 * r + 1 → In (B + m * (2 * r + 1)) (W r B t e)
unfolding W
entered_in r m B t e h k l u =
    let d = add-mul (t - 1) 1 (2 * r + 1) in
    let f = mul-le-mul {n₁ = t - 1 + 1} {m₁ = 2 * r + 1} {n₂ = m} {m₂ = 2 * r + 1} (omega arith) (le_refl _) in
    (omega arith, omega arith)

module _ (n r m top : ℕ) (base : network_variables n r ≤ top) where
  joined : (i j : ℕ) → i < terminals r → j < terminals r → i ≢ j → In top (X (terminals r) i j)
  joined i j h l d = let e = joined_in (terminals r) i j h l d in (e.0, omega arith)

  chosen : (s v : ℕ) → s < r → v < 2 * n → In top (L n (terminals r) s v)
  chosen s v h k = let e = chosen_in n (terminals r) r s v h k in (e.0, omega arith)

  -- group 1
  pub transitivity_in : Each (ClauseIn top) (transitivity (terminals r))
  unfolding transitivity
  transitivity_in =
      each_blocks _ (terminals r) _ (λ i a. each_blocks _ _ _ (λ j b. each_blocks _ _ _ (λ k d.
      let i' : ℕ = 0 + i in
      let j' : ℕ = i' + 1 + j in
      let k' : ℕ = j' + 1 + k in
      let ij = joined i' j' (omega arith) (omega arith) (λ z. omega arith) in
      let jk = joined j' k' (omega arith) (omega arith) (λ z. omega arith) in
      let ik = joined i' k' (omega arith) (omega arith) (λ z. omega arith) in
      ((ij, (jk, (ik, tt))), ((ij, (ik, (jk, tt))), ((ik, (jk, (ij, tt))), tt))))))

  -- group 2
  pub choices_in : Each (ClauseIn top) (choices n (terminals r) r)
  unfolding choices choice
  choices_in =
      each_blocks _ r _ (λ s a. (
        each_blocks _ (2 * n) _ (λ v b. (chosen (0 + s) (0 + v) (omega arith) (omega arith), tt)),
        each_blocks _ (2 * n) _ (λ v b. each_blocks _ _ _ (λ w d.
            ((chosen (0 + s) (0 + v) (omega arith) (omega arith), (chosen (0 + s) (0 + v + 1 + w) (omega arith) (omega arith), tt)), tt))),
      ))

  module _ (B : ℕ) (value : ℕ → Bool) where
    module _ (fits : B + m * (2 * r + 1) ≤ top) where
      entered : (t e : ℕ) → 1 ≤ t → t ≤ m → 1 ≤ e → e ≤ 2 * r + 1 → In top (W r B t e)
      entered t e h k a b = let f = entered_in r m B t e h k a b in (f.0, omega arith)

      some_in : Each (ClauseIn top) (some_step r m B)
      unfolding some_step
      some_in =
          each_blocks _ m _ (λ t a. (
            each_join _ (for 1 (2 * r) (λ e. pos (W r B (1 + t) e) ∷ [])) _
                (each_blocks _ (2 * r) _ (λ e b. (entered (1 + t) (1 + e) (omega arith) (omega arith) (omega arith) (omega arith), tt)))
                (entered (1 + t) (2 * r + 1) (omega arith) (omega arith) (omega arith) (omega arith), tt),
            tt,
          ))

      closed_in : Each (ClauseIn top) (closed_step n r m B value)
      unfolding closed_step
      closed_in =
          each_blocks _ m _ (λ t a. each_blocks _ (2 * r) _ (λ e b. each_blocks _ (2 * n) _ (λ v d.
          each_cond _ (value (0 + v)) _ _ (λ _. tt) (λ _.
          ((entered (1 + t) (1 + e) (omega arith) (omega arith) (omega arith) (omega arith), (chosen (switch_of (1 + e)) (0 + v) (omega arith) (omega arith), tt)), tt)))))

      first_in : 1 ≤ m → Each (ClauseIn top) (first_step r B)
      unfolding first_step
      first_in h =
          each_join _ (for 1 (2 * r) (λ e. (neg (W r B 1 e) ∷ pos (X (terminals r) source e) ∷ []) ∷ [])) _
          (each_blocks _ (2 * r) _ (λ e b.
          ((entered 1 (1 + e) (omega arith) h (omega arith) (omega arith), (joined source (1 + e) (omega arith) (omega arith) (λ z. omega arith), tt)), tt)))
          ((entered 1 (2 * r + 1) (omega arith) h (omega arith) (omega arith), (joined source (sink r) (omega arith) (omega arith) (λ z. omega arith), tt)), tt)

      link_in : Each (ClauseIn top) (link_step r m B)
      unfolding link_step
      link_in =
          each_blocks _ (m - 1) _ (λ t a. each_blocks _ (2 * r) _ (λ e b.
          let t' : ℕ = 1 + t in
          let e' : ℕ = 1 + e in
          let o : other e' ≤ 2 * r = omega arith in
          let here = entered t' e' (omega arith) (omega arith) (omega arith) (omega arith) in
          each_join _ (for 1 (2 * r) (λ g. cond (eqb g (other e')) [] ((neg (W r B t' e') ∷ neg (W r B (t' + 1) g) ∷ pos (X (terminals r) (other e') g) ∷ []) ∷ []))) _
          (each_blocks _ (2 * r) _ (λ g d. each_cond _ (eqb (1 + g) (other e')) _ _ (λ _. tt) (λ z. (
            (
              here,
              (
                entered (t' + 1) (1 + g) (omega arith) (omega arith) (omega arith) (omega arith),
                (joined (other e') (1 + g) (omega arith) (omega arith) (λ y. neqb→ne (1 + g) (other e') z (sym y)), tt),
              ),
            ),
            tt,
          )))) (
            (
              here,
              (
                entered (t' + 1) (2 * r + 1) (omega arith) (omega arith) (omega arith) (omega arith),
                (joined (other e') (sink r) (omega arith) (omega arith) (λ z. omega arith), tt),
              ),
            ),
            tt,
          )))

      last_in : 1 ≤ m → Each (ClauseIn top) (last_step r m B)
      unfolding last_step
      last_in h =
          each_blocks _ (2 * r) _ (λ e b.
          let o : other (1 + e) ≤ 2 * r = omega arith in
          ((entered m (1 + e) h (omega arith) (omega arith) (omega arith), (joined (other (1 + e)) (sink r) (omega arith) (omega arith) (λ z. omega arith), tt)), tt))

      -- an on row
      on_in : Each (ClauseIn top) (on_row n r m B value)
      unfolding on_row
      on_in =
          each_cond _ (eqb m 0) _ _ (λ _. ((joined source (sink r) (omega arith) (omega arith) (λ z. omega arith), tt), tt)) (λ z.
          let h : 1 ≤ m = omega (arith, neqb→ne m 0 z) in
          each_join _ (some_step r m B) _ some_in (each_join _ (closed_step n r m B value) _ closed_in
          (each_join _ (first_step r B) _ (first_in h) (each_join _ (link_step r m B) _ link_in (last_in h)))))

    -- an off row
    off_in : B + terminals r ≤ top → Each (ClauseIn top) (off_row n (terminals r) r B value)
    unfolding off_row net_sides switch_sides S
    off_in fits = (
      (side source (omega arith), tt),
      (
        (side (sink r) (omega arith), tt),
        each_join _ (net_sides (terminals r) B) _
            (each_blocks _ (terminals r) _ (λ i a. each_blocks _ _ _ (λ j b.
            let i' : ℕ = 0 + i in
            let j' : ℕ = i' + 1 + j in
            let ij = joined i' j' (omega arith) (omega arith) (λ z. omega arith) in
            let si = side i' (omega arith) in
            let sj = side j' (omega arith) in
            ((ij, (si, (sj, tt))), ((ij, (si, (sj, tt))), tt)))))
            (each_blocks _ r _ (λ k a. each_blocks _ (2 * n) _ (λ v b. each_cond _ (value (0 + v)) _ _ (λ _.
            let lv = chosen (0 + k) (0 + v) (omega arith) (omega arith) in
            let sa = side (2 * (0 + k) + 1) (omega arith) in
            let sb = side (2 * (0 + k) + 2) (omega arith) in
            ((lv, (sa, (sb, tt))), ((lv, (sa, (sb, tt))), tt))) (λ _. tt)))),
      ),
    )
      where
        side : (i : ℕ) → i < terminals r → In top (S B i)
        side i h = (omega arith, omega arith)

  -- the rows, where their variables fit
  rows_in : (B : ℕ) (rows : List Row) → B + variables_in r m rows ≤ top → Each (ClauseIn top) (rows_from n r m B rows)
  unfolding rows_from row_clauses row_variables variables_in
  rows_in B [] h = tt
  rows_in B (row ∷ rows) h =
      each_join _ (row_clauses n r m B row) _ (one row.kind (omega arith)) (rows_in (B + row_variables r m row) rows (omega arith))
    where
      one : (x : Kind) → B + by_kind (m * (2 * r + 1)) (terminals r) 0 x ≤ top
          → Each (ClauseIn top) (by_kind (on_row n r m B row.value) (off_row n (terminals r) r B row.value) [] x)
      one On h = on_in B row.value h
      one Off h = off_in B row.value h
      one Free h = tt

-- every variable of a request's clauses is from 1 to V
pub range : (q : Request) → Each (Each (λ l. (1 ≤ l.variable) × (l.variable ≤ variable_count q))) (formula_of q)
unfolding formula_of formula rows_of variable_count variables_before
range q =
    let e = variables_below q (2 ^ q.n) in
    let N : ℕ = terminals q.r in
    each_join _ (transitivity N) _ (transitivity_in q.n q.r q.m (variable_count q) (omega arith))
    (each_join _ (choices q.n N q.r) _ (choices_in q.n q.r q.m (variable_count q) (omega arith))
    (rows_in q.n q.r q.m (variable_count q) (omega arith) (P N + 2 * q.n * q.r) (rows_of q) (omega arith)))

-- V is no more than the most variables
pub variables_most_lem : (q : Request) → Good q → variable_count q ≤ variables_most
unfolding variable_count variables_before split P
variables_most_lem q g =
    let p = pairs_most (terminals q.r) (omega (arith, g.r_high)) in
    let l = chosen_most q.n q.r g.n_high g.r_high in
    let most = rows_high q.n g.n_high in
    let within = on_off_most q (2 ^ q.n) in
    let steps = steps_most q.r q.m g.r_high g.m_high in
    let rows = weighted_most (set_below q.table (2 ^ q.n)) (off_below q (2 ^ q.n)) _ (terminals q.r) _ (omega arith) steps (omega (arith, g.r_high)) in
    omega arith
