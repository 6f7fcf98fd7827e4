-- The values of all variables that a network and its walks give, as one list in the order of the variables: X, L, then for each
-- row the steps of a walk or the sides. Assumes nothing.
use Rattle.std.specs.Prelude.{◌≡◌, ◌≢◌}
use Rattle.std.proofs.Math.Path.{refl, sym, ap, ap₂}
use Rattle.std.proofs.Common.{◌∙◌, ⊎_elim, mul_comm, eqb→eq}
use Rattle.std.proofs.Math.Bool.{Bool, false}
use mathlib.Core.List.{List, [], ◌∷◌, ◌++◌}
use Prim.Native.Nat.{ℕ, ◌+◌, ◌-◌, ◌*◌, ◌≤◌, ◌<◌}
use Rattle.std.proofs.Math.Nat.{mul-one}
use native.Mathlib.Omega.{arith}
use Rattle.std.proofs.Math.Arith.{digits_lt}
use Rattle.std.proofs.Math.Dec.{eqb}
use Rattle.std.proofs.Math.ListN.{length, get_or, get_or-append}
use Rattle.std.proofs.Math.Seq.{get_or-append-add}
use Rattle.prelude.specs.Tests.{tests_eq, eq→eqb, le?}
use Rattle.prelude.specs.Blocks.{each}
use Rattle.prelude.specs.Blocks.Laws.{each_length, each_at, singles_length, singles_at}
use Rattle.cnf.specs.Cnf.{Assignment, Sat}
use Rattle.cnf.specs.Cnf.Parts.{Sat-join}
use Rattle.rows.specs.Rows.{Row, by_kind}
use Rattle.rows.specs.declared.Kind.{Kind}
use Rattle.rows.specs.declared.Kind.TheVariants.{On, Off, Free}
use Rattle.network.specs.Networks.{Net, literal_at, label_at, closed_on, FormedAs, DoneIf, DoesAll}
use Rattle.formula.specs.Formula.{terminals, pair_number, X, P, L, W, S, on_row, off_row, row_variables, row_clauses, rows_from, network_variables}
use Rattle.formula.specs.Formula.Laws.{joined_low, joined_high, pair_number_lem, pairs_count}
use Rattle.formula.proofs.FormulaRange.{joined_in}
use Rattle.formula.specs.Pairs.{pairs_before}
use Rattle.formula.specs.Pairs.Laws.{pair_row, pair_rows_length, pair_rows_at}
use Rattle.encoding.specs.Stands.{Stands}
use Rattle.encoding.specs.OnRow.{entered, walk_on_row}
use Rattle.encoding.specs.OffRow.{side_of, none_off}

-- the assignment of a list of values, the first of them for variable 1
abbrev pub valued : List Bool → Assignment
valued l x = get_or l (x - 1) false

-- X(i,j): the labels of i and j are equal
unfoldable pub joined_values : ℕ → Net → List Bool
joined_values r w = each (terminals r) (pair_row 1 (terminals r) (λ i j. eqb (label_at w i) (label_at w j) ∷ []))

-- L(s,v): the literal of s is v
unfoldable pub chosen_values : ℕ → ℕ → Net → List Bool
chosen_values n r w = each r (λ s. each (2 * n) (λ v. eqb (literal_at w s) v ∷ []))

-- W(t + 1,1), .., Z(t + 1), from the ends that a walk enters
abbrev pub step_values : ℕ → List ℕ → ℕ → List Bool
step_values r es t = each (2 * r + 1) (λ e. entered r es (t + 1) (e + 1) ∷ [])

-- W and Z of an on row, from a walk; S of an off row; a free row has no variables
unfoldable pub row_values : (x : Kind) (r m : ℕ) (shut : ℕ → Bool) (label : ℕ → ℕ) → DoneIf x r m shut label → List Bool
row_values On r m shut label d = each m (step_values r d.0)
row_values Off r m shut label d = each (terminals r) (λ i. side_of r shut label i ∷ [])
row_values Free r m shut label d = []

-- the rows, rising
unfoldable pub rows_values : (r m : ℕ) (w : Net) (rows : List Row) → DoesAll r m w rows → List Bool
rows_values r m w [] d = []
rows_values r m w (row ∷ rows) d = row_values row.kind r m (closed_on row w) (label_at w) d.0 ++ rows_values r m w rows d.1

-- equality as a test, the other way round
equal_back : (a b : ℕ) → eqb a b ≡ eqb b a
equal_back a b = tests_eq (eqb a b) (eqb b a) (λ t. eq→eqb b a (sym (eqb→eq a b t))) (λ t. eq→eqb a b (sym (eqb→eq b a t)))

module _ (r : ℕ) (w : Net) where
  -- X has P values
  joined_long : length (joined_values r w) ≡ P (terminals r)
  unfolding joined_values
  joined_long =
      pair_rows_length 1 (terminals r) (terminals r) (λ i j. eqb (label_at w i) (label_at w j) ∷ []) (λ i j. refl)
      ∙ mul-one (pairs_before (terminals r) (terminals r)) ∙ sym (pairs_count (terminals r))

  -- the value of X(i,j), i<j
  pair_at : (i j : ℕ) → i < j → j < terminals r → valued (joined_values r w) (pair_number (terminals r) i j) ≡ eqb (label_at w i) (label_at w j)
  unfolding joined_values
  pair_at i j l u =
      let k : ℕ = pairs_before (terminals r) i + (j - (i + 1)) in
      let number = pair_number_lem (terminals r) i j (omega arith) in
      let e : pair_number (terminals r) i j - 1 ≡ k * 1 + 0 = omega arith in
      ap (λ (x : ℕ). get_or (joined_values r w) x false) e
      ∙ pair_rows_at 1 (terminals r) k i j 0 (λ i j. eqb (label_at w i) (label_at w j) ∷ []) false (λ i j. refl)
      (record { up = l; within = u; place = refl }) (omega arith)

  -- and in any order
  joined_at_lem : (i j : ℕ) → i < terminals r → j < terminals r → i ≢ j
      → valued (joined_values r w) (X (terminals r) i j) ≡ eqb (label_at w i) (label_at w j)
  joined_at_lem i j a b d =
      ⊎_elim
      (λ (l : j ≤ i).
      ap (valued (joined_values r w)) (joined_high (terminals r) i j l) ∙ pair_at j i (omega arith) a ∙ equal_back (label_at w j) (label_at w i))
      (λ (l : i < j). ap (valued (joined_values r w)) (joined_low (terminals r) i j l) ∙ pair_at i j l b)
      (le? j i)

module _ (n r : ℕ) (w : Net) where
  -- the values of L of one switch
  abbrev switch_values : ℕ → List Bool
  switch_values s = each (2 * n) (λ v. eqb (literal_at w s) v ∷ [])

  -- L has 2n values for each switch
  chosen_long : length (chosen_values n r w) ≡ r * (2 * n)
  unfolding chosen_values
  chosen_long = each_length r (2 * n) switch_values (λ s h. singles_length (2 * n) (λ v. eqb (literal_at w s) v))

  -- the value of L(s,v)
  chosen_at_lem : (s v : ℕ) → s < r → v < 2 * n → get_or (chosen_values n r w) (s * (2 * n) + v) false ≡ eqb (literal_at w s) v
  unfolding chosen_values
  chosen_at_lem s v h l =
      each_at r (2 * n) s v switch_values false (λ s h. singles_length (2 * n) (λ v. eqb (literal_at w s) v)) h l
      ∙ singles_at (2 * n) v (λ v. eqb (literal_at w s) v) false l

-- values that start with those of X and L stand for the network
pub values_stand : (n r : ℕ) (w : Net) (rest : List Bool) → FormedAs n r w
    → Stands n r w (valued (joined_values r w ++ (chosen_values n r w ++ rest)))
unfolding L
values_stand n r w rest form =
    record {
      joined = λ i j a b d.
          let place = joined_in (terminals r) i j a b d in
          let low = place.0 in
          let high = place.1 in
          let long = joined_long r w in
          get_or-append (joined_values r w) (chosen_values n r w ++ rest) false (X (terminals r) i j - 1) (omega arith)
          ∙ joined_at_lem r w i j a b d;
      chosen = λ s v h l.
          let long = joined_long r w in
          let turn = mul_comm s (2 * n) in
          let room : s * (2 * n) + v < length (chosen_values n r w) = rw (chosen_long n r w) (digits_lt h l) in
          let e : L n (terminals r) s v - 1 ≡ length (joined_values r w) + (s * (2 * n) + v) = omega arith in
          ap (λ (x : ℕ). get_or (joined_values r w ++ (chosen_values n r w ++ rest)) x false) e
          ∙ get_or-append-add (joined_values r w) (chosen_values n r w ++ rest) (s * (2 * n) + v) false
          ∙ get_or-append (chosen_values n r w) rest false (s * (2 * n) + v) room ∙ chosen_at_lem n r w s v h l;
      low = form.literals_low;
    }

-- and the values of the rows come after them
pub rows_after : (n r : ℕ) (w : Net) (rest : List Bool) → (k : ℕ)
    → get_or (joined_values r w ++ (chosen_values n r w ++ rest)) (network_variables n r + k) false ≡ get_or rest k false
rows_after n r w rest k =
    let long = joined_long r w in
    let more = chosen_long n r w in
    let turn = mul_comm r (2 * n) in
    let e : network_variables n r + k ≡ length (joined_values r w) + (length (chosen_values n r w) + k) = omega arith in
    ap (λ (x : ℕ). get_or (joined_values r w ++ (chosen_values n r w ++ rest)) x false) e
    ∙ get_or-append-add (joined_values r w) (chosen_values n r w ++ rest) (length (chosen_values n r w) + k) false
    ∙ get_or-append-add (chosen_values n r w) rest k false

-- ---- the rows
-- a step has 2r+1 values
steps_long : (r : ℕ) (es : List ℕ) (t : ℕ) → length (step_values r es t) ≡ 2 * r + 1
steps_long r es t = singles_length (2 * r + 1) (λ e. entered r es (t + 1) (e + 1))

module _ (r m : ℕ) (shut : ℕ → Bool) (label : ℕ → ℕ) where
  -- a row has as many values as variables
  row_long : (x : Kind) (d : DoneIf x r m shut label)
      → length (row_values x r m shut label d) ≡ by_kind (m * (2 * r + 1)) (terminals r) 0 x
  unfolding row_values
  row_long On d = each_length m (2 * r + 1) (step_values r d.0) (λ t h. steps_long r d.0 t)
  row_long Off d = singles_length (terminals r) (side_of r shut label)
  row_long Free d = refl

  -- the value of W(t,e) or Z(t)
  step_at : (d : DoneIf On r m shut label) (t e : ℕ) → 1 ≤ t → t ≤ m → 1 ≤ e → e ≤ 2 * r + 1
      → get_or (row_values On r m shut label d) ((t - 1) * (2 * r + 1) + (e - 1)) false ≡ entered r d.0 t e
  unfolding row_values
  step_at d t e l u k h =
      let before : t - 1 + 1 ≡ t = omega arith in
      let below : e - 1 + 1 ≡ e = omega arith in
      each_at m (2 * r + 1) (t - 1) (e - 1) (step_values r d.0) false (λ t h. steps_long r d.0 t) (omega arith) (omega arith)
      ∙ singles_at (2 * r + 1) (e - 1) (λ e. entered r d.0 (t - 1 + 1) (e + 1)) false (omega arith)
      ∙ ap₂ (λ (x y : ℕ). entered r d.0 x y) before below

  -- the value of S(i)
  side_at : (d : DoneIf Off r m shut label) (i : ℕ) → i < terminals r
      → get_or (row_values Off r m shut label d) i false ≡ side_of r shut label i
  unfolding row_values
  side_at d i h = singles_at (terminals r) i (side_of r shut label) false h

module _ (n r m : ℕ) (w : Net) (values : List Bool) (stands : Stands n r w (valued values)) where
  -- the values of a row
  abbrev values_of : (row : Row) (x : Kind) → DoneIf x r m (closed_on row w) (label_at w) → List Bool
  values_of row x d = row_values x r m (closed_on row w) (label_at w) d

  -- the clauses of a row hold where its values stand after B others
  row_holds : (B : ℕ) (row : Row) (x : Kind) (d : DoneIf x r m (closed_on row w) (label_at w))
      → ((k : ℕ) → k < length (values_of row x d) → get_or values (B + k) false ≡ get_or (values_of row x d) k false)
      → Sat (valued values) (by_kind (on_row n r m B row.value) (off_row n (terminals r) r B row.value) [] x)
  unfolding W S
  row_holds B row On d is =
      walk_on_row n r m w (valued values) stands B row d.0 d.1 d.2 (λ t e l u k h.
      let place : ℕ = (t - 1) * (2 * r + 1) + (e - 1) in
      let z : B + (t - 1) * (2 * r + 1) + e - 1 ≡ B + place = omega arith in
      let low : place < m * (2 * r + 1) = digits_lt {q = t - 1} {m = m} {r = e - 1} {c = 2 * r + 1} (omega arith) (omega arith) in
      let long = row_long r m (closed_on row w) (label_at w) On d in
      ap (λ (x : ℕ). get_or values x false) z ∙ is place (omega arith) ∙ step_at r m (closed_on row w) (label_at w) d t e l u k h)
  row_holds B row Off d is =
      none_off n r m w (valued values) stands B row d (λ i h.
      let z : B + i + 1 - 1 ≡ B + i = omega arith in
      let long = row_long r m (closed_on row w) (label_at w) Off d in
      ap (λ (x : ℕ). get_or values x false) z ∙ is i (omega arith) ∙ side_at r m (closed_on row w) (label_at w) d i h)
  row_holds B row Free d is = tt

  -- and those of all rows
  pub rows_hold : (B : ℕ) (rows : List Row) (d : DoesAll r m w rows)
      → ((k : ℕ) → get_or values (B + k) false ≡ get_or (rows_values r m w rows d) k false)
      → Sat (valued values) (rows_from n r m B rows)
  unfolding rows_from row_clauses row_variables rows_values
  rows_hold B [] d is = tt
  rows_hold B (row ∷ rows) d is =
      let these : List Bool = values_of row row.kind d.0 in
      let those : List Bool = rows_values r m w rows d.1 in
      let long : length these ≡ row_variables r m row = row_long r m (closed_on row w) (label_at w) row.kind d.0 in
      Sat-join (valued values) (row_clauses n r m B row) (rows_from n r m (B + row_variables r m row) rows)
      (row_holds B row row.kind d.0 (λ k h. is k ∙ get_or-append these those false k h))
      (rows_hold (B + row_variables r m row) rows d.1 (λ k.
      let z : B + row_variables r m row + k ≡ B + (length these + k) = omega arith in
      ap (λ (x : ℕ). get_or values x false) z ∙ is (length these + k) ∙ get_or-append-add these those k false))
