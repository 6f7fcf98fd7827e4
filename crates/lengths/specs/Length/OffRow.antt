-- The lines of an off row: how long they are, by the lengths of its variables, of all X, and of the L that are 1 on it. Assumes
-- nothing.
use Rattle.std.specs.Prelude.{◌≡◌, Bool, []}
use Rattle.std.proofs.Math.Path.{refl, sym, ap}
use Rattle.std.proofs.Common.{◌∙◌, add-mul, mul_comm}
use Rattle.std.proofs.Math.Bool.{true, false, cond}
use Prim.Native.Nat.{ℕ, ◌+◌, ◌-◌, ◌*◌}
use native.Mathlib.Omega.{arith}
use Rattle.prelude.specs.Sums.{sum}
use Rattle.prelude.specs.Sums.Laws.{sum_same, sum_add, sum_times, sum_const, sum_blocks, pair_add, pair_times, pair_ends}
use Rattle.rows.specs.Rows.{literal_on}
use Rattle.formula.specs.Pairs.Laws.{pair_row}
use Rattle.formula.specs.Values.{has_value}
use Rattle.formula.specs.Values.Laws.{half_count, chosen_block}
use Rattle.formula.specs.Formula.{terminals, X, P, L, S, net_sides, switch_sides, off_row}
use Rattle.formula.specs.Formula.Laws.{pairs_count}
use Rattle.formula.proofs.FormulaOffRow.{net_pair, net_sides_rows, switch_pair, switch_block, switch_sides_blocks}
use Rattle.lengths.specs.Lines.{literal_length, lines_length}
use Rattle.lengths.specs.Length.{run_length, chosen_of, chosen_length}
use Rattle.lengths.specs.Length.Laws.{lines_append, lines_each, sum_where}
use Rattle.lengths.specs.Length.Groups.{pairs_const, joined_all}

module _ (r B : ℕ) where
  abbrev N : ℕ
  N = terminals r

  abbrev side : ℕ → ℕ
  side i = literal_length (S B i)

  -- all sides are a run
  sides_all : sum N side ≡ run_length (B + 1) N
  unfolding S run_length
  sides_all = sum_same N side (λ i. literal_length (B + 1 + i)) (λ i l. ap literal_length (omega arith))

  -- and so are those of the ends
  sides_ends : sum r (λ s. side (2 * s + 1) + side (2 * s + 2)) ≡ run_length (B + 2) (2 * r)
  unfolding S run_length sum
  sides_ends =
      sum_same r _ (λ s. sum 2 (λ j. literal_length (B + 2 + (s * 2 + j))))
      (λ s l.
      let a : literal_length (B + (2 * s + 1) + 1) ≡ literal_length (B + 2 + (s * 2 + 0)) = ap literal_length (omega arith) in
      let b : literal_length (B + (2 * s + 2) + 1) ≡ literal_length (B + 2 + (s * 2 + 1)) = ap literal_length (omega arith) in
      omega arith)
      ∙ sym (sum_blocks r 2 (λ i. literal_length (B + 2 + i))) ∙ ap (λ (k : ℕ). sum k (λ i. literal_length (B + 2 + i))) (mul_comm r 2)

  -- two clauses for each pair of terminals
  pub net_sides_size : lines_length (net_sides N B) ≡ 8 * P N + 2 * run_length 1 (P N) + 2 * ((2 * r + 1) * run_length (B + 1) N)
  net_sides_size =
      let lines = ap lines_length (net_sides_rows N B) ∙ lines_each N (pair_row 2 N (net_pair N B))
      ∙ sum_same N _ _ (λ i l. lines_each (N - (i + 1)) (λ j. net_pair N B i (i + 1 + j))
      ∙ sum_same (N - (i + 1)) _ (λ j. 2 * (4 + (literal_length (X N i (i + 1 + j)) + (side i + side (i + 1 + j))))) (λ j h. omega arith)) in
      let twice = pair_times 2 N (λ i j. 4 + (literal_length (X N i j) + (side i + side j))) in
      let parts = pair_add N (λ i j. 4) (λ i j. literal_length (X N i j) + (side i + side j)) in
      let more = pair_add N (λ i j. literal_length (X N i j)) (λ i j. side i + side j) in
      let same = pairs_const N 4 in
      let count = pairs_count N in
      let joined = joined_all N in
      let ends = pair_ends N side in
      let all = sides_all in
      let m = add-mul (2 * r + 1) 1 (sum N side) in
      let e = ap (λ (x : ℕ). (2 * r + 1) * x) all in
      omega arith

  module _ (n k : ℕ) where
    -- two clauses for each switch and each literal that is 1 on the row
    switch_size : (s : ℕ)
        → lines_length (switch_block n N B k s) ≡ n * (8 + 2 * (side (2 * s + 1) + side (2 * s + 2))) + 2 * chosen_of n r k true s
    unfolding chosen_of
    switch_size s =
        let same : ℕ = 8 + 2 * (side (2 * s + 1) + side (2 * s + 2)) in
        let lines = lines_each (2 * n) (chosen_block (has_value n k true) 2 (switch_pair n N B s) (λ v. refl))
        ∙ sum_same (2 * n) _ (λ v. cond (literal_on n k v) (same + 2 * literal_length (L n N s v)) 0) (λ v l. one (literal_on n k v) v) in
        let parts = sum_where (has_value n k true) same (2 * n) (λ v. 2 * literal_length (L n N s v)) in
        let half = ap (λ (x : ℕ). x * same) (half_count n k true) in
        let twice = sum_same (2 * n) (λ v. cond (literal_on n k v) (2 * literal_length (L n N s v)) 0)
        (λ v. 2 * cond (literal_on n k v) (literal_length (L n N s v)) 0) (λ v l. two (literal_on n k v) (literal_length (L n N s v)))
        ∙ sum_times 2 (2 * n) (λ v. cond (literal_on n k v) (literal_length (L n N s v)) 0) in
        omega arith
      where
        one : (b : Bool) (v : ℕ)
            → lines_length (cond b (switch_pair n N B s v) []) ≡ cond b (8 + 2 * (side (2 * s + 1) + side (2 * s + 2)) + 2 * literal_length (L n N s v)) 0
        one true v = omega arith
        one false v = refl

        two : (b : Bool) (x : ℕ) → cond b (2 * x) 0 ≡ 2 * cond b x 0
        two true x = refl
        two false x = refl

    pub switch_sides_size : lines_length (switch_sides n N r B (literal_on n k)) ≡ n * (8 * r + 2 * run_length (B + 2) (2 * r)) + 2 * chosen_length n r k true
    unfolding chosen_length
    switch_sides_size =
        let ends : ℕ → ℕ = λ s. side (2 * s + 1) + side (2 * s + 2) in
        let lines = ap lines_length (switch_sides_blocks n N r B k) ∙ lines_each r (switch_block n N B k)
        ∙ sum_same r _ (λ s. n * (8 + 2 * ends s) + 2 * chosen_of n r k true s) (λ s l. switch_size s) in
        let parts = sum_add r (λ s. n * (8 + 2 * ends s)) (λ s. 2 * chosen_of n r k true s) in
        let first = sum_times n r (λ s. 8 + 2 * ends s) in
        let second = sum_times 2 r (chosen_of n r k true) in
        let inner = sum_add r (λ s. 8) (λ s. 2 * ends s) in
        let eights = sum_const r 8 in
        let twice = sum_times 2 r ends in
        let all = sides_ends in
        let e : sum r (λ s. 8 + 2 * ends s) ≡ 8 * r + 2 * run_length (B + 2) (2 * r) = omega arith in
        let f = ap (λ (x : ℕ). n * x) e in
        omega arith

    -- all of them
    pub off_row_size : lines_length (off_row n N r B (literal_on n k))
        ≡ 5 + literal_length (B + 1) + literal_length (B + 2 * r + 2) + lines_length (net_sides N B) + lines_length (switch_sides n N r B (literal_on n k))
    unfolding off_row S
    off_row_size =
        let a = lines_append (net_sides N B) (switch_sides n N r B (literal_on n k)) in
        let d : literal_length (B + 0 + 1) ≡ literal_length (B + 1) = ap literal_length (omega arith) in
        let e : literal_length (B + (2 * r + 1) + 1) ≡ literal_length (B + 2 * r + 2) = ap literal_length (omega arith) in
        omega arith
