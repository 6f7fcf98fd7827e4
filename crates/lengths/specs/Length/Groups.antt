-- The lines of groups 1 and 2: how long they are, by the lengths of all X and of all L. Assumes nothing.
use Rattle.std.specs.Prelude.{◌≡◌, refl, ◌++◌}
use Rattle.std.proofs.Math.Path.{sym, ap}
use Rattle.std.proofs.Common.{◌∙◌, add-mul, mul-add, zero-mul, mul_assoc, add-one}
use Prim.Native.Nat.{ℕ, zero, suc, ◌+◌, ◌-◌, ◌*◌, ◌≤◌}
use Rattle.std.proofs.Math.Nat.{mul_comm}
use native.Mathlib.Omega.{arith}
use Rattle.prelude.specs.Blocks.{for}
use Rattle.prelude.specs.Blocks.Laws.{for_zero}
use Rattle.prelude.specs.Sums.{sum, pair_sum}
use Rattle.prelude.specs.Sums.Laws.{sum_same, sum_add, sum_times, sum_const, sum_join, sum_blocks, pair_add, pair_ends, triple_add, triple_times, triple_sides}
use Rattle.formula.specs.Pairs.{pairs_before, triples_before}
use Rattle.formula.specs.Pairs.Laws.{pair_row, triple_plane}
use Rattle.formula.specs.Formula.{terminals, X, P, L, triple, transitivity, choice, choices}
use Rattle.formula.specs.Formula.Laws.{joined_low, pair_number_lem, pairs_count}
use Rattle.formula.specs.Formula.Groups.{transitivity_planes, not_both, choice_rows}
use Rattle.formula.specs.Count.{network_count}
use Rattle.lengths.specs.Lines.{literal_length, lines_length}
use Rattle.lengths.specs.Length.{run_length}
use Rattle.lengths.specs.Length.Laws.{lines_append, lines_each, literals_each}

-- one term for each pair, and for each triple
pair_const : (c k x : ℕ) → sum k (λ v. sum (c - (v + 1)) (λ i. x)) ≡ pairs_before c k * x
unfolding sum pairs_before
pair_const c zero x = sym (zero-mul x)
pair_const c (suc k) x =
    let e = pair_const c k x in
    let f = sum_const (c - (k + 1)) x in
    let g = ap (λ (j : ℕ). (c - j) * x) (add-one k) in
    let m = add-mul (pairs_before c k) (c - suc k) x in
    omega arith

pub pairs_const : (c x : ℕ) → pair_sum c (λ v w. x) ≡ pairs_before c c * x
pairs_const c x = pair_const c c x

triple_const : (c k x : ℕ) → sum k (λ i. sum (c - (i + 1)) (λ a. sum (c - (i + 1 + a + 1)) (λ b. x))) ≡ triples_before c k * x
unfolding sum triples_before
triple_const c zero x = sym (zero-mul x)
triple_const c (suc k) x =
    let e = triple_const c k x in
    let f = sum_same (c - (k + 1)) (λ a. sum (c - (k + 1 + a + 1)) (λ b. x)) (λ a. sum (c - (k + 1) - (a + 1)) (λ b. x))
    (λ a l. ap (λ (j : ℕ). sum j (λ b. x)) (let z : c - (k + 1 + a + 1) ≡ c - (k + 1) - (a + 1) = omega arith in z)) in
    let h = pairs_const (c - (k + 1)) x in
    let g = ap (λ (j : ℕ). pairs_before (c - j) (c - j) * x) (add-one k) in
    let m = add-mul (triples_before c k) (pairs_before (c - suc k) (c - suc k)) x in
    omega arith

-- X of the pairs is a run: those of the first k terminals with the later ones
joined_run : (N k : ℕ) → k ≤ N → sum k (λ i. sum (N - (i + 1)) (λ j. literal_length (X N i (i + 1 + j)))) ≡ run_length 1 (pairs_before N k)
unfolding sum run_length pairs_before
joined_run N zero h = refl
joined_run N (suc k) h =
    let e = joined_run N k (omega arith) in
    let f = sum_same (N - (k + 1)) (λ j. literal_length (X N k (k + 1 + j))) (λ j. literal_length (1 + (pairs_before N k + j)))
    (λ j l.
    let a = joined_low N k (k + 1 + j) (omega arith) in
    let b = pair_number_lem N k (k + 1 + j) (omega arith) in
    ap literal_length (omega arith)) in
    let g = ap (λ (i : ℕ). sum (N - i) (λ j. literal_length (1 + (pairs_before N k + j)))) (add-one k) in
    let s = sum_join (pairs_before N k) (N - suc k) (λ i. literal_length (1 + i)) in
    omega arith

pub joined_all : (N : ℕ) → pair_sum N (λ i j. literal_length (X N i j)) ≡ run_length 1 (P N)
joined_all N = joined_run N N (omega arith) ∙ ap (run_length 1) (sym (pairs_count N))

-- group 1: each X is in N - 2 triples, three times in each
module _ (r : ℕ) where
  abbrev N : ℕ
  N = terminals r

  abbrev joined : ℕ → ℕ → ℕ
  joined i j = literal_length (X N i j)

  pub transitivity_size : lines_length (transitivity N) ≡ 4 * (triples_before N N * 3) + 3 * (2 * r * run_length 1 (P N))
  transitivity_size =
      let lines = ap lines_length (transitivity_planes N) ∙ lines_each N (triple_plane 3 N (triple N))
      ∙ sum_same N _ _ (λ i l. lines_each (N - (i + 1)) (λ a. for (i + 1 + a + 1) (N - (i + 1 + a + 1)) (triple N i (i + 1 + a)))
      ∙ sum_same (N - (i + 1)) _ _ (λ a m. lines_each (N - (i + 1 + a + 1)) (λ b. triple N i (i + 1 + a) (i + 1 + a + 1 + b))
      ∙ sum_same (N - (i + 1 + a + 1)) _ (λ b. 3 * (joined i (i + 1 + a) + joined (i + 1 + a) (i + 1 + a + 1 + b) + joined i (i + 1 + a + 1 + b)) + 12) (λ b h. omega arith))) in
      let parts = triple_add N (λ i j k. 3 * (joined i j + joined j k + joined i k)) (λ i j k. 12) in
      let thrice = triple_times 3 N (λ i j k. joined i j + joined j k + joined i k) in
      let sides = triple_sides N joined in
      let all = joined_all N in
      let same = triple_const N N 12 in
      let m = add-mul (2 * r) 2 (run_length 1 (P N)) in
      let e = ap (λ (x : ℕ). N * x) all in
      omega arith

-- group 2: each L is in 2n clauses of its switch
module _ (n N : ℕ) where
  abbrev chosen : ℕ → ℕ → ℕ
  chosen s v = literal_length (L n N s v)

  choice_size : (s : ℕ) → lines_length (choice n N s) ≡ 2 + 4 * pairs_before (2 * n) (2 * n) + 2 * n * sum (2 * n) (chosen s)
  choice_size s =
      let lines = ap lines_length (choice_rows n N s) in
      let pairs = lines_each (2 * n) (pair_row 1 (2 * n) (not_both n N s))
      ∙ sum_same (2 * n) _ _ (λ v l. lines_each (2 * n - (v + 1)) (λ i. not_both n N s v (v + 1 + i))
      ∙ sum_same (2 * n - (v + 1)) _ (λ i. 4 + (chosen s v + chosen s (v + 1 + i))) (λ i h. omega arith)) in
      let parts = pair_add (2 * n) (λ v w. 4) (λ v w. chosen s v + chosen s w) in
      let same = pairs_const (2 * n) 4 in
      let ends = pair_ends (2 * n) (chosen s) in
      let long = literals_each (2 * n) (L n N s) in
      omega arith

  -- all L are a run
  chosen_all : (r : ℕ) → sum r (λ s. sum (2 * n) (chosen s)) ≡ run_length (P N + 1) (r * (2 * n))
  unfolding L run_length
  chosen_all r =
      sum_same r _ (λ s. sum (2 * n) (λ v. literal_length (P N + 1 + (s * (2 * n) + v))))
      (λ s l. let m = mul_comm (2 * n) s in sum_same (2 * n) _ _ (λ v h. ap literal_length (omega arith)))
      ∙ sym (sum_blocks r (2 * n) (λ i. literal_length (P N + 1 + i)))

  pub choices_size : (r : ℕ)
      → lines_length (choices n N r) ≡ r * (2 + 4 * pairs_before (2 * n) (2 * n)) + 2 * n * run_length (P N + 1) (r * (2 * n))
  unfolding choices
  choices_size r =
      let same : ℕ = 2 + 4 * pairs_before (2 * n) (2 * n) in
      let lines = ap lines_length (for_zero r (choice n N)) ∙ lines_each r (choice n N)
      ∙ sum_same r _ (λ s. same + 2 * n * sum (2 * n) (chosen s)) (λ s l. choice_size s) in
      let parts = sum_add r (λ s. same) (λ s. 2 * n * sum (2 * n) (chosen s)) in
      let fixed = sum_const r same in
      let times = sum_times (2 * n) r (λ s. sum (2 * n) (chosen s)) ∙ ap (λ (x : ℕ). 2 * n * x) (chosen_all r) in
      omega arith

-- both groups: four bytes for each clause, but two for the long one of each switch
pub network_size : (n r : ℕ)
    → lines_length (transitivity (terminals r) ++ choices n (terminals r) r) + 2 * r
    ≡ 4 * network_count n r
    + (3 * (2 * r * run_length 1 (P (terminals r))) + 2 * n * run_length (P (terminals r) + 1) (r * (2 * n)))
network_size n r =
    let a = lines_append (transitivity (terminals r)) (choices n (terminals r) r) in
    let b = transitivity_size r in
    let c = choices_size n (terminals r) r in
    let p : ℕ = pairs_before (2 * n) (2 * n) in
    let d = mul-add r 2 (4 * p) in
    let e = mul-add r p 1 in
    let f : r * (4 * p) ≡ 4 * (r * p) = sym (mul_assoc r 4 p) ∙ ap (λ (x : ℕ). x * p) (mul_comm r 4) ∙ mul_assoc 4 r p in
    omega arith
