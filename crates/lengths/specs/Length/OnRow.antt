-- The lines of an on row: how long they are, by the lengths of its steps, of X, and of the L that are 0 on it. Assumes nothing.
use Rattle.std.specs.Prelude.{◌≡◌, not, ◌≢◌}
use Rattle.std.proofs.Math.Path.{refl, sym, ap}
use Rattle.std.proofs.Common.{ap₂, ◌∙◌}
use Rattle.std.proofs.Math.Bool.{Bool, true, false, cond}
use mathlib.Core.List.{[], ◌∷◌, ◌++◌}
use Prim.Native.Nat.{ℕ, zero, suc, ◌+◌, ◌-◌, ◌*◌, ◌≤◌}
use Rattle.std.proofs.Math.Nat.{add-mul, mul-add}
use native.Mathlib.Omega.{arith}
use Rattle.std.proofs.Math.Dec.{eqb}
use borrow.Author.Tests.{eq-eqb, ne_eqb}
use Rattle.prelude.specs.Blocks.{for}
use Rattle.prelude.specs.Sums.{sum}
use Rattle.prelude.specs.Sums.Laws.{sum_same, sum_add, sum_times, sum_const, sum_without}
use Rattle.cnf.specs.Cnf.{pos, neg}
use Rattle.rows.specs.Rows.{literal_on}
use Rattle.network.specs.Networks.{switch_of, other}
use Rattle.formula.specs.Values.{has_value}
use Rattle.formula.specs.Values.Laws.{half_count}
use Rattle.formula.specs.Formula.{terminals, X, L, W, some_step, closed_step, first_step, link_step, last_step, on_row}
use Rattle.formula.specs.Formula.Laws.{joined_low, joined_high}
use Rattle.formula.proofs.FormulaOnRow.{unless, some_clause, closed_clause, closed_end, zero_start, first_clause, first_is, link_clause, link_end, link_end_is}
use Rattle.lengths.specs.Lines.{literal_length, literals_length, lines_length}
use Rattle.lengths.specs.Length.{run_length, chosen_of, chosen_length, joined_to, joined_ends, ends_length, stop_length, step_length, steps_length, link_length, links_length}
use Rattle.lengths.specs.Length.Laws.{lines_append, lines_each, run_length_lem, sum_where}

-- a sum over ends: by the other ends, and by the switches
others : (r : ℕ) (f : ℕ → ℕ) → sum (2 * r) (λ e. f (other (1 + e))) ≡ sum (2 * r) (λ e. f (1 + e))
unfolding sum
others zero f = refl
others (suc r) f =
    let two : 2 * suc r ≡ suc (suc (2 * r)) = omega arith in
    let before = others r f in
    let a : f (other (1 + 2 * r)) ≡ f (1 + suc (2 * r)) = ap f (omega arith) in
    let b : f (other (1 + suc (2 * r))) ≡ f (1 + 2 * r) = ap f (omega arith) in
    ap (λ (k : ℕ). sum k (λ e. f (other (1 + e)))) two ∙ omega arith ∙ sym (ap (λ (k : ℕ). sum k (λ e. f (1 + e))) two)

switches : (r : ℕ) (f : ℕ → ℕ) → sum (2 * r) (λ e. f (switch_of (1 + e))) ≡ 2 * sum r f
unfolding sum
switches zero f = refl
switches (suc r) f =
    let two : 2 * suc r ≡ suc (suc (2 * r)) = omega arith in
    let before = switches r f in
    let a : f (switch_of (1 + 2 * r)) ≡ f r = ap f (omega arith) in
    let b : f (switch_of (1 + suc (2 * r))) ≡ f r = ap f (omega arith) in
    ap (λ (k : ℕ). sum k (λ e. f (switch_of (1 + e)))) two ∙ omega arith

module _ (r B : ℕ) where
  -- a step's variable
  abbrev step : ℕ → ℕ → ℕ
  step t e = literal_length (W r B t e)

  -- they are a run
  steps_run : (t u count : ℕ) → u ≡ t + 1 → sum count (λ e. step u (1 + e)) ≡ run_length (B + t * (2 * r + 1) + 1) count
  unfolding W run_length
  steps_run t u count h =
      sum_same count _ _ (λ e l.
      let a = ap (λ (x : ℕ). x * (2 * r + 1)) (let z : u - 1 ≡ t = omega arith in z) in ap literal_length (omega arith))

  -- some switch, or the stop
  some_size : (m : ℕ) → lines_length (some_step r m B) ≡ sum m (λ t. 2 + stop_length r (B + t * (2 * r + 1)))
  unfolding some_step W
  some_size m =
      lines_each m _
      ∙ sum_same m _ _ (λ t l.
      let a = ap literals_length (some_clause r B (1 + t)) ∙ run_length_lem (W r B (1 + t) 1) (2 * r + 1) in
      let b = ap (λ (x : ℕ). run_length (B + x * (2 * r + 1) + 1) (2 * r + 1)) (let z : 1 + t - 1 ≡ t = omega arith in z) in
      omega arith)

  module _ (n k : ℕ) where
    -- no switch that is open
    closed_end_size : (m t e : ℕ) → lines_length (closed_end n r m B k t e) ≡ n * (4 + step t e) + chosen_of n r k false (switch_of e)
    unfolding chosen_of
    closed_end_size m t e =
        let f : ℕ → ℕ = λ v. literal_length (L n (terminals r) (switch_of e) v) in
        let lines = ap lines_length (zero_start n r m B k t e) ∙ lines_each (2 * n) (unless (literal_on n k) (closed_clause n r B t e))
        ∙ sum_same (2 * n) _ (λ v. cond (has_value n k false v) (4 + step t e + f v) 0) (λ v l. one (literal_on n k v) v) in
        let parts = sum_where (has_value n k false) (4 + step t e) (2 * n) f in
        let half = ap (λ (x : ℕ). x * (4 + step t e)) (half_count n k false) in
        omega arith
      where
        one : (b : Bool) (v : ℕ)
            → lines_length (cond b [] (closed_clause n r B t e v ∷ []))
            ≡ cond (not b) (4 + step t e + literal_length (L n (terminals r) (switch_of e) v)) 0
        one true v = refl
        one false v = omega arith

    closed_size : (m : ℕ) → lines_length (closed_step n r m B (literal_on n k)) ≡ sum m (λ t. n * (8 * r + ends_length r (B + t * (2 * r + 1))) + 2 * chosen_length n r k false)
    unfolding closed_step chosen_length
    closed_size m =
        lines_each m _
        ∙ sum_same m _ _ (λ t l.
        let lines = lines_each (2 * r) (λ e. closed_end n r m B k (1 + t) (1 + e))
        ∙ sum_same (2 * r) _ (λ e. n * (4 + step (1 + t) (1 + e)) + chosen_of n r k false (switch_of (1 + e))) (λ e h. closed_end_size m (1 + t) (1 + e)) in
        let parts = sum_add (2 * r) (λ e. n * (4 + step (1 + t) (1 + e))) (λ e. chosen_of n r k false (switch_of (1 + e))) in
        let both = switches r (chosen_of n r k false) in
        let times = sum_times n (2 * r) (λ e. 4 + step (1 + t) (1 + e)) in
        let inner = sum_add (2 * r) (λ e. 4) (λ e. step (1 + t) (1 + e)) in
        let fours = sum_const (2 * r) 4 in
        let all = steps_run t (1 + t) (2 * r) (omega arith) in
        let e : sum (2 * r) (λ e. 4 + step (1 + t) (1 + e)) ≡ 8 * r + ends_length r (B + t * (2 * r + 1)) = omega arith in
        let f = ap (λ (x : ℕ). n * x) e in
        omega arith)

  -- the first step starts on the source's net
  first_size : lines_length (first_step r B) ≡ 3 * (2 * r + 1) + stop_length r B + joined_to r 0
  unfolding joined_to
  first_size =
      let x : ℕ → ℕ = λ e. literal_length (X (terminals r) 0 (1 + e)) in
      let lines = ap lines_length (first_is r B) ∙ lines_each (2 * r + 1) (λ e. first_clause r B (1 + e) ∷ [])
      ∙ sum_same (2 * r + 1) _ (λ e. 3 + (step 1 (1 + e) + x e)) (λ e l. omega arith) in
      let parts = sum_add (2 * r + 1) (λ e. 3) (λ e. step 1 (1 + e) + x e) in
      let more = sum_add (2 * r + 1) (λ e. step 1 (1 + e)) x in
      let threes = sum_const (2 * r + 1) 3 in
      let all = steps_run 0 1 (2 * r + 1) refl ∙ ap (stop_length r) (let z : B + 0 * (2 * r + 1) ≡ B = omega arith in z) in
      let there = sum_same (2 * r + 1) x (λ g. cond (eqb (1 + g) 0) 0 (x g)) (λ g l. rw (ne_eqb (1 + g) 0 (λ e. omega arith))) in
      omega arith

  -- a step follows the one before on one net: each end and the stop follow an end, but not the other end of its switch
  link_end_size : (m t e : ℕ) → 1 ≤ e → e ≤ 2 * r
      → lines_length (link_end r m B (1 + t) e) + step (1 + t + 1) (other e)
      ≡ 2 * r * (4 + step (1 + t) e) + (stop_length r (B + (t + 1) * (2 * r + 1)) + joined_to r (other e))
  unfolding joined_to
  link_end_size m t e h l =
      let a : ℕ = other e in
      let p : ℕ → Bool = λ g. eqb (1 + g) a in
      let same : ℕ = 4 + step (1 + t) e in
      let w : ℕ → ℕ = λ g. step (1 + t + 1) (1 + g) in
      let x : ℕ → ℕ = λ g. literal_length (X (terminals r) a (1 + g)) in
      let lines = ap lines_length (link_end_is r m B (1 + t) e h l)
      ∙ lines_each (2 * r + 1) (unless p (λ g. link_clause r B (1 + t) e (1 + g)))
      ∙ sum_same (2 * r + 1) _ (λ g. cond (p g) 0 same + (cond (p g) 0 (w g) + cond (p g) 0 (x g))) (λ g z. one (p g) g) in
      let parts = sum_add (2 * r + 1) (λ g. cond (p g) 0 same) (λ g. cond (p g) 0 (w g) + cond (p g) 0 (x g)) in
      let more = sum_add (2 * r + 1) (λ g. cond (p g) 0 (w g)) (λ g. cond (p g) 0 (x g)) in
      let here : p (a - 1) ≡ true = eq-eqb (1 + (a - 1)) a (omega arith) in
      let elsewhere : (i : ℕ) → i ≢ (a - 1) → p i ≡ false = λ i d. ne_eqb (1 + i) a (λ z. d (omega arith)) in
      let first = sum_without p (a - 1) here elsewhere (λ g. same) (2 * r + 1) (omega arith) in
      let second = sum_without p (a - 1) here elsewhere w (2 * r + 1) (omega arith) in
      let const = sum_const (2 * r + 1) same in
      let all = steps_run (t + 1) (1 + t + 1) (2 * r + 1) (omega arith) in
      let q : step (1 + t + 1) (1 + (a - 1)) ≡ step (1 + t + 1) a = ap (step (1 + t + 1)) (omega arith) in
      let d = add-mul (2 * r) 1 same in
      omega arith
    where
      one : (b : Bool) (g : ℕ)
          → lines_length (cond b [] (link_clause r B (1 + t) e (1 + g) ∷ []))
          ≡ cond b 0 (4 + step (1 + t) e) + (cond b 0 (step (1 + t + 1) (1 + g)) + cond b 0 (literal_length (X (terminals r) (other e) (1 + g))))
      one true g = refl
      one false g = omega arith

  link_step_size : (m t : ℕ)
      → lines_length (for 1 (2 * r) (link_end r m B (1 + t))) + ends_length r (B + (t + 1) * (2 * r + 1))
      ≡ 2 * r * (8 * r + ends_length r (B + t * (2 * r + 1)) + stop_length r (B + (t + 1) * (2 * r + 1))) + joined_ends r
  unfolding joined_ends
  link_step_size m t =
      let lines = lines_each (2 * r) (λ e. link_end r m B (1 + t) (1 + e)) in
      let next : ℕ → ℕ = λ e. step (1 + t + 1) e in
      let add = sum_add (2 * r) (λ e. lines_length (link_end r m B (1 + t) (1 + e))) (λ e. next (other (1 + e))) in
      let each = sum_same (2 * r) (λ e. lines_length (link_end r m B (1 + t) (1 + e)) + next (other (1 + e)))
      (λ e. 2 * r * (4 + step (1 + t) (1 + e)) + (stop_length r (B + (t + 1) * (2 * r + 1)) + joined_to r (other (1 + e))))
      (λ e l. link_end_size m t (1 + e) (omega arith) (omega arith)) in
      let parts = sum_add (2 * r) (λ e. 2 * r * (4 + step (1 + t) (1 + e))) (λ e. stop_length r (B + (t + 1) * (2 * r + 1)) + joined_to r (other (1 + e))) in
      let more = sum_add (2 * r) (λ e. stop_length r (B + (t + 1) * (2 * r + 1))) (λ e. joined_to r (other (1 + e))) in
      let times = sum_times (2 * r) (2 * r) (λ e. 4 + step (1 + t) (1 + e)) in
      let inner = sum_add (2 * r) (λ e. 4) (λ e. step (1 + t) (1 + e)) in
      let fours = sum_const (2 * r) 4 in
      let stops = sum_const (2 * r) (stop_length r (B + (t + 1) * (2 * r + 1))) in
      let now = steps_run t (1 + t) (2 * r) (omega arith) in
      let then = others r next ∙ steps_run (t + 1) (1 + t + 1) (2 * r) (omega arith) in
      let nets = others r (joined_to r) in
      let e : sum (2 * r) (λ e. 4 + step (1 + t) (1 + e)) ≡ 8 * r + ends_length r (B + t * (2 * r + 1)) = omega arith in
      let f = ap (λ (x : ℕ). 2 * r * x) e in
      let g = mul-add (2 * r) (8 * r + ends_length r (B + t * (2 * r + 1))) (stop_length r (B + (t + 1) * (2 * r + 1))) in
      omega arith

  -- the next step's variables
  next_at : (t : ℕ) → B + (t + 1) * (2 * r + 1) ≡ B + t * (2 * r + 1) + (2 * r + 1)
  next_at t = let e = add-mul t 1 (2 * r + 1) in omega arith

  link_size : (m : ℕ) → lines_length (link_step r m B) ≡ links_length r m B (joined_ends r)
  unfolding link_step links_length link_length
  link_size m =
      lines_each (m - 1) _
      ∙ sum_same (m - 1) _ _ (λ t l.
      let e = link_step_size m t in
      let a = ap (ends_length r) (next_at t) in
      let b = ap (λ (x : ℕ). 2 * r * (8 * r + ends_length r (B + t * (2 * r + 1)) + stop_length r x)) (next_at t) in
      omega arith)

  -- no more are left out than there are
  pub link_room : ends_length r (B + (2 * r + 1)) ≤ 2 * r * (8 * r + ends_length r B + stop_length r (B + (2 * r + 1))) + joined_ends r
  link_room =
      let e = link_step_size 0 0 in
      let a : B + (0 + 1) * (2 * r + 1) ≡ B + (2 * r + 1) = next_at 0 ∙ omega arith in
      let b = ap (ends_length r) a in
      let d : B + 0 * (2 * r + 1) ≡ B = omega arith in
      let f = ap₂ (λ (x y : ℕ). 2 * r * (8 * r + ends_length r x + stop_length r y)) d a in
      omega arith

  -- the last step ends on the sink's net
  last_size : (m : ℕ) → 1 ≤ m → lines_length (last_step r m B) ≡ 6 * r + ends_length r (B + (m - 1) * (2 * r + 1)) + joined_to r (2 * r + 1)
  unfolding last_step joined_to sum
  last_size m h =
      let x : ℕ → ℕ = λ a. literal_length (X (terminals r) a (2 * r + 1)) in
      let y : ℕ → ℕ = λ g. cond (eqb (1 + g) (2 * r + 1)) 0 (literal_length (X (terminals r) (2 * r + 1) (1 + g))) in
      let lines = lines_each (2 * r) (λ e. (neg (W r B m (1 + e)) ∷ pos (X (terminals r) (other (1 + e)) (2 * r + 1)) ∷ []) ∷ [])
      ∙ sum_same (2 * r) _ (λ e. 3 + (step m (1 + e) + x (other (1 + e)))) (λ e l. omega arith) in
      let parts = sum_add (2 * r) (λ e. 3) (λ e. step m (1 + e) + x (other (1 + e))) in
      let more = sum_add (2 * r) (λ e. step m (1 + e)) (λ e. x (other (1 + e))) in
      let threes = sum_const (2 * r) 3 in
      let all = steps_run (m - 1) m (2 * r) (omega arith) in
      let nets = others r x in
      let there = sum_same (2 * r) (λ e. x (1 + e)) y (λ e l.
      let a = joined_low (terminals r) (1 + e) (2 * r + 1) (omega arith) in
      let b = joined_high (terminals r) (2 * r + 1) (1 + e) (omega arith) in
      ap literal_length (a ∙ sym b) ∙ rw (ne_eqb (1 + e) (2 * r + 1) (λ z. omega arith))) in
      let itself : y (2 * r) ≡ 0 = rw (eq-eqb (1 + 2 * r) (2 * r + 1) (omega arith)) in
      let end = ap (λ (k : ℕ). sum k y) (let z : 2 * r + 1 ≡ suc (2 * r) = omega arith in z) in
      omega arith

  -- all of them
  module _ (n k : ℕ) where
    steps_size : (m : ℕ)
        → lines_length (some_step r m B) + lines_length (closed_step n r m B (literal_on n k)) ≡ steps_length n r m B (chosen_length n r k false)
    unfolding steps_length step_length
    steps_size m =
        let a = some_size m in
        let b = closed_size n k m in
        let c = sum_add m (λ t. 2 + stop_length r (B + t * (2 * r + 1))) (λ t. n * (8 * r + ends_length r (B + t * (2 * r + 1))) + 2 * chosen_length n r k false) in
        omega arith

    pub on_row_none : lines_length (on_row n r 0 B (literal_on n k)) ≡ literal_length (X (terminals r) 0 (2 * r + 1)) + 2
    unfolding on_row
    on_row_none = omega arith

    pub on_row_size : (m : ℕ) → 1 ≤ m
        → lines_length (on_row n r m B (literal_on n k))
        ≡ steps_length n r m B (chosen_length n r k false) + links_length r m B (joined_ends r)
        + (12 * r + 3 + stop_length r B + ends_length r (B + (m - 1) * (2 * r + 1))) + (joined_to r 0 + joined_to r (2 * r + 1))
    unfolding on_row
    on_row_size m h =
        let s = steps_size m in
        let f = first_size in
        let l = link_size m in
        let e = last_size m h in
        let a = lines_append (some_step r m B) (closed_step n r m B (literal_on n k) ++ (first_step r B ++ (link_step r m B ++ last_step r m B))) in
        let b = lines_append (closed_step n r m B (literal_on n k)) (first_step r B ++ (link_step r m B ++ last_step r m B)) in
        let c = lines_append (first_step r B) (link_step r m B ++ last_step r m B) in
        let d = lines_append (link_step r m B) (last_step r m B) in
        rw (ne_eqb m 0 (λ z. omega arith)) (omega arith)
