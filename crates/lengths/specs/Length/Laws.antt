-- Laws of the lengths of clauses' lines: they are those of the text, and add up. Assumes nothing.
use Rattle.std.specs.Prelude.{◌≡◌, Bool, true, false, not, cond, [], ◌∷◌, ◌++◌, ◌≢◌, ℕ, zero, suc, ◌+◌, ◌-◌, ◌*◌, ◌^◌, ◌≤◌, ◌<◌, length}
use Rattle.std.proofs.Math.Path.{refl, ap}
use Rattle.std.proofs.Common.{sym, ◌∙◌, ⊎_elim, zero-add, zero-mul, add-mul, add-one, arith, eq-eqb, ne_eqb}
use Rattle.std.specs.Bool.{beq}
use Rattle.prelude.specs.Blocks.{each}
use Rattle.prelude.specs.Sums.{sum}
use Rattle.prelude.specs.Sums.Laws.{sum_same, sum_each, sum_most, sum_join}
use Rattle.prelude.specs.Tests.{le?}
use Rattle.cnf.specs.Cnf.{pos, Clause, Formula}
use Rattle.request.specs.Numbers.{refusal_of}
use Rattle.request.specs.declared.Request.{Request}
use Rattle.rows.specs.Rows.{literal_on}
use Rattle.formula.specs.Clause.{run}
use Rattle.formula.specs.Values.{count_below}
use Rattle.formula.specs.Formula.{terminals, network_variables, X, P, L, formula_of}
use Rattle.formula.proofs.FormulaRange.{joined_in, chosen_in}
use Rattle.formula_clauses.specs.Bounds.{variables_few}
use Rattle.formula_clauses.specs.declared.Block.TheVariants.{Network}
use Rattle.formula_clauses.specs.Block.{block_clauses, clauses_of, blocks_below}
use Rattle.formula_clauses.specs.Block.Laws.{blocks_all}
use Rattle.text.specs.Decimal.{decimal}
use Rattle.text.specs.Decimal.Laws.{length_digit, length_high, length_is}
use Rattle.text.specs.Text.{literal_text, literals_text}
use Rattle.text.specs.Text.Laws.{literals_none, literals_length_lem, signed_length}
use Rattle.lengths.specs.Lines.{literal_length, literals_length, lines_length, request_length}
use Rattle.lengths.specs.Length.{run_length, chosen_at}

-- a positive literal, and its digits
pub literal_is : (v : ℕ) → literal_length v ≡ length (decimal v) + 1
unfolding literal_length
literal_is v = refl

-- the text of literals is so long
pub literals_are : (c : Clause) → length (literals_text c) ≡ literals_length c
unfolding literal_text literal_length
literals_are [] = ap length literals_none
literals_are (l ∷ c) =
    let e = literals_length_lem l c in
    let s = signed_length l.negative l.variable in
    let r = literals_are c in
    omega arith

-- literals and clauses one after the other
literals_append : (a b : Clause) → literals_length (a ++ b) ≡ literals_length a + literals_length b
literals_append [] b = sym (zero-add (literals_length b))
literals_append (l ∷ a) b = let e = literals_append a b in omega arith

pub lines_append : (f g : Formula) → lines_length (f ++ g) ≡ lines_length f + lines_length g
lines_append [] g = sym (zero-add (lines_length g))
lines_append (c ∷ f) g = let e = lines_append f g in omega arith

-- in blocks
pub lines_each : (n : ℕ) (f : ℕ → Formula) → lines_length (each n f) ≡ sum n (λ i. lines_length (f i))
lines_each n f = sum_each lines_length refl lines_append n f

-- positive literals
pub literals_each : (n : ℕ) (f : ℕ → ℕ) → literals_length (each n (λ i. pos (f i) ∷ [])) ≡ sum n (λ i. literal_length (f i))
literals_each n f =
    sum_each literals_length refl literals_append n (λ i. pos (f i) ∷ []) ∙ sum_same n _ (λ i. literal_length (f i)) (λ i l. omega arith)

-- those of count variables from first on
pub run_length_lem : (first count : ℕ) → literals_length (run first count) ≡ run_length first count
unfolding run run_length
run_length_lem first count =
    literals_each count (λ i. first + (0 + i))
    ∙ sum_same count _ (λ i. literal_length (first + i)) (λ i l. ap (λ (k : ℕ). literal_length (first + k)) (zero-add i))

-- terms where a test holds: a part that is the same for all, and the rest
pub sum_where : (p : ℕ → Bool) (x c : ℕ) (f : ℕ → ℕ)
    → sum c (λ v. cond (p v) (x + f v) 0) ≡ count_below p c * x + sum c (λ v. cond (p v) (f v) 0)
unfolding sum count_below
sum_where p x zero f = omega (arith, zero-mul x)
sum_where p x (suc c) f =
    let e = sum_where p x c f in
    let m = add-mul (count_below p c) (cond (p c) 1 0) x in
    let o = one (p c) in
    omega arith
  where
    one : (b : Bool) → cond b (x + f c) 0 ≡ cond b 1 0 * x + cond b (f c) 0
    one true = omega arith
    one false = omega arith

-- variables below 100000 have at most five digits
pub literal_most : (v : ℕ) → v < 100000 → literal_length v ≤ 6
unfolding literal_length
literal_most v h = let e = length_high 4 v (omega arith) in omega arith

pub run_most : (first count : ℕ) → first + count ≤ 100000 → run_length first count ≤ count * 6
unfolding run_length
run_most first count h = sum_most count 6 (λ i. literal_length (first + i)) (λ i l. literal_most (first + i) (omega arith))

-- how far the next number is past a power of ten: one more if x has reached it
reached : (x low : ℕ) → low ≤ x → suc x - low ≡ x - low + 1
reached x low h = omega arith

before : (x low : ℕ) → x < low → suc x - low ≡ x - low + 0
before x low h = omega arith

-- the digits of a number below 100000, and a space: one digit more from each power of ten on
below_step : (x : ℕ) → x < 100000
    → 2 * x + (x - 10) + (x - 100) + (x - 1000) + (x - 10000) + literal_length x
    ≡ 2 * suc x + (suc x - 10) + (suc x - 100) + (suc x - 1000) + (suc x - 10000)
unfolding literal_length
below_step x h =
    ⊎_elim
    (λ (a : 10 ≤ x).
    ⊎_elim
    (λ (b : 100 ≤ x).
    ⊎_elim
    (λ (c : 1000 ≤ x).
    ⊎_elim
    (λ (d : 10000 ≤ x). step 1 1 1 1 (reached x 10 a) (reached x 100 b) (reached x 1000 c) (reached x 10000 d) (sym (length_is 4 x d h)))
    (λ (d : x < 10000). step 1 1 1 0 (reached x 10 a) (reached x 100 b) (reached x 1000 c) (before x 10000 d) (sym (length_is 3 x c d)))
    (le? 10000 x))
    (λ (c : x < 1000). step 1 1 0 0 (reached x 10 a) (reached x 100 b) (before x 1000 c) (before x 10000 (omega arith)) (sym (length_is 2 x b c)))
    (le? 1000 x))
    (λ (b : x < 100). step 1 0 0 0 (reached x 10 a) (before x 100 b) (before x 1000 (omega arith)) (before x 10000 (omega arith)) (sym (length_is 1 x a b)))
    (le? 100 x))
    (λ (a : x < 10). step 0 0 0 0 (before x 10 a) (before x 100 (omega arith)) (before x 1000 (omega arith)) (before x 10000 (omega arith)) (length_digit x a))
    (le? 10 x)
  where
    add : (a b c d a' b' c' d' i j k l u : ℕ) → a' ≡ a + i → b' ≡ b + j → c' ≡ c + k → d' ≡ d + l → u ≡ 1 + i + j + k + l
        → 2 * x + a + b + c + d + (u + 1) ≡ 2 * suc x + a' + b' + c' + d'
    add a b c d a' b' c' d' i j k l u e f g h m = omega arith

    step : (i j k l : ℕ) → suc x - 10 ≡ x - 10 + i → suc x - 100 ≡ x - 100 + j → suc x - 1000 ≡ x - 1000 + k → suc x - 10000 ≡ x - 10000 + l
        → length (decimal x) ≡ 1 + i + j + k + l
        → 2 * x + (x - 10) + (x - 100) + (x - 1000) + (x - 10000) + (length (decimal x) + 1)
        ≡ 2 * suc x + (suc x - 10) + (suc x - 100) + (suc x - 1000) + (suc x - 10000)
    step i j k l e f g h m =
        add (x - 10) (x - 100) (x - 1000) (x - 10000) (suc x - 10) (suc x - 100) (suc x - 1000) (suc x - 10000) i j k l (length (decimal x)) e f g h m

-- the numbers below x
pub below_length : (x : ℕ) → x ≤ 100000 → 2 * x + (x - 10) + (x - 100) + (x - 1000) + (x - 10000) ≡ sum x literal_length
unfolding sum
below_length zero h = refl
below_length (suc x) h =
    sym (below_step x (omega arith)) ∙ ap (λ (s : ℕ). s + literal_length x) (below_length x (omega arith))

-- those of a run
pub run_parts : (first count : ℕ) → sum (first + count) literal_length ≡ sum first literal_length + run_length first count
unfolding run_length
run_parts first count = sum_join first count literal_length

-- L(s,v) counts if the literal's value is the value
pub chosen_is : (n r k s v : ℕ) (value b t : Bool) → b ≡ literal_on n k v → beq b value ≡ t
    → cond t (literal_length (L n (terminals r) s v)) 0 ≡ chosen_at n r k value s v
chosen_is n r k s v value b t e f =
    ap (λ (x : Bool). cond x (literal_length (L n (terminals r) s v)) 0) (sym f ∙ same b value ∙ ap (λ (x : Bool). cond value x (not x)) e)
  where
    same : (b value : Bool) → beq b value ≡ cond value b (not b)
    same true true = refl
    same true false = refl
    same false true = refl
    same false false = refl

-- the variables X and L of so few switches and inputs
module _ (n r : ℕ) (n_few : n ≤ 8) (r_few : r ≤ 15) where
  pub network_few : network_variables n r ≤ 736
  unfolding P
  network_few = variables_few n r n_few r_few

  pub chosen_low : (s v : ℕ) → s < r → v < 2 * n → L n (terminals r) s v < 100000
  chosen_low s v h l = let e = chosen_in n (terminals r) r s v h l in let f = network_few in omega arith

pub joined_low : (r a g : ℕ) → r ≤ 15 → a ≤ 2 * r + 1 → g ≤ 2 * r + 1 → a ≢ g → X (terminals r) a g < 100000
joined_low r a g few h l d =
    let e = joined_in (terminals r) a g (omega arith) (omega arith) d in
    let f = network_few 0 r (omega arith) few in
    omega arith

-- without inputs they are the X
pub joined_count : (r : ℕ) {x : ℕ} → r ≤ 15 → x ≡ network_variables 0 r → (x ≡ P (terminals r)) × (x ≤ 736)
joined_count r few e = let f = network_few 0 r (omega arith) few in (omega arith, omega arith)

-- the lines of a request's blocks: the first block, one more, and all
module _ (q : Request) where
  pub blocks_first : lines_length (blocks_below q 1) ≡ lines_length (block_clauses q.n q.r 0 Network)
  unfolding blocks_below
  blocks_first = refl

  pub blocks_more : (b : ℕ) → lines_length (blocks_below q (b + 1)) ≡ lines_length (blocks_below q b) + lines_length (clauses_of q b)
  unfolding blocks_below
  blocks_more b = ap (λ (k : ℕ). lines_length (blocks_below q k)) (add-one b) ∙ lines_append (blocks_below q b) (clauses_of q b)

  pub blocks_last : (b : ℕ) → b ≡ 2 ^ q.n → lines_length (blocks_below q (b + 1)) ≡ lines_length (formula_of q)
  blocks_last b e = ap (λ (k : ℕ). lines_length (blocks_below q k)) (add-one b ∙ ap suc e) ∙ ap lines_length (blocks_all q)

  -- a refused request has no lines, another those of its clauses
  pub request_refused_lem : {x : ℕ} → x ≡ refusal_of q → (x ≡ 0 → ⊥) → 0 ≡ request_length q
  unfolding request_length
  request_refused_lem e d = rw (ne_eqb (refusal_of q) 0 (λ z. d (e ∙ z)))

  pub request_taken : refusal_of q ≡ 0 → lines_length (formula_of q) ≡ request_length q
  unfolding request_length
  request_taken e = rw (eq-eqb (refusal_of q) 0 e)
