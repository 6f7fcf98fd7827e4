-- Laws of sums by an index. Assumes nothing.
use Rattle.std.specs.Prelude.{◌≡◌, refl, Bool, true, false, not, List, [], ◌++◌, ◌≢◌, T}
use Rattle.std.proofs.Common.{sym, ap₂, ◌∙◌, subst, zero-mul, suc-mul, mul-zero, mul-add, add-zero, add-suc, add_assoc, eq-or-lt_of_le, le_of_suc-le-suc, add-one}
use Rattle.std.proofs.Math.Path.{ap}
use Rattle.std.proofs.Math.Bool.{cond}
use Rattle.std.proofs.Math.Logic.{⊎_elim}
use Prim.Native.Nat.{ℕ, zero, suc, ◌+◌, ◌-◌, ◌*◌, ◌≤◌, ◌<◌}
use native.Mathlib.Omega.{arith}
use Rattle.prelude.specs.Blocks.{each}
use Rattle.prelude.specs.Sums.{sum, pair_sum, triple_sum, many}

-- no term, and one more
pub sum_none : (f : ℕ → ℕ) → sum 0 f ≡ 0
unfolding sum
sum_none f = refl

pub sum_more : (n : ℕ) (f : ℕ → ℕ) → sum (n + 1) f ≡ sum n f + f n
unfolding sum
sum_more n f = ap (λ (k : ℕ). sum k f) (add-one n)

-- terms that agree
pub sum_same : (n : ℕ) (f g : ℕ → ℕ) → ((i : ℕ) → i < n → f i ≡ g i) → sum n f ≡ sum n g
unfolding sum
sum_same zero f g h = refl
sum_same (suc n) f g h = ap₂ (λ (x y : ℕ). x + y) (sum_same n f g (λ i l. h i (omega arith))) (h n (omega arith))

-- two terms for each number
pub sum_add : (n : ℕ) (f g : ℕ → ℕ) → sum n (λ i. f i + g i) ≡ sum n f + sum n g
unfolding sum
sum_add zero f g = refl
sum_add (suc n) f g = let e = sum_add n f g in omega arith

-- a factor of all terms
pub sum_times : (c n : ℕ) (f : ℕ → ℕ) → sum n (λ i. c * f i) ≡ c * sum n f
unfolding sum
sum_times c zero f = sym (mul-zero c)
sum_times c (suc n) f = let e = sum_times c n f in let m = mul-add c (sum n f) (f n) in omega arith

-- one term, as often
pub sum_const : (n c : ℕ) → sum n (λ i. c) ≡ n * c
unfolding sum
sum_const zero c = sym (zero-mul c)
sum_const (suc n) c = let e = sum_const n c in let m = suc-mul n c in omega arith

-- terms that are at most so much
pub sum_most : (n c : ℕ) (f : ℕ → ℕ) → ((i : ℕ) → i < n → f i ≤ c) → sum n f ≤ n * c
unfolding sum
sum_most zero c f h = omega arith
sum_most (suc n) c f h =
    let e = sum_most n c f (λ i l. h i (omega arith)) in
    let t = h n (omega arith) in
    let m = suc-mul n c in
    omega arith

-- the first terms, and those after them
pub sum_join : (a b : ℕ) (f : ℕ → ℕ) → sum (a + b) f ≡ sum a f + sum b (λ i. f (a + i))
unfolding sum
sum_join a zero f = ap (λ (k : ℕ). sum k f) (add-zero a) ∙ sym (add-zero (sum a f))
sum_join a (suc b) f =
    ap (λ (k : ℕ). sum k f) (add-suc a b) ∙ ap (λ (x : ℕ). x + f (a + b)) (sum_join a b f)
    ∙ add_assoc (sum a f) (sum b (λ i. f (a + i))) (f (a + b))

-- all terms but the one at which a test holds, and that one
module _ (p : ℕ → Bool) (x : ℕ) (at : p x ≡ true) (else : (i : ℕ) → i ≢ x → p i ≡ false) (f : ℕ → ℕ) where
  without_past : (n : ℕ) → n ≤ x → sum n (λ i. cond (p i) 0 (f i)) ≡ sum n f
  without_past n h = sum_same n (λ i. cond (p i) 0 (f i)) f (λ i l. rw (else i (λ e. omega arith)))

  pub sum_without : (n : ℕ) → x < n → sum n (λ i. cond (p i) 0 (f i)) + f x ≡ sum n f
  unfolding sum
  sum_without zero h = absurd (omega arith)
  sum_without (suc n) h =
      ⊎_elim
      (λ (e : x ≡ n).
      let a = without_past n (omega arith) in
      let b : cond {A = ℕ} (p n) 0 (f n) ≡ 0 = ap (λ (k : ℕ). cond {A = ℕ} (p k) 0 (f n)) (sym e) ∙ rw at in
      let d = ap f e in
      omega arith)
      (λ (l : x < n).
      let a = sum_without n l in
      let b : cond {A = ℕ} (p n) 0 (f n) ≡ f n = rw (else n (λ e. omega arith)) in
      omega arith)
      (eq-or-lt_of_le (le_of_suc-le-suc h))

-- blocks of m terms
pub sum_blocks : (n m : ℕ) (f : ℕ → ℕ) → sum (n * m) f ≡ sum n (λ i. sum m (λ j. f (i * m + j)))
unfolding sum
sum_blocks zero m f = ap (λ (k : ℕ). sum k f) (zero-mul m)
sum_blocks (suc n) m f =
    ap (λ (k : ℕ). sum k f) (suc-mul n m) ∙ sum_join (n * m) m f ∙ ap (λ (x : ℕ). x + sum m (λ j. f (n * m + j))) (sum_blocks n m f)

-- a measure of lists that adds up, over blocks
pub sum_each : {A : Type 0} (μ : List A → ℕ) → μ [] ≡ 0 → ((a b : List A) → μ (a ++ b) ≡ μ a + μ b)
    → (n : ℕ) (f : ℕ → List A) → μ (each n f) ≡ sum n (λ i. μ (f i))
unfolding each sum
sum_each μ z add zero f = z
sum_each μ z add (suc n) f = add (each n f) (f n) ∙ ap (λ (x : ℕ). x + μ (f n)) (sum_each μ z add n f)

-- pairs that agree
pub pair_same : (n : ℕ) (f g : ℕ → ℕ → ℕ) → ((v w : ℕ) → v < w → w < n → f v w ≡ g v w) → pair_sum n f ≡ pair_sum n g
pair_same n f g h =
    sum_same n _ _ (λ v l. sum_same (n - (v + 1)) (λ i. f v (v + 1 + i)) (λ i. g v (v + 1 + i)) (λ i k. h v (v + 1 + i) (omega arith) (omega arith)))

-- two terms for each pair
pub pair_add : (n : ℕ) (f g : ℕ → ℕ → ℕ) → pair_sum n (λ v w. f v w + g v w) ≡ pair_sum n f + pair_sum n g
pair_add n f g =
    sum_same n _ _ (λ v l. sum_add (n - (v + 1)) (λ i. f v (v + 1 + i)) (λ i. g v (v + 1 + i)))
    ∙ sum_add n (λ v. sum (n - (v + 1)) (λ i. f v (v + 1 + i))) (λ v. sum (n - (v + 1)) (λ i. g v (v + 1 + i)))

-- a factor of all terms
pub pair_times : (c n : ℕ) (f : ℕ → ℕ → ℕ) → pair_sum n (λ v w. c * f v w) ≡ c * pair_sum n f
pair_times c n f =
    sum_same n _ _ (λ v l. sum_times c (n - (v + 1)) (λ i. f v (v + 1 + i)))
    ∙ sum_times c n (λ v. sum (n - (v + 1)) (λ i. f v (v + 1 + i)))

-- one number more: its pairs with those below it
pair_step : (n : ℕ) (f : ℕ → ℕ → ℕ) → pair_sum (suc n) f ≡ pair_sum n f + sum n (λ v. f v n)
unfolding sum
pair_step n f =
    let last : suc n - (n + 1) ≡ 0 = omega arith in
    let none = ap (λ (k : ℕ). sum k (λ i. f n (n + 1 + i))) last in
    let all = sum_same n (λ v. sum (suc n - (v + 1)) (λ i. f v (v + 1 + i)))
    (λ v. sum (n - (v + 1)) (λ i. f v (v + 1 + i)) + f v n)
    (λ v l.
    let k : ℕ = n - (v + 1) in
    let e : suc n - (v + 1) ≡ suc k = omega arith in
    let d : v + 1 + k ≡ n = omega arith in
    ap (λ (j : ℕ). sum j (λ i. f v (v + 1 + i))) e ∙ ap (λ (w : ℕ). sum k (λ i. f v (v + 1 + i)) + f v w) d) in
    let add = sum_add n (λ v. sum (n - (v + 1)) (λ i. f v (v + 1 + i))) (λ v. f v n) in
    omega arith

-- each number is in a pair with every other: with the sum over the numbers, the sum of both ends is n times it
pub pair_ends : (n : ℕ) (f : ℕ → ℕ) → pair_sum n (λ v w. f v + f w) + sum n f ≡ n * sum n f
unfolding sum
pair_ends zero f = refl
pair_ends (suc n) f =
    let before = pair_ends n f in
    let step = pair_step n (λ v w. f v + f w) in
    let add = sum_add n f (λ v. f n) in
    let same = sum_const n (f n) in
    let a = suc-mul n (sum n f + f n) in
    let b = mul-add n (sum n f) (f n) in
    omega arith

-- one number more: the triples with it at the end
module _ (n : ℕ) (f : ℕ → ℕ → ℕ → ℕ) where
  -- of the numbers below c, the triples of i and i + 1 + a, and those of i and the k numbers after it
  abbrev row : ℕ → ℕ → ℕ → ℕ
  row c i a = sum (c - (i + 1 + a + 1)) (λ b. f i (i + 1 + a) (i + 1 + a + 1 + b))

  abbrev plane : ℕ → ℕ → ℕ → ℕ
  plane c i k = sum k (row c i)

  row_step : (i a : ℕ) → i + 1 + a < n → row (suc n) i a ≡ row n i a + f i (i + 1 + a) n
  unfolding sum
  row_step i a l =
      let j : ℕ = i + 1 + a in
      let k : ℕ = n - (j + 1) in
      let e : suc n - (j + 1) ≡ suc k = omega arith in
      let d : j + 1 + k ≡ n = omega arith in
      ap (λ (x : ℕ). sum x (λ b. f i j (j + 1 + b))) e ∙ ap (λ (x : ℕ). sum k (λ b. f i j (j + 1 + b)) + f i j x) d

  plane_step : (i : ℕ) → i < n → plane (suc n) i (suc n - (i + 1)) ≡ plane n i (n - (i + 1)) + sum (n - (i + 1)) (λ a. f i (i + 1 + a) n)
  unfolding sum
  plane_step i l =
      let k : ℕ = n - (i + 1) in
      let e : suc n - (i + 1) ≡ suc k = omega arith in
      let d : suc n - (i + 1 + k + 1) ≡ 0 = omega arith in
      let none = ap (λ (x : ℕ). sum x (λ b. f i (i + 1 + k) (i + 1 + k + 1 + b))) d in
      let all = sum_same k (row (suc n) i) (λ a. row n i a + f i (i + 1 + a) n) (λ a h. row_step i a (omega arith)) in
      let add = sum_add k (row n i) (λ a. f i (i + 1 + a) n) in
      ap (plane (suc n) i) e ∙ omega arith

  triple_step : triple_sum (suc n) f ≡ triple_sum n f + pair_sum n (λ i j. f i j n)
  unfolding sum
  triple_step =
      let last : suc n - (n + 1) ≡ 0 = omega arith in
      let none = ap (plane (suc n) n) last in
      let all = sum_same n (λ i. plane (suc n) i (suc n - (i + 1))) (λ i. plane n i (n - (i + 1)) + sum (n - (i + 1)) (λ a. f i (i + 1 + a) n)) plane_step in
      let add = sum_add n (λ i. plane n i (n - (i + 1))) (λ i. sum (n - (i + 1)) (λ a. f i (i + 1 + a) n)) in
      omega arith

-- each pair is in a triple with every other number: with twice the sum over the pairs, the sum of all three sides is n times it
pub triple_sides : (n : ℕ) (f : ℕ → ℕ → ℕ) → triple_sum n (λ i j k. f i j + f j k + f i k) + 2 * pair_sum n f ≡ n * pair_sum n f
unfolding sum
triple_sides zero f = refl
triple_sides (suc n) f =
    let before = triple_sides n f in
    let step = triple_step n (λ i j k. f i j + f j k + f i k) in
    let pairs = pair_step n f in
    let parts = pair_same n (λ i j. f i j + f j n + f i n) (λ i j. f i j + (f i n + f j n)) (λ i j l h. omega arith) in
    let add = pair_add n f (λ i j. f i n + f j n) in
    let ends = pair_ends n (λ i. f i n) in
    let a = suc-mul n (pair_sum n f + sum n (λ i. f i n)) in
    let b = mul-add n (pair_sum n f) (sum n (λ i. f i n)) in
    let c = ap (λ (x : ℕ). suc n * x) pairs in
    omega arith

-- a factor of all terms
pub triple_times : (c n : ℕ) (f : ℕ → ℕ → ℕ → ℕ) → triple_sum n (λ i j k. c * f i j k) ≡ c * triple_sum n f
triple_times c n f =
    sum_same n _ _ (λ i l. sum_same (n - (i + 1)) _ _ (λ a h. sum_times c (n - (i + 1 + a + 1)) (λ b. f i (i + 1 + a) (i + 1 + a + 1 + b)))
    ∙ sum_times c (n - (i + 1)) (row n f n i))
    ∙ sum_times c n (λ i. plane n f n i (n - (i + 1)))

-- two terms for each triple
pub triple_add : (n : ℕ) (f g : ℕ → ℕ → ℕ → ℕ) → triple_sum n (λ i j k. f i j k + g i j k) ≡ triple_sum n f + triple_sum n g
triple_add n f g =
    sum_same n _ _ (λ i l. sum_same (n - (i + 1)) _ _ (λ a h. sum_add (n - (i + 1 + a + 1)) (λ b. f i (i + 1 + a) (i + 1 + a + 1 + b)) (λ b. g i (i + 1 + a) (i + 1 + a + 1 + b)))
    ∙ sum_add (n - (i + 1)) (row n f n i) (row n g n i))
    ∙ sum_add n (λ i. plane n f n i (n - (i + 1))) (λ i. plane n g n i (n - (i + 1)))

-- ---- how many pass a test
-- at most all
pub many_most : (n : ℕ) (p : ℕ → Bool) → many n p ≤ n
unfolding many
many_most n p = let m = sum_most n 1 (λ i. cond (p i) 1 0) (λ i h. low (p i)) in omega arith
  where
    low : (b : Bool) → cond {A = ℕ} b 1 0 ≤ 1
    low true = omega arith
    low false = omega arith

-- a test that is passed wherever another is, and there are no more
less_step : (a b : Bool) (x y : ℕ) → (T a → T b) → x ≤ y → x + cond a 1 0 ≤ y + cond b 1 0
less_step true true x y f h = omega arith
less_step true false x y f h = absurd (f tt)
less_step false true x y f h = omega arith
less_step false false x y f h = omega arith

many_within : (n : ℕ) (p q : ℕ → Bool) → ((i : ℕ) → i < n → T (p i) → T (q i)) → many n p ≤ many n q
unfolding many sum
many_within zero p q f = omega arith
many_within (suc n) p q f =
    less_step (p n) (q n) (many n p) (many n q) (f n (omega arith)) (many_within n p q (λ i h. f i (omega arith)))

-- and at one number that alone: fewer
less_here : (a b : Bool) (x y : ℕ) → T (not a) → T b → x ≤ y → x + cond a 1 0 < y + cond b 1 0
less_here true b x y f g h = absurd f
less_here false true x y f g h = omega arith
less_here false false x y f g h = absurd g

pub many_less : (n : ℕ) (p q : ℕ → Bool) → ((i : ℕ) → i < n → T (p i) → T (q i)) → (x : ℕ) → x < n → T (not (p x)) → T (q x)
    → many n p < many n q
unfolding many sum
many_less zero p q f x h a b = absurd (omega arith)
many_less (suc n) p q f x h a b =
    ⊎_elim
    (λ (e : x ≡ n).
    less_here (p n) (q n) (many n p) (many n q) (subst (λ (k : ℕ). T (not (p k))) e a) (subst (λ (k : ℕ). T (q k)) e b)
    (many_within n p q (λ i l. f i (omega arith))))
    (λ (l : x < n).
    let m = less_step (p n) (q n) (suc (many n p)) (many n q) (f n (omega arith)) (many_less n p q (λ i l. f i (omega arith)) x l a b) in
    omega arith)
    (eq-or-lt_of_le (le_of_suc-le-suc h))
