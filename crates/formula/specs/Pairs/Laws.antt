-- Laws of pairs and triples by number: how many there are, and blocks of one length for each of them. Assumes nothing.
use Rattle.std.specs.Prelude.{◌≡◌, refl, List, length, get_or}
use Rattle.std.proofs.Math.Path.{sym, ap, ap₂}
use Rattle.std.proofs.Common.{◌∙◌, ⊎_elim, eq-or-lt_of_le, add-mul, mul-add, mul_assoc, mul_comm, suc-mul, mul-le-mul, add_assoc, zero-mul, add-one, arith}
use Prim.Native.Nat.{ℕ, zero, suc, ◌+◌, ◌-◌, ◌*◌, ◌/◌, ◌≤◌, ◌<◌}
use Rattle.std.proofs.Math.Nat.{mul-sub}
use Rattle.std.proofs.Math.Arith.{digits_lt}
use Rattle.std.proofs.Math.ListN.{length-append}
use Rattle.prelude.specs.Tests.{le?}
use Rattle.prelude.specs.Blocks.{each, for}
use Rattle.prelude.specs.Blocks.Laws.{each_same, each_length, each_at, each_index}
use Rattle.formula.specs.Pairs.{pairs_before, PairIs, triples_before, TripleIs}

-- a count that is not used up lies below the end
pub inside : (f : ℕ → ℕ) (c v q : ℕ) → v ≤ c → f v + q < f c → v < c
inside f c v q l h =
    ⊎_elim (λ (e : v ≡ c). let g : f v ≡ f c = ap f e in absurd (omega arith)) (λ (k : v < c). k) (eq-or-lt_of_le l)

pub pairs_none : (c : ℕ) → pairs_before c 0 ≡ 0
unfolding pairs_before
pairs_none c = refl

pub pairs_more : (c k : ℕ) → pairs_before c (k + 1) ≡ pairs_before c k + (c - (k + 1))
unfolding pairs_before
pairs_more c k = rw add-one

pub triples_none : (c : ℕ) → triples_before c 0 ≡ 0
unfolding triples_before
triples_none c = refl

pub triples_more : (c k : ℕ) → triples_before c (k + 1) ≡ triples_before c k + pairs_before (c - (k + 1)) (c - (k + 1))
unfolding triples_before
triples_more c k = rw add-one

-- the number of pairs below c whose v is below k, by its formula
pairs_twice : (c k : ℕ) → k ≤ c → 2 * pairs_before c k ≡ k * (2 * c - k - 1)
unfolding pairs_before
pairs_twice c zero h = sym (zero-mul _)
pairs_twice c (suc k) h =
    let y : ℕ = 2 * c - suc k - 1 in
    let up : 2 * c - k - 1 ≡ y + 1 = omega arith in
    let before : 2 * pairs_before c k ≡ k * y + k * 1 = pairs_twice c k (omega arith) ∙ ap (λ (x : ℕ). k * x) up ∙ mul-add k y 1 in
    let next = suc-mul k y in
    omega arith

pub pairs_are : (c k : ℕ) → k ≤ c → k * (2 * c - k - 1) / 2 ≡ pairs_before c k
pairs_are c k h = let e = pairs_twice c k h in omega arith

-- the number of all pairs below c, by its formula
pub pairs_all : (c : ℕ) → (c * c - c) / 2 ≡ pairs_before c c
pairs_all c =
    let e = pairs_twice c c (omega arith) in
    let f : 2 * c - c - 1 ≡ c - 1 = omega arith in
    let g : c * (2 * c - c - 1) ≡ c * c - c * 1 = ap (λ (x : ℕ). c * x) f ∙ mul-sub c c 1 in
    omega arith

-- its square is no less than c
pub square_up : (c : ℕ) → c ≤ c * c
square_up zero = omega arith
square_up (suc c) = let e = suc-mul c (suc c) in omega arith

-- all of them are small
pub pairs_small : (c : ℕ) → c ≤ 512 → (c * c ≤ 262144) × (pairs_before c c ≤ 131072)
pairs_small c h =
    let e = pairs_all c in
    let m = mul-le-mul {n₁ = c} {m₁ = c} {n₂ = 512} {m₂ = 512} h h in
    (m, omega arith)

-- one number more below c: the triples that start with it, and those of before
triples_step : (c h : ℕ) → triples_before (suc c) (suc h) ≡ pairs_before c c + triples_before c h
unfolding triples_before
triples_step c zero = ap (λ (x : ℕ). 0 + pairs_before x x) (let e : suc c - 1 ≡ c = omega arith in e) ∙ omega arith
triples_step c (suc h) =
    let e : suc c - suc (suc h) ≡ c - suc h = omega arith in
    let f = triples_step c h in
    let g = ap (λ (x : ℕ). pairs_before x x) e in
    omega arith

triples_six : (c : ℕ) → 6 * triples_before c c ≡ c * (c - 1) * (c - 2)
unfolding triples_before pairs_before
triples_six zero = refl
triples_six (suc zero) = refl
triples_six (suc (suc zero)) = refl
triples_six (suc (suc (suc e))) =
    let c : ℕ = suc (suc e) in
    let p : ℕ = c * suc e in
    let pairs : 2 * pairs_before c c ≡ p = pairs_twice c c (omega arith) ∙ ap (λ (x : ℕ). c * x) (omega arith) in
    let one : c - 1 ≡ suc e = omega arith in
    let two : c - 2 ≡ e = omega arith in
    let before : 6 * triples_before c c ≡ p * e = triples_six (suc (suc e)) ∙ ap₂ (λ (x y : ℕ). c * x * y) one two in
    let step = triples_step c c in
    let up : suc c - 1 ≡ c = omega arith in
    let next : suc c - 2 ≡ suc e = omega arith in
    let whole : suc c * (suc c - 1) * (suc c - 2) ≡ p * suc c =
    ap₂ (λ (x y : ℕ). suc c * x * y) up next ∙ mul_assoc (suc c) c (suc e) ∙ mul_comm (suc c) p in
    let three : suc c ≡ e + 3 = omega arith in
    let more : p * suc c ≡ p * e + p * 3 = ap (λ (x : ℕ). p * x) three ∙ mul-add p e 3 in
    omega arith

-- the number of all triples below c, by its formula
pub triples_all : (c : ℕ) → c * (c - 1) * (c - 2) / 2 ≡ triples_before c c * 3
triples_all c = let e = triples_six c in omega arith

-- a row of pairs ends before a later one starts
pub pairs_grow : (c v x : ℕ) → v < x → pairs_before c v + (c - (v + 1)) ≤ pairs_before c x
unfolding pairs_before
pairs_grow c v zero h = absurd (omega arith)
pairs_grow c v (suc x) h =
    ⊎_elim (λ (l : x ≤ v). let e : v ≡ x = omega arith in rw e (omega arith)) (λ (l : v < x). let g = pairs_grow c v x l in omega arith) (le? x v)

module _ {A : Type 0} (b : ℕ) where
  -- blocks g v w for the pairs v < w below c, in rows of one v
  abbrev pub pair_row : ℕ → (ℕ → ℕ → List A) → ℕ → List A
  pair_row c g v = for (v + 1) (c - (v + 1)) (g v)

  row_length : (c v : ℕ) (g : ℕ → ℕ → List A) → ((v w : ℕ) → length (g v w) ≡ b) → length (pair_row c g v) ≡ (c - (v + 1)) * b
  row_length c v g h = each_length (c - (v + 1)) b (λ i. g v (v + 1 + i)) (λ i l. h v (v + 1 + i))

  -- the length of the rows below k
  pub pair_rows_length : (c k : ℕ) (g : ℕ → ℕ → List A) → ((v w : ℕ) → length (g v w) ≡ b) → length (each k (pair_row c g)) ≡ pairs_before c k * b
  unfolding each pairs_before
  pair_rows_length c zero g h = sym (zero-mul b)
  pair_rows_length c (suc k) g h =
      length-append (each k (pair_row c g)) (pair_row c g k)
      ∙ ap₂ (λ (x y : ℕ). x + y) (pair_rows_length c k g h) (row_length c k g h ∙ ap (λ (x : ℕ). (c - x) * b) (add-one k))
      ∙ sym (add-mul (pairs_before c k) (c - suc k) b)

  -- entry s of the block of pair q
  pub pair_rows_at : (c q v w s : ℕ) (g : ℕ → ℕ → List A) (d : A) → ((v w : ℕ) → length (g v w) ≡ b) → PairIs c q v w → s < b
      → get_or (each c (pair_row c g)) (q * b + s) d ≡ get_or (g v w) s d
  pair_rows_at c q v w s g d h p l =
      let up = p.up in
      let within = p.within in
      let i : ℕ = w - (v + 1) in
      let i_low : i < c - (v + 1) = omega arith in
      let e : v + 1 + i ≡ w = omega arith in
      let place : q * b + s ≡ length (each v (pair_row c g)) + (i * b + s) =
      ap (λ (x : ℕ). x * b + s) p.place ∙ ap (λ (x : ℕ). x + s) (add-mul (pairs_before c v) i b)
      ∙ add_assoc (pairs_before c v * b) (i * b) s ∙ ap (λ (x : ℕ). x + (i * b + s)) (sym (pair_rows_length c v g h)) in
      let low : i * b + s < length (pair_row c g v) = rw (row_length c v g h) (digits_lt i_low l) in
      ap (λ (x : ℕ). get_or (each c (pair_row c g)) x d) place ∙ each_index c v (i * b + s) (pair_row c g) d (omega arith) low
      ∙ each_at (c - (v + 1)) b i s (λ i. g v (v + 1 + i)) d (λ x y. h v (v + 1 + x)) i_low l ∙ ap (λ (x : ℕ). get_or (g v x) s d) e

  -- blocks g i j k for the triples i < j < k below c, in planes of one i
  abbrev pub triple_plane : ℕ → (ℕ → ℕ → ℕ → List A) → ℕ → List A
  triple_plane c g i = for (i + 1) (c - (i + 1)) (λ j. for (j + 1) (c - (j + 1)) (g i j))

  -- the triples that start with i are pairs of what is left
  plane_is : (c i : ℕ) (g : ℕ → ℕ → ℕ → List A)
      → triple_plane c g i ≡ each (c - (i + 1)) (pair_row (c - (i + 1)) (λ v w. g i (i + 1 + v) (i + 1 + w)))
  plane_is c i g = each_same (c - (i + 1)) _ _ (λ v l.
      let e : c - (i + 1 + v + 1) ≡ c - (i + 1) - (v + 1) = omega arith in
      ap (λ (n : ℕ). each n (λ k. g i (i + 1 + v) (i + 1 + v + 1 + k))) e
      ∙ each_same (c - (i + 1) - (v + 1)) _ _ (λ k m. ap (g i (i + 1 + v)) (omega arith)))

  plane_length : (c i : ℕ) (g : ℕ → ℕ → ℕ → List A) → ((i j k : ℕ) → length (g i j k) ≡ b)
      → length (triple_plane c g i) ≡ pairs_before (c - (i + 1)) (c - (i + 1)) * b
  plane_length c i g h =
      ap length (plane_is c i g) ∙ pair_rows_length (c - (i + 1)) (c - (i + 1)) (λ v w. g i (i + 1 + v) (i + 1 + w)) (λ v w. h i (i + 1 + v) (i + 1 + w))

  -- the length of the planes below k
  pub triple_planes_length : (c k : ℕ) (g : ℕ → ℕ → ℕ → List A) → ((i j k : ℕ) → length (g i j k) ≡ b)
      → length (each k (triple_plane c g)) ≡ triples_before c k * b
  unfolding each triples_before
  triple_planes_length c zero g h = sym (zero-mul b)
  triple_planes_length c (suc k) g h =
      length-append (each k (triple_plane c g)) (triple_plane c g k)
      ∙ ap₂ (λ (x y : ℕ). x + y) (triple_planes_length c k g h) (plane_length c k g h ∙ ap (λ (x : ℕ). pairs_before (c - x) (c - x) * b) (add-one k))
      ∙ sym (add-mul (triples_before c k) (pairs_before (c - suc k) (c - suc k)) b)

  -- entry s of the block of triple q
  pub triple_planes_at : (c q i j k s : ℕ) (g : ℕ → ℕ → ℕ → List A) (d : A) → ((i j k : ℕ) → length (g i j k) ≡ b) → TripleIs c q i j k → s < b
      → get_or (each c (triple_plane c g)) (q * b + s) d ≡ get_or (g i j k) s d
  triple_planes_at c q i j k s g d h t l =
      let low = t.low in
      let up = t.up in
      let high = t.high in
      let o : ℕ = q - triples_before c i in
      let m : o < pairs_before (c - (i + 1)) (c - (i + 1)) = t.within in
      let ej : i + 1 + (j - (i + 1)) ≡ j = omega arith in
      let ek : i + 1 + (k - (i + 1)) ≡ k = omega arith in
      let place : q * b + s ≡ length (each i (triple_plane c g)) + (o * b + s) =
      ap (λ (x : ℕ). x * b + s) t.place ∙ ap (λ (x : ℕ). x + s) (add-mul (triples_before c i) o b)
      ∙ add_assoc (triples_before c i * b) (o * b) s ∙ ap (λ (x : ℕ). x + (o * b + s)) (sym (triple_planes_length c i g h)) in
      let room : o * b + s < length (triple_plane c g i) = rw (plane_length c i g h) (digits_lt m l) in
      ap (λ (x : ℕ). get_or (each c (triple_plane c g)) x d) place ∙ each_index c i (o * b + s) (triple_plane c g) d (omega arith) room
      ∙ ap (λ (x : List A). get_or x (o * b + s) d) (plane_is c i g)
      ∙ pair_rows_at (c - (i + 1)) o (j - (i + 1)) (k - (i + 1)) s (λ v w. g i (i + 1 + v) (i + 1 + w)) d (λ v w. h i (i + 1 + v) (i + 1 + w)) t.rest l
      ∙ ap₂ (λ (x y : ℕ). get_or (g i x y) s d) ej ek
