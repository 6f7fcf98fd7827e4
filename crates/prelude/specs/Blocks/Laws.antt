-- Laws of lists in blocks. Assumes nothing.
use Rattle.std.specs.Prelude.{◌≡◌, get_or, take}
use Rattle.std.proofs.Math.Path.{refl, sym, ap, ap₂}
use Rattle.std.proofs.Common.{◌∙◌, not-suc-le-zero, le_of_suc-le-suc, eq-or-lt_of_le, zero-mul, suc-mul, add_assoc, le_refl, mul-one, mul-zero, mul-add, mod-lt, div-add-mod', div-lt_iff_lt-mul, add-one, take-append-drop, get_or-append-add, take-suc, length-take-le}
use mathlib.Core.List.{List, [], ◌∷◌, ◌++◌, append_assoc}
use Rattle.std.proofs.Math.Logic.{⊎_elim}
use Prim.Native.Nat.{ℕ, zero, suc, ◌+◌, ◌*◌, ◌/◌, ◌%◌, ◌≤◌, ◌<◌}
use Rattle.std.proofs.Math.Nat.{add-zero, zero-add}
use native.Mathlib.Omega.{arith}
use Rattle.std.proofs.Math.ListN.{length, drop, length-append, get_or-append}
use Rattle.std.proofs.lemmas.List.{get_or_at}
use Rattle.std.proofs.Math.Seq.{split_at}
use Rattle.prelude.specs.Lists.{Each}
use Rattle.prelude.specs.Lists.Laws.{each_join}
use Rattle.prelude.specs.Blocks.{each, for, flatten, pairs_from}
use Rattle.prelude.specs.Written.{written}
use Rattle.prelude.specs.Written.Laws.{written_append}

-- a product above a number has a second factor above 0
pub divisor_pos : (n m j : ℕ) → j < n * m → 0 < m
divisor_pos n zero j l = absurd (omega (arith, mul-zero n))
divisor_pos n (suc m) j l = omega arith

-- quotient and remainder of a number below a product
pub quotient_low : (n m j : ℕ) → j < n * m → j / m < n
quotient_low n m j l = (div-lt_iff_lt-mul (divisor_pos n m j l)).1 l

pub remainder_low : (n m j : ℕ) → j < n * m → j % m < m
remainder_low n m j l = mod-lt j (divisor_pos n m j l)

-- the three digits of a number: of a step, an end, and what comes below
pub digits_low : (m a b j : ℕ) → j < m * (a * b) → (0 < a * b) × (j / (a * b) < m) × (j % (a * b) / b < a) × (j % (a * b) % b < b)
digits_low m a b j l =
    let i : j % (a * b) < a * b = remainder_low m (a * b) j l in
    (divisor_pos m (a * b) j l, quotient_low m (a * b) j l, quotient_low a b (j % (a * b)) i, remainder_low a b (j % (a * b)) i)

module _ {A : Type 0} where
  -- one block more
  pub each_more : (n : ℕ) (f : ℕ → List A) → each (n + 1) f ≡ each n f ++ f n
  unfolding each
  each_more n f = ap (λ (k : ℕ). each k f) (add-one n)

  -- blocks that agree
  pub each_same : (n : ℕ) (f g : ℕ → List A) → ((i : ℕ) → i < n → f i ≡ g i) → each n f ≡ each n g
  unfolding each
  each_same zero f g h = refl
  each_same (suc n) f g h = ap₂ (λ (x y : List A). x ++ y) (each_same n f g (λ i l. h i (omega arith))) (h n (omega arith))

  -- block i lies within the whole
  pub each_room : (n i : ℕ) (f : ℕ → List A) → i < n → length (each i f) + length (f i) ≤ length (each n f)
  unfolding each
  each_room zero i f l = absurd (not-suc-le-zero l)
  each_room (suc n) i f l =
      ⊎_elim (λ (e : i ≡ n). rw (e, length-append) (le_refl _)) (λ k. let h = each_room n i f k in rw length-append (omega arith))
      (eq-or-lt_of_le (le_of_suc-le-suc l))

  -- entry j of block i
  pub each_index : (n i j : ℕ) (f : ℕ → List A) (d : A) → i < n → j < length (f i)
      → get_or (each n f) (length (each i f) + j) d ≡ get_or (f i) j d
  unfolding each
  each_index zero i j f d l h = absurd (not-suc-le-zero l)
  each_index (suc n) i j f d l h =
      ⊎_elim (λ (e : i ≡ n). rw e (get_or-append-add (each n f) (f n) j d))
      (λ k. let room = each_room n i f k in
      get_or-append (each n f) (f n) d (length (each i f) + j) (omega arith) ∙ each_index n i j f d k h)
      (eq-or-lt_of_le (le_of_suc-le-suc l))

  -- the length of blocks of one length
  pub each_length : (n m : ℕ) (f : ℕ → List A) → ((i : ℕ) → i < n → length (f i) ≡ m) → length (each n f) ≡ n * m
  unfolding each
  each_length zero m f h = sym (zero-mul m)
  each_length (suc n) m f h =
      length-append (each n f) (f n) ∙ ap₂ (λ (x y : ℕ). x + y) (each_length n m f (λ i l. h i (omega arith))) (h n (omega arith))
      ∙ sym (suc-mul n m)

  -- entry j of block i, of blocks of one length
  pub each_at : (n m i j : ℕ) (f : ℕ → List A) (d : A) → ((i : ℕ) → i < n → length (f i) ≡ m) → i < n → j < m
      → get_or (each n f) (i * m + j) d ≡ get_or (f i) j d
  each_at n m i j f d h l k =
      let e : length (each i f) ≡ i * m = each_length i m f (λ a b. h a (omega arith)) in
      rw (← e) (each_index n i j f d l (rw (h i l) k))

  -- blocks from 0 on
  pub for_zero : (n : ℕ) (f : ℕ → List A) → for 0 n f ≡ each n f
  for_zero n f = each_same n (λ i. f (0 + i)) f (λ i l. ap f (zero-add i))

  -- blocks from 1 on, with the one that follows them
  pub for_last : (n : ℕ) (f : ℕ → List A) → for 1 n f ++ f (n + 1) ≡ for 1 (n + 1) f
  for_last n f =
      let e : n + 1 ≡ 1 + n = omega arith in
      ap (λ (x : ℕ). for 1 n f ++ f x) e ∙ sym (each_more n (λ i. f (1 + i)))

  -- entry j of blocks of one length: the quotient is the block, the remainder the place in it
  pub each_div : (n m j : ℕ) (f : ℕ → List A) (d : A) → ((i : ℕ) → i < n → length (f i) ≡ m) → j < n * m
      → get_or (each n f) j d ≡ get_or (f (j / m)) (j % m) d
  each_div n m j f d h l =
      ap (λ (x : ℕ). get_or (each n f) x d) (sym (div-add-mod' j m))
      ∙ each_at n m (j / m) (j % m) f d h (quotient_low n m j l) (remainder_low n m j l)

  -- blocks of one entry: how many
  pub singles_length : (n : ℕ) (h : ℕ → A) → length (each n (λ i. h i ∷ [])) ≡ n
  singles_length n h = each_length n 1 (λ i. h i ∷ []) (λ i l. refl) ∙ mul-one n

  -- blocks of one entry: which
  pub singles_at : (n i : ℕ) (h : ℕ → A) (d : A) → i < n → get_or (each n (λ i. h i ∷ [])) i d ≡ h i
  singles_at n i h d l =
      let e : i * 1 + 0 ≡ i = omega arith in
      rw e at (each_at n 1 i 0 (λ i. h i ∷ []) d (λ i l. refl) l (omega arith))

  -- what holds of each element of each block holds of each element of the whole
  pub each_blocks : (P : A → Type 0) (n : ℕ) (f : ℕ → List A) → ((i : ℕ) → i < n → Each P (f i)) → Each P (each n f)
  unfolding each
  each_blocks P zero f h = tt
  each_blocks P (suc n) f h = each_join P (each n f) (f n) (each_blocks P n f (λ i l. h i (omega arith))) (h n (omega arith))

  -- two lists of lists joined
  pub flatten_append : (a b : List (List A)) → flatten (a ++ b) ≡ flatten a ++ flatten b
  unfolding flatten
  flatten_append [] b = refl
  flatten_append (x ∷ a) b = ap (λ (l : List A). x ++ l) (flatten_append a b) ∙ sym (append_assoc x (flatten a) (flatten b))

  -- one list alone
  pub flatten_one : (x : List A) → flatten (x ∷ []) ≡ x
  unfolding flatten
  flatten_one [] = refl
  flatten_one (a ∷ x) = ap (λ (l : List A). a ∷ l) (flatten_one x)

  -- the first k + 1 lists
  pub flatten_more : (F : List (List A)) (k : ℕ) → k < length F → flatten (take (k + 1) F) ≡ flatten (take k F) ++ get_or F k []
  flatten_more F k h =
      ap (λ (j : ℕ). flatten (take j F)) (add-one k) ∙ ap flatten (take-suc F k [] h)
      ∙ flatten_append (take k F) (get_or F k [] ∷ []) ∙ ap (λ (l : List A). flatten (take k F) ++ l) (flatten_one (get_or F k []))

  -- list k lies within the whole
  pub flatten_room : (F : List (List A)) (k : ℕ) → k < length F → length (flatten (take k F)) + length (get_or F k []) ≤ length (flatten F)
  flatten_room F k h =
      let e : length (flatten F) ≡ length (flatten (take (k + 1) F)) + length (flatten (drop (k + 1) F)) =
      ap (λ (l : List (List A)). length (flatten l)) (sym (take-append-drop (k + 1) F))
      ∙ ap length (flatten_append (take (k + 1) F) (drop (k + 1) F)) ∙ length-append (flatten (take (k + 1) F)) (flatten (drop (k + 1) F)) in
      let g : length (flatten (take (k + 1) F)) ≡ length (flatten (take k F)) + length (get_or F k []) =
      ap length (flatten_more F k h) ∙ length-append (flatten (take k F)) (get_or F k []) in
      omega arith

  -- the elements of blocks that have as many each
  pub flatten_length : (n m : ℕ) (f : ℕ → List (List A)) → ((i : ℕ) → i < n → length (flatten (f i)) ≡ m)
      → length (flatten (each n f)) ≡ n * m
  unfolding each flatten
  flatten_length zero m f h = sym (zero-mul m)
  flatten_length (suc n) m f h =
      ap length (flatten_append (each n f) (f n)) ∙ length-append (flatten (each n f)) (flatten (f n))
      ∙ ap₂ (λ (x y : ℕ). x + y) (flatten_length n m f (λ i l. h i (omega arith))) (h n (omega arith)) ∙ sym (suc-mul n m)

  -- two lists of lists, of b elements each
  pub flatten_both : (b : ℕ) (F G : List (List A)) → length (flatten F) ≡ b * length F → length (flatten G) ≡ b * length G
      → length (flatten (F ++ G)) ≡ b * length (F ++ G)
  flatten_both b F G f g =
      ap length (flatten_append F G) ∙ length-append (flatten F) (flatten G) ∙ ap₂ (λ (x y : ℕ). x + y) f g
      ∙ sym (mul-add b (length F) (length G)) ∙ ap (λ (x : ℕ). b * x) (sym (length-append F G))

  -- blocks of lists, of b elements each
  pub flatten_each : (b n : ℕ) (f : ℕ → List (List A)) → ((i : ℕ) → length (flatten (f i)) ≡ b * length (f i))
      → length (flatten (each n f)) ≡ b * length (each n f)
  unfolding each flatten
  flatten_each b zero f h = sym (mul-zero b)
  flatten_each b (suc n) f h = flatten_both b (each n f) (f n) (flatten_each b n f h) (h n)

  -- pairs of two lists of lists joined
  pub pairs_append : (at : ℕ) (a b : List (List A)) → pairs_from at (a ++ b) ≡ pairs_from at a ++ pairs_from (at + length (flatten a)) b
  unfolding flatten pairs_from
  pairs_append at [] b = rw add-zero
  pairs_append at (x ∷ a) b =
      ap (λ (l : List ℕ). at ∷ length x ∷ l)
      (pairs_append (at + length x) a b
      ∙ ap (λ (k : ℕ). pairs_from (at + length x) a ++ pairs_from k b) (add_assoc at (length x) (length (flatten a)) ∙ ap (λ (k : ℕ). at + k) (sym (length-append x (flatten a)))))

  -- two entries for each list
  pub pairs_length : (at : ℕ) (a : List (List A)) → length (pairs_from at a) ≡ 2 * length a
  unfolding pairs_from
  pairs_length at [] = refl
  pairs_length at (x ∷ a) = let e = pairs_length (at + length x) a in omega arith

  -- the pairs of the first k + 1 lists
  pairs_more : (at : ℕ) (F : List (List A)) (k : ℕ) → k < length F
      → pairs_from at (take (k + 1) F) ≡ pairs_from at (take k F) ++ ((at + length (flatten (take k F))) ∷ length (get_or F k []) ∷ [])
  unfolding pairs_from
  pairs_more at F k h =
      ap (λ (j : ℕ). pairs_from at (take j F)) (add-one k) ∙ ap (pairs_from at) (take-suc F k [] h)
      ∙ pairs_append at (take k F) (get_or F k [] ∷ [])

  -- the pairs of the lists before list k
  pairs_before_lem : (at : ℕ) (F : List (List A)) (k : ℕ) → k ≤ length F → length (pairs_from at (take k F)) ≡ 2 * k
  pairs_before_lem at F k h = pairs_length at (take k F) ∙ ap (λ (i : ℕ). 2 * i) (length-take-le k F h)

  -- a store one list further: its pairs, from the entry to on
  pub store_pairs_more : (l : List ℕ) (to at : ℕ) (F : List (List A)) (k : ℕ) → k < length F → to + 2 * length F ≤ length l
      → written (written l to (pairs_from at (take k F))) (to + 2 * k) ((at + length (flatten (take k F))) ∷ length (get_or F k []) ∷ [])
      ≡ written l to (pairs_from at (take (k + 1) F))
  store_pairs_more l to at F k h room =
      let e = pairs_before_lem at F k (omega arith) in
      let pair : List ℕ = (at + length (flatten (take k F))) ∷ length (get_or F k []) ∷ [] in
      ap (λ (i : ℕ). written (written l to (pairs_from at (take k F))) (to + i) pair) (sym e)
      ∙ written_append l to (pairs_from at (take k F)) pair (omega arith) ∙ ap (written l to) (sym (pairs_more at F k h))

  -- list k with what stands before and after it
  pub flatten_split : (F : List (List A)) (k : ℕ) → k < length F
      → flatten F ≡ flatten (take k F) ++ (get_or F k [] ++ flatten (drop (suc k) F))
  unfolding flatten
  flatten_split F k h = ap flatten (split_at F k [] h) ∙ flatten_append (take k F) (get_or F k [] ∷ drop (suc k) F)

  pairs_split : (F : List (List A)) (k : ℕ) → k < length F
      → pairs_from 0 F
      ≡ pairs_from 0 (take k F) ++ (length (flatten (take k F)) ∷ length (get_or F k []) ∷ pairs_from (length (flatten (take k F)) + length (get_or F k [])) (drop (suc k) F))
  unfolding pairs_from
  pairs_split F k h = ap (pairs_from 0) (split_at F k [] h) ∙ pairs_append 0 (take k F) (get_or F k [] ∷ drop (suc k) F) ∙ rw zero-add

  -- the offset of pair k
  pub pair_offset : (F : List (List A)) (k : ℕ) → k < length F → get_or (pairs_from 0 F) (2 * k) 0 ≡ length (flatten (take k F))
  pair_offset F k h =
      ap (λ (l : List ℕ). get_or l (2 * k) 0) (pairs_split F k h)
      ∙ get_or_at (pairs_from 0 (take k F)) _ _ 0 (2 * k) (pairs_before_lem 0 F k (omega arith))

  -- the length of pair k
  pub pair_length : (F : List (List A)) (k : ℕ) → k < length F → get_or (pairs_from 0 F) (2 * k + 1) 0 ≡ length (get_or F k [])
  pair_length F k h =
      let rest : List ℕ = length (flatten (take k F)) ∷ length (get_or F k []) ∷ pairs_from (length (flatten (take k F)) + length (get_or F k [])) (drop (suc k) F) in
      ap (λ (l : List ℕ). get_or l (2 * k + 1) 0) (pairs_split F k h)
      ∙ ap (λ (i : ℕ). get_or (pairs_from 0 (take k F) ++ rest) (i + 1) 0) (sym (pairs_before_lem 0 F k (omega arith)))
      ∙ get_or-append-add (pairs_from 0 (take k F)) rest 1 0
