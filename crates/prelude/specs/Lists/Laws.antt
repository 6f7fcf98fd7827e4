-- Laws of lists by index. Assumes nothing.
use Rattle.std.specs.Prelude.{◌≡◌, Bool, true, false, not, ◌&&◌, ◌||◌, cond, eqb, length, get_or}
use Rattle.std.proofs.Math.Path.{refl, ap}
use Rattle.std.proofs.Common.{sym, ap₂, ◌∙◌, subst, ⊎_elim, eqb→eq, get_or-append-add}
use mathlib.Core.List.{List, [], ◌∷◌, ◌++◌}
use Prim.Native.Nat.{ℕ, zero, suc, ◌+◌, ◌-◌, ◌≤◌, ◌<◌}
use native.Mathlib.Omega.{arith}
use Rattle.std.proofs.Math.Dec.{T, eqb_refl}
use Rattle.prelude.specs.Tests.{T-eq, T_of, not_true_false, and_in, and_l, and_r, or_l, or_r, or_cases, le?, cond-true, cond-false}
use Rattle.prelude.specs.Lists.{equal_lists, any_from, all_from, tab, first_of, Each}

-- a list passes the test of equality with itself
equal_self : (a : List ℕ) → T (equal_lists a a)
unfolding equal_lists
equal_self [] = tt
equal_self (x ∷ a) = and_in (eqb x x) (equal_lists a a) (eqb_refl x) (equal_self a)

-- lists that pass the test of equality are equal
pub equal_true : (a b : List ℕ) → equal_lists a b ≡ true → a ≡ b
unfolding equal_lists
equal_true [] [] e = refl
equal_true [] (y ∷ b) e = cc
equal_true (x ∷ a) [] e = cc
equal_true (x ∷ a) (y ∷ b) e =
    let t = T_of (eqb x y && equal_lists a b) e in
    ap₂ (λ (h : ℕ) (l : List ℕ). h ∷ l) (eqb→eq x y (and_l (eqb x y) (equal_lists a b) t))
    (equal_true a b (T-eq (equal_lists a b) (and_r (eqb x y) (equal_lists a b) t)))

-- equal lists pass the test
pub true_equal : (a b : List ℕ) → a ≡ b → equal_lists a b ≡ true
true_equal a b e = ap (equal_lists a) (sym e) ∙ T-eq (equal_lists a a) (equal_self a)

-- lists that differ fail it
pub false_equal : (a b : List ℕ) → (a ≡ b → ⊥) → equal_lists a b ≡ false
false_equal a b h = not_true_false (equal_lists a b) (λ e. h (equal_true a b e))

-- where a test over a range holds, a number at which it does
pub any_out : (a n : ℕ) (p : ℕ → Bool) → T (any_from a n p) → (i : ℕ) × (a ≤ i) × (i < a + n) × T (p i)
any_out a zero p t = absurd t
any_out a (suc n) p t =
    ⊎_elim (λ x. (a, omega arith, omega arith, x)) (λ x. let w = any_out (suc a) n p x in (w.0, omega arith, omega arith, w.3))
    (or_cases (p a) _ t)

-- a number of the range at which the test holds is enough
pub any_in : (a n : ℕ) (p : ℕ → Bool) (i : ℕ) → a ≤ i → i < a + n → T (p i) → T (any_from a n p)
any_in a zero p i l u t = absurd (omega arith)
any_in a (suc n) p i l u t =
    ⊎_elim (λ h. or_l (p a) _ (subst (λ (k : ℕ). T (p k)) (let z : i ≡ a = omega arith in z) t))
    (λ h. or_r (p a) _ (any_in (suc a) n p i h (omega arith) t))
    (le? i a)

-- tests that agree on the range give the same
pub any_same : (a n : ℕ) (p q : ℕ → Bool) → ((i : ℕ) → a ≤ i → i < a + n → p i ≡ q i) → any_from a n p ≡ any_from a n q
any_same a zero p q h = refl
any_same a (suc n) p q h =
    ap₂ ◌||◌ (h a (omega arith) (omega arith)) (any_same (suc a) n p q (λ i l u. h i (omega arith) (omega arith)))

-- a test over the whole range holds at each number of it
pub all_out : (a n : ℕ) (p : ℕ → Bool) → T (all_from a n p) → (i : ℕ) → a ≤ i → i < a + n → T (p i)
all_out a zero p t i l u = absurd (omega arith)
all_out a (suc n) p t i l u =
    ⊎_elim (λ h. subst (λ (k : ℕ). T (p k)) (let z : a ≡ i = omega arith in z) (and_l (p a) (all_from (suc a) n p) t))
    (λ h. all_out (suc a) n p (and_r (p a) (all_from (suc a) n p) t) i h (omega arith))
    (le? i a)

-- and holds over the range where it holds at each
pub all_in : (a n : ℕ) (p : ℕ → Bool) → ((i : ℕ) → a ≤ i → i < a + n → T (p i)) → T (all_from a n p)
all_in a zero p h = tt
all_in a (suc n) p h =
    and_in (p a) (all_from (suc a) n p) (h a (omega arith) (omega arith))
    (all_in (suc a) n p (λ i l u. h i (omega arith) (omega arith)))

-- one element of a search: before the first, at the first, and how far it is
before_step : (t : Bool) (f j : ℕ) (P : ℕ → Type 0) → j < cond t 0 (suc f) → (T (not t) → P 0) → ((i : ℕ) → i < f → P (suc i)) → P j
before_step true f j P h a b = absurd (omega arith)
before_step false f zero P h a b = a tt
before_step false f (suc j) P h a b = b j (omega arith)

holds_step : (t : Bool) (f n : ℕ) (P : ℕ → Type 0) → cond t 0 (suc f) < suc n → (T t → P 0) → (f < n → P (suc f)) → P (cond t 0 (suc f))
holds_step true f n P h a b = a tt
holds_step false f n P h a b = b (omega arith)

within_step : (t : Bool) (f n : ℕ) → f ≤ n → cond t 0 (suc f) ≤ suc n
within_step true f n h = omega arith
within_step false f n h = omega arith

module _ {A : Type 0} where
  -- a list made of a function has as many entries as it says
  pub length_tab : (a n : ℕ) (f : ℕ → A) → length (tab a n f) ≡ n
  length_tab a zero f = refl
  length_tab a (suc n) f = ap suc (length_tab (suc a) n f)

  -- its entries are the function's values
  pub get_d_tab : (a n : ℕ) (f : ℕ → A) (i : ℕ) (d : A) → i < n → get_or (tab a n f) i d ≡ f (a + i)
  get_d_tab a zero f i d h = absurd (omega arith)
  get_d_tab a (suc n) f zero d h = ap f (let z : a ≡ a + 0 = omega arith in z)
  get_d_tab a (suc n) f (suc i) d h =
      get_d_tab (suc a) n f i d (omega arith) ∙ ap f (let z : suc a + i ≡ a + suc i = omega arith in z)

  -- one value more
  pub tab_more : (a n : ℕ) (f : ℕ → A) → tab a (suc n) f ≡ tab a n f ++ (f (a + n) ∷ [])
  tab_more a zero f = ap (λ (x : ℕ). f x ∷ []) (let z : a ≡ a + 0 = omega arith in z)
  tab_more a (suc n) f =
      ap (λ (l : List A). f a ∷ l) (tab_more (suc a) n f)
      ∙ ap (λ (x : ℕ). f a ∷ (tab (suc a) n f ++ (f x ∷ []))) (let z : suc a + n ≡ a + suc n = omega arith in z)

  -- a list made of a function has nothing else of it than its values there
  pub tab_same : (a n : ℕ) (f g : ℕ → A) → ((i : ℕ) → a ≤ i → i < a + n → f i ≡ g i) → tab a n f ≡ tab a n g
  tab_same a zero f g e = refl
  tab_same a (suc n) f g e =
      ap₂ (λ (x : A) (l : List A). x ∷ l) (e a (omega arith) (omega arith)) (tab_same (suc a) n f g (λ i h l. e i (omega arith) (omega arith)))

  -- an entry of two lists joined, in the second
  pub get_d_right : (a b : List A) (k : ℕ) (d : A) → length a ≤ k → get_or (a ++ b) k d ≡ get_or b (k - length a) d
  get_d_right a b k d h =
      let e : k ≡ length a + (k - length a) = omega arith in
      ap (λ (i : ℕ). get_or (a ++ b) i d) e ∙ get_or-append-add a b (k - length a) d

  -- the first element at which the test holds, by index
  pub first_is : (p : A → Bool) (l : List A) (d : A) (i : ℕ) → i < length l → T (p (get_or l i d))
      → ((j : ℕ) → j < i → T (not (p (get_or l j d)))) → first_of p l ≡ i
  unfolding first_of
  first_is p [] d i h t f = absurd (omega arith)
  first_is p (x ∷ l) d zero h t f = cond-true (p x) 0 (suc (first_of p l)) t
  first_is p (x ∷ l) d (suc i) h t f =
      cond-false (p x) 0 (suc (first_of p l)) (f 0 (omega arith))
      ∙ ap suc (first_is p l d i (omega arith) t (λ j g. f (suc j) (omega arith)))

  -- no element at which the test holds
  pub first_none : (p : A → Bool) (l : List A) (d : A) → ((j : ℕ) → j < length l → T (not (p (get_or l j d)))) → first_of p l ≡ length l
  unfolding first_of
  first_none p [] d f = refl
  first_none p (x ∷ l) d f =
      cond-false (p x) 0 (suc (first_of p l)) (f 0 (omega arith)) ∙ ap suc (first_none p l d (λ j g. f (suc j) (omega arith)))

  -- the test fails at each element before the first
  pub first_before : (p : A → Bool) (l : List A) (d : A) (j : ℕ) → j < first_of p l → T (not (p (get_or l j d)))
  unfolding first_of
  first_before p [] d j h = absurd (omega arith)
  first_before p (x ∷ l) d j h =
      before_step (p x) (first_of p l) j (λ (i : ℕ). T (not (p (get_or (x ∷ l) i d)))) h (λ t. t) (λ i g. first_before p l d i g)

  -- and holds at the first, where there is one
  pub first_holds : (p : A → Bool) (l : List A) (d : A) → first_of p l < length l → T (p (get_or l (first_of p l) d))
  unfolding first_of
  first_holds p [] d h = absurd (omega arith)
  first_holds p (x ∷ l) d h =
      holds_step (p x) (first_of p l) (length l) (λ (i : ℕ). T (p (get_or (x ∷ l) i d))) h (λ t. t) (λ g. first_holds p l d g)

  -- the first is within the list, or its length
  pub first_within : (p : A → Bool) (l : List A) → first_of p l ≤ length l
  unfolding first_of
  first_within p [] = omega arith
  first_within p (x ∷ l) = within_step (p x) (first_of p l) (length l) (first_within p l)

  -- what holds of each element holds by index
  pub each_out : (P : A → Type 0) (l : List A) (d : A) → Each P l → (i : ℕ) → i < length l → P (get_or l i d)
  each_out P [] d h i g = absurd (omega arith)
  each_out P (x ∷ l) d h zero g = h.0
  each_out P (x ∷ l) d h (suc i) g = each_out P l d h.1 i (omega arith)

  -- and the other way round
  pub each_in : (P : A → Type 0) (l : List A) (d : A) → ((i : ℕ) → i < length l → P (get_or l i d)) → Each P l
  each_in P [] d h = tt
  each_in P (x ∷ l) d h = (h 0 (omega arith), each_in P l d (λ i g. h (suc i) (omega arith)))

  -- what holds of each element of two lists holds of each of both joined
  pub each_join : (P : A → Type 0) (a b : List A) → Each P a → Each P b → Each P (a ++ b)
  each_join P [] b h g = g
  each_join P (x ∷ a) b h g = (h.0, each_join P a b h.1 g)

  -- and of what is joined it holds of each part
  pub each_first : (P : A → Type 0) (a b : List A) → Each P (a ++ b) → Each P a
  each_first P [] b h = tt
  each_first P (x ∷ a) b h = (h.0, each_first P a b h.1)

  pub each_last : (P : A → Type 0) (a b : List A) → Each P (a ++ b) → Each P b
  each_last P [] b h = h
  each_last P (x ∷ a) b h = each_last P a b h.1

  -- and of each element of the one that a test takes
  pub each_cond : (P : A → Type 0) (t : Bool) (a b : List A) → (T t → Each P a) → (T (not t) → Each P b) → Each P (cond t a b)
  each_cond P true a b h g = h tt
  each_cond P false a b h g = g tt

  -- what follows at each element
  pub each_then : (P Q : A → Type 0) (l : List A) → ((x : A) → P x → Q x) → Each P l → Each Q l
  each_then P Q [] f h = tt
  each_then P Q (x ∷ l) f h = (f x h.0, each_then P Q l f h.1)

  -- at any index, where it holds of what stands past the end
  pub each_get : (P : A → Type 0) (l : List A) (d : A) → P d → Each P l → (i : ℕ) → P (get_or l i d)
  each_get P [] d p h i = p
  each_get P (x ∷ l) d p h zero = h.0
  each_get P (x ∷ l) d p h (suc i) = each_get P l d p h.1 i
