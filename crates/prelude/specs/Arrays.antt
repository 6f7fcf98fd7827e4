-- Arrays and tests made by calls of a closure that keeps what it captured: each entry is a function of the entry or the index that it
-- is made of, and a test over a range is that of its numbers. Assumes nothing.
use Rattle.std.proofs.Common.{◌≡◌, refl, Bool, ◌||◌, ◌&&◌, add-one, ℕ, zero, suc, ◌+◌, ◌≤◌, ◌<◌, List, get_or, sym, ap, ◌∙◌, subst, ⊎_elim, arith}
use Rattle.std.specs.Array.{MapsFrom, IsMapOf, IsFromFnResultFrom, IsFromFnResult}
use denote.Param.Members.{Mut, Called}
use Rattle.std.specs.List.{list_any, list_all, range_with_len}
use Rattle.prelude.specs.Lists.{any_from, all_from}
use Rattle.prelude.specs.Tests.{eq?}

module _ {F A B : Type 0} (g : Mut F (A × Unit {0}) B) (f : F) (h : A → B)
    (kept : (x : A) (y : B) (q : F) → Called g f (x, tt) y q → (q ≡ f) × (y ≡ h x)) where
  maps_from : (xs : List A) (ys : List B) (n i : ℕ) → MapsFrom g f xs ys i n → (k : ℕ) (d : A) (e : B) → i ≤ k → k < i + n
      → get_or ys k e ≡ h (get_or xs k d)
  maps_from xs ys zero i m k d e l u = absurd (omega arith)
  maps_from xs ys (suc n) i (q, x, y, x_at, y_at, call, rest) k d e l u =
      let one = kept x y q call in
      ⊎_elim
      (λ (z : k ≡ i). ap (λ (j : ℕ). get_or ys j e) z ∙ y_at.1 e ∙ one.1 ∙ ap h (sym (x_at.1 d)) ∙ ap (λ (j : ℕ). h (get_or xs j d)) (sym z))
      (λ z. maps_from xs ys n (i + 1) (subst (λ (s : F). MapsFrom g s xs ys (i + 1) n) one.0 rest) k d e (omega arith) (omega arith))
      (eq? k i)

  -- an array's `map`
  pub mapped : (xs : List A) (ys : List B) (n : ℕ) → IsMapOf g f xs ys n → (k : ℕ) (d : A) (e : B) → k < n → get_or ys k e ≡ h (get_or xs k d)
  mapped xs ys n m k d e l = maps_from xs ys n 0 m.each k d e (omega arith) (omega arith)

module _ {F B : Type 0} (g : Mut F (ℕ × Unit {0}) B) (f : F) (h : ℕ → B) (n : ℕ)
    (kept : (x : ℕ) (y : B) (q : F) → x < n → Called g f (x, tt) y q → (q ≡ f) × (y ≡ h x)) where
  made_from : (ys : List B) (m i : ℕ) → i + m ≡ n → IsFromFnResultFrom g f ys i m → (k : ℕ) (e : B) → i ≤ k → k < n → get_or ys k e ≡ h k
  made_from ys zero i b m k e l u = absurd (omega arith)
  made_from ys (suc m) i b (q, y, y_at, call, rest) k e l u =
      let one = kept i y q (omega arith) call in
      ⊎_elim
      (λ (z : k ≡ i). ap (λ (j : ℕ). get_or ys j e) z ∙ y_at.1 e ∙ one.1 ∙ ap h (sym z))
      (λ z. made_from ys m (i + 1) (omega arith) (subst (λ (s : F). IsFromFnResultFrom g s ys (i + 1) m) one.0 rest) k e (omega arith) u)
      (eq? k i)

  -- `array::from_fn`
  pub made : (ys : List B) → IsFromFnResult g f ys n → (k : ℕ) (e : B) → k < n → get_or ys k e ≡ h k
  made ys m k e l = made_from ys n 0 (omega arith) m.each k e (omega arith) l

-- a test of some number of a range, and of each
pub any_range : (p : ℕ → Bool) (n a : ℕ) → list_any p (range_with_len a n) ≡ any_from a n p
any_range p zero a = refl
any_range p (suc n) a = ap (λ (t : Bool). p a || t) (any_range p n (a + 1) ∙ ap (λ (b : ℕ). any_from b n p) (add-one a))

pub all_range : (p : ℕ → Bool) (n a : ℕ) → list_all p (range_with_len a n) ≡ all_from a n p
all_range p zero a = refl
all_range p (suc n) a = ap (λ (t : Bool). p a && t) (all_range p n (a + 1) ∙ ap (λ (b : ℕ). all_from b n p) (add-one a))
