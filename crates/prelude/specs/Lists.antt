-- Lists by index: equality as a test, tests over a range of numbers, a list made of a function. Assumes nothing.
use Rattle.std.specs.Prelude.{Bool, true, false, ◌&&◌, ◌||◌, cond, List, [], ◌∷◌, ℕ, zero, suc, eqb}
pub mod Laws

-- whether two lists of numbers are equal
unfoldable pub equal_lists : List ℕ → List ℕ → Bool
equal_lists [] [] = true
equal_lists [] (y ∷ ys) = false
equal_lists (x ∷ xs) [] = false
equal_lists (x ∷ xs) (y ∷ ys) = eqb x y && equal_lists xs ys

-- whether the test holds at some of the n numbers from a on
abbrev pub any_from : ℕ → ℕ → (ℕ → Bool) → Bool
any_from a zero p = false
any_from a (suc n) p = p a || any_from (suc a) n p

-- whether the test holds at each of the n numbers from a on
abbrev pub all_from : ℕ → ℕ → (ℕ → Bool) → Bool
all_from a zero p = true
all_from a (suc n) p = p a && all_from (suc a) n p

-- f a, f (a + 1), ..: n values
abbrev pub tab : {A : Type 0} → ℕ → ℕ → (ℕ → A) → List A
tab a zero f = []
tab a (suc n) f = f a ∷ tab (suc a) n f

-- the index of the first element at which the test holds; the length where there is none
unfoldable pub first_of : {A : Type 0} → (A → Bool) → List A → ℕ
first_of p [] = 0
first_of p (x ∷ xs) = cond (p x) 0 (suc (first_of p xs))

-- P holds of each element
abbrev pub Each : {A : Type 0} → (A → Type 0) → List A → Type 0
Each P [] = Unit {0}
Each P (x ∷ xs) = P x × Each P xs
