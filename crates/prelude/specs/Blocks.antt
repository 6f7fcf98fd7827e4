-- Lists in blocks: a concatenation by an index, the lists of a list one after the other, and where each of them lies. Assumes nothing.
use Rattle.std.specs.Prelude.{List, [], ◌∷◌, ◌++◌, ℕ, zero, suc, ◌+◌, length}
pub mod Laws

module _ {A : Type 0} where
  -- f 0, f 1, .., f (n - 1), one after the other
  unfoldable pub each : ℕ → (ℕ → List A) → List A
  each zero f = []
  each (suc n) f = each n f ++ f n

  -- f a, f (a + 1), .., one after the other: n of them
  abbrev pub for : ℕ → ℕ → (ℕ → List A) → List A
  for a n f = each n (λ i. f (a + i))

  -- the lists of a list, one after the other
  unfoldable pub flatten : List (List A) → List A
  flatten [] = []
  flatten (x ∷ xs) = x ++ flatten xs

  -- offset and length of each list of a list, in entries, the first at the offset at
  unfoldable pub pairs_from : ℕ → List (List A) → List ℕ
  pairs_from at [] = []
  pairs_from at (x ∷ xs) = at ∷ length x ∷ pairs_from (at + length x) xs
