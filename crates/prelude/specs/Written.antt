-- A list written into another: what a writer promises of the slice that it was lent. Assumes nothing.
use Rattle.std.specs.Prelude.{List, ◌++◌, ℕ, ◌+◌, length, take, drop}
pub mod Laws

-- l with the entries from at on replaced by those of xs; what stands before and past them stays
unfoldable pub written : {A : Type 0} → List A → ℕ → List A → List A
written l at xs = take at l ++ (xs ++ drop (at + length xs) l)
