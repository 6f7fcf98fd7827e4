-- A clause as a value of the program: the literals that it stands for, and the form that it has. Assumes nothing.
use Rattle.std.specs.Prelude.{◌≡◌, cond, List, [], ◌∷◌, ℕ, ◌+◌, ◌≤◌, T, length}
use Rattle.prelude.specs.Blocks.{for}
use Rattle.prelude.specs.Lists.{Each}
use Rattle.cnf.specs.Cnf.{pos}
use Rattle.cnf.specs.declared.Literal.{Literal}
use Rattle.formula.specs.declared.Clause.{Clause}
use Rattle.formula.specs.declared.Clause.TheVariants.{Run, One, Two, Three}
use Rattle.formula.specs.Count.{variables_most}

-- the positive literals of count variables from first on
unfoldable pub run : ℕ → ℕ → List Literal
run first count = for 0 count (λ i. pos (first + i) ∷ [])

-- no variable is above the most that a request has
abbrev pub Low : List Literal → Type 0
Low ls = Each (λ l. l.variable ≤ variables_most) ls

-- a clause's literals, in order
abbrev pub literals_of : Clause → List Literal
literals_of (Run first count) = run first count
literals_of (One x) = x ∷ []
literals_of (Two x y) = x ∷ y ∷ []
literals_of (Three x y z) = x ∷ y ∷ z ∷ []

-- a literal and at most two more; no clause of a request that starts with a negative literal is longer
unfoldable pub few : Literal → List Literal → Clause
few x [] = One x
few x (y ∷ []) = Two x y
few x (y ∷ z ∷ []) = Three x y z
few x (y ∷ z ∷ u ∷ c) = Run 0 0

-- the form of a clause as the program has it: one that starts with a negative literal as one, two or three literals, any other as
-- a run of positive literals; the empty clause is the run of none
unfoldable pub packed : List Literal → Clause
packed [] = Run 0 0
packed (x ∷ c) = cond x.negative (few x c) (Run x.variable (length (x ∷ c)))

-- a clause has the form of its literals: a run of none starts at 0, and any other form at a negative literal
abbrev pub Packed : Clause → Type 0
Packed (Run first count) = count ≡ 0 → first ≡ 0
Packed (One x) = T x.negative
Packed (Two x y) = T x.negative
Packed (Three x y z) = T x.negative
