-- Literals, clauses, and satisfaction. Assumes nothing.
use Rattle.std.specs.Prelude.{Bool, true, false, not, ◌||◌, cond, List, [], ◌∷◌, ℕ, T, ℤ, neg_ℤ}
use Rattle.std.proofs.Math.IntN as Z
use Rattle.cnf.specs.declared.Literal.{Literal}
pub mod Laws
pub mod Parts

-- x and −x
abbrev pub pos : ℕ → Literal
pos x = record { variable = x; negative = false }

abbrev pub neg : ℕ → Literal
neg x = record { variable = x; negative = true }

abbrev pub Clause : Type 0
Clause = List Literal

abbrev pub Formula : Type 0
Formula = List Clause

-- "some choice of true or false for each variable"
abbrev pub Assignment : Type 0
Assignment = ℕ → Bool

-- "−x is true when x is false"
abbrev pub literal_holds : Assignment → Literal → Bool
literal_holds α l = cond l.negative (not (α l.variable)) (α l.variable)

-- "at least one literal true"
abbrev pub clause_holds : Assignment → Clause → Bool
clause_holds α [] = false
clause_holds α (l ∷ c) = literal_holds α l || clause_holds α c

-- "in each of its clauses"
abbrev pub Sat : Assignment → Formula → Type 0
Sat α [] = Unit {0}
Sat α (c ∷ f) = T (clause_holds α c) × Sat α f

-- "It is satisfiable when some choice .. makes at least one literal true in each of its clauses"
abbrev pub Satisfiable : Formula → Type 0
Satisfiable f = (α : Assignment) × Sat α f

-- a literal as "32-bit signed literals" have it
abbrev pub signed_of : Literal → ℤ
signed_of l = cond l.negative (neg_ℤ (Z.pos l.variable)) (Z.pos l.variable)
