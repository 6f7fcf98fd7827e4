-- The value bytes, and clauses of the store under them. Assumes nothing.
use Rattle.std.specs.Prelude.{◌≡◌, Bool, true, cond, List, [], ◌∷◌, ℕ, zero, suc, ◌+◌, ◌*◌, ◌≤◌, ◌<◌, ltb, ℤ, get_or, replicate}
use Rattle.std.proofs.Math.Option.{Option, none, some}
use Rattle.std.proofs.Math.IntN as Z
use Rattle.prelude.specs.Lists.{Each, tab}
use Rattle.prelude.specs.Signed.{is_negative, variable}
use Rattle.cnf.specs.Cnf.{Clause, Formula}
use Rattle.cnf.specs.declared.Literal.{Literal}
use Rattle.numeral.specs.Number.{Read, word}
use Rattle.lrat.specs.declared.Found.{Found}
use Rattle.lrat.specs.declared.LiteralsRead.{LiteralsRead}
use Rattle.lrat.specs.Rules.{Values, unset, falsified, literals_good, minus_of, found}
use Rattle.lrat.specs.Words.{literals_at, run, run_at}
use Rattle.numeral.specs.Number.{literal_at}
pub mod Laws
pub mod Scan

-- ---- a line's stamp g says what a byte means: below g the variable is unset, g is false, g + 1 is true; so no byte has to be
-- cleared before the next line, whose stamp is higher
abbrev pub last_stamp : ℕ
last_stamp = 253

abbrev pub stamped : ℕ → ℕ → Option Bool
stamped g b = cond (ltb b g) none (some (ltb g b))

abbrev pub values_in : ℕ → List ℕ → Values
values_in g vs u = stamped g (get_or vs u 0)

-- during a line every byte is at most g + 1, and before it below g
pub record DuringLine (g : ℕ) (vs : List ℕ) : Type 0 where
  pub most : (u : ℕ) → get_or vs u 0 ≤ g + 1

pub record BeforeLine (g : ℕ) (vs : List ℕ) : Type 0 where
  pub less : (u : ℕ) → get_or vs u 0 < g

-- n values, each unset under every stamp
unfoldable pub zeros : ℕ → List ℕ
zeros n = replicate n 0

-- ---- a clause under the bytes
unfoldable pub found_in : ℕ → List ℕ → Clause → Found
found_in g vs c = found (values_in g vs) c

-- every variable of a clause is above 0 and below n
abbrev pub Inside : ℕ → Literal → Type 0
Inside n l = (0 < l.variable) × (l.variable < n)

abbrev pub Below : ℕ → Clause → Type 0
Below n c = Each (Inside n) c

-- ---- the clauses that a store holds
-- a signed number as a literal, and as what the code reads of it
abbrev pub literal_from : ℤ → Literal
literal_from x = record { variable = variable x; negative = is_negative x }

abbrev pub word_of : ℤ → Read
word_of x = word (minus_of (is_negative x)) (variable x) 0

-- n literals from entry i on
unfoldable pub store_from : ℕ → List ℤ → ℕ → Clause
store_from zero lits i = []
store_from (suc n) lits i = literal_from (get_or lits i (Z.pos 0)) ∷ store_from n lits (i + 1)

-- the clause that pair k names
unfoldable pub stored_clause : List ℤ → List ℕ → ℕ → Clause
stored_clause lits pairs k = store_from (get_or pairs (2 * k + 1) 0) lits (get_or pairs (2 * k) 0)

-- the first C clauses as a formula
unfoldable pub formula_in : ℕ → List ℤ → List ℕ → Formula
formula_in C lits pairs = tab 0 C (stored_clause lits pairs)

-- ---- after the pass over a line's literals: the form of their run; and where that is good, whether they are inside ±V and no
-- variable twice, and the values with each of them set false
pub record AfterLiterals (g variables : ℕ) (t : List ℕ) (at : ℕ) (r : LiteralsRead) (vs : List ℕ) : Type 0 where
  pub form : run r.end r.next ≡ run_at literal_at t at
  pub during : DuringLine g vs
  pub good : (r.next ≡ 0 → ⊥) → r.good ≡ literals_good variables (literals_at t at)
  pub vals : (r.next ≡ 0 → ⊥) → r.good ≡ true → values_in g vs ≡ falsified unset (literals_at t at)
