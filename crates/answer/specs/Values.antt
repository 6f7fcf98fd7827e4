-- The values that v lines name, kept for the X and L variables alone: 0 unnamed, 1 true, 2 false. Assumes nothing.
use Rattle.std.specs.Prelude.{◌≡◌, Result, Ok, Err, Bool, true, false, not, ◌&&◌, ◌||◌, cond, List, ℕ, zero, suc, ◌+◌, ◌-◌, eqb, leb, ltb, get_or, set}
use Rattle.prelude.specs.Lists.{all_from}
use Rattle.cnf.specs.Cnf.{Assignment, clause_holds}
use Rattle.refusal.specs.declared.Refusal.{Refusal}
use Rattle.refusal.specs.declared.Refusal.TheVariants.{AnswerVariable}
use Rattle.request.specs.declared.Request.{Request}
use Rattle.formula.specs.Formula.{network_variables}
use Rattle.formula.specs.Number.{clause_of}
use Rattle.numeral.specs.Number.{byte_at, literal_at}

-- the X and L variables
abbrev pub kept : ℕ → ℕ → ℕ
kept n r = network_variables n r

-- values after a line, and whether it is refused (10)
pub record Named : Type 0 where
  pub refused : Bool
  pub values : List ℕ

abbrev pub named : Bool → List ℕ → Named
named refused values = record { refused = refused; values = values }

-- a value is named: 1 for a plain number, 2 for one with a minus
abbrev pub value_of : ℕ → ℕ
value_of minus = 1 + minus

-- "10 for a variable above V, or an X or L variable named twice": whether a number is refused, and the values after it. top is V,
-- keep the number of X and L variables; the values of other variables are not kept
unfoldable pub refused_by : ℕ → ℕ → List ℕ → ℕ → Bool
refused_by top keep values x = ltb top x || (leb x keep && not (eqb (get_or values (x - 1) 0) 0))

unfoldable pub kept_by : ℕ → List ℕ → ℕ → ℕ → List ℕ
kept_by keep values x minus = cond (leb x keep) (set values (x - 1) (value_of minus)) values

-- the numbers of a line, left to right, from the place p before one, f at most; the 0 and the newline end them
unfoldable pub named_from : ℕ → ℕ → ℕ → List ℕ → ℕ → List ℕ → Named
named_from zero top keep t p values = named false values
named_from (suc f) top keep t p values =
    cond (eqb (literal_at t (p + 1)).value 0) (named false values)
    (cond (refused_by top keep values (literal_at t (p + 1)).value) (named true values)
    (cond (eqb (byte_at t (literal_at t (p + 1)).next) 10)
    (named false (kept_by keep values (literal_at t (p + 1)).value (literal_at t (p + 1)).minus))
    (named_from f top keep t (literal_at t (p + 1)).next (kept_by keep values (literal_at t (p + 1)).value (literal_at t (p + 1)).minus))))

-- "any X or L value is missing": whether all are named
unfoldable pub complete : ℕ → List ℕ → Bool
complete keep values = all_from 0 keep (λ i. not (eqb (get_or values i 0) 0))

-- the assignment that the values stand for
unfoldable pub assigned : List ℕ → Assignment
assigned values x = eqb (get_or values (x - 1) 0) 1

-- "12 if clauses of groups 1 and 2 fail": whether the first count clauses of a request hold
unfoldable pub holding : Request → ℕ → List ℕ → Bool
holding q count values = all_from 0 count (λ k. clause_holds (assigned values) (clause_of q k))

-- the values named by a line as a result and what the array holds after it; where the line is refused the array does not matter
abbrev pub NamedBy : Named → Result Unit Refusal → List ℕ → Type 0
NamedBy n (Ok _) values = n ≡ named false values
NamedBy n (Err e) values = (n.refused ≡ true) × (e ≡ AnswerVariable)
