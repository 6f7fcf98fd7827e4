-- What a check of a refutation ends in, with document 01's number and values for it. Assumes nothing.
use Rattle.std.specs.Prelude.{cond, List, [], ◌∷◌, ℕ, eqb, Result, Ok, Err}
use Rattle.refusal.specs.declared.Refusal.{Refusal}
use Rattle.refusal.specs.Refusal.{number, numbered}
use Rattle.lrat.specs.declared.Checked.{Checked}
use Rattle.lrat.specs.Rules.{says_none}
pub mod Ending

-- "none", or a refusal
abbrev pub Outcome : Type 0
Outcome = Result (Unit {0}) Refusal

-- document 01's number of an outcome, 0 for "none"
abbrev pub outcome_number : Outcome → ℕ
outcome_number (Ok x) = 0
outcome_number (Err e) = number e

-- the number of a result, and its values: "The result carries the number a of added pairs too"
abbrev pub number_of : Checked → ℕ
number_of x = outcome_number x.outcome

abbrev pub values_of : Checked → List ℕ
values_of x = x.count ∷ []

-- the outcome of lines that end in a code
unfoldable pub outcome_of : ℕ → Outcome
outcome_of code = cond (eqb code says_none) (Ok tt) (Err (numbered code))

-- and its number
unfoldable pub end_number : ℕ → ℕ
end_number code = cond (eqb code says_none) 0 code
