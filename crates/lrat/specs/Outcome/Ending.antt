-- What lines end in, in numbers alone: only laws need it. Assumes nothing.
use Rattle.std.specs.Prelude.{cond, ℕ, eqb, Ok, Err}
use Rattle.refusal.specs.Refusal.{number}
use Rattle.lrat.specs.Rules.{says_none}
use Rattle.lrat.specs.Outcome.{Outcome}

-- what lines end in, in numbers alone: "none", or a refusal by its number, whether or not the documents have it
pub data Ending : Type 0 where
  none : Ending
  refused : (k : ℕ) → Ending

-- its number, 0 for "none"
abbrev pub ending_number : Ending → ℕ
ending_number none = 0
ending_number (refused k) = k

-- the ending in a code
unfoldable pub ending_of : ℕ → Ending
ending_of code = cond (eqb code says_none) none (refused code)

-- an outcome in numbers
abbrev pub in_numbers : Outcome → Ending
in_numbers (Ok x) = none
in_numbers (Err e) = refused (number e)
