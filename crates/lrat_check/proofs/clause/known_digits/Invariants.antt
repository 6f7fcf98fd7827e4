-- What was read so far is the number by its digits that are left; a byte other than a space is one of them. Assumes nothing.
use Rattle.std.proofs.Common.{◌≡◌, ℕ, ◌+◌, ◌-◌, ◌≤◌, ◌<◌, List, length}
use Rattle.numeral.specs.Number.{number_at, digits_at}
use Rattle.numeral.specs.Number.Laws.{tens}
use Rattle.numeral.specs.Number.Words.{sign_number}
use Rattle.lrat_check.proofs.clause.known_digits.Given as goal

-- the number by what is read, and the places
pub record Reading (t : List ℕ) (at m x p : ℕ) : Type 0 where
  pub read : number_at t at m ≡ digits_at (at + 9 - p) m x t p
  pub above : at < p
  pub here : p ≤ (number_at t at m).next
  pub nine : p ≤ at + 9
  pub small : x < tens (p - at)

abbrev pub invariant-loop-next : goal.invariant-loop-next
invariant-loop-next l = Reading l.text l.at (sign_number l.minus) l.value l.next

abbrev pub decreases-loop-next : goal.decreases-loop-next
decreases-loop-next l = length l.text - l.next
