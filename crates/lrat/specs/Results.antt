-- What the definitions speak of in numbers, as the program gives it: a place or a reading that there may be, a line that may refuse.
-- Assumes nothing.
use Rattle.std.specs.Prelude.{◌≡◌, List, cond, ℕ, zero, suc, eqb, false, Result, Ok, Err, Some, None}
use Rattle.std.proofs.Common.{Option}
use Rattle.refusal.specs.declared.Refusal.{Refusal}
use Rattle.refusal.specs.Refusal.{number_of, numbered, unless}
use Rattle.lrat.specs.declared.LiteralsRead.{LiteralsRead}
use Rattle.lrat.specs.declared.HintsRead.{HintsRead}
use Rattle.lrat.specs.declared.Step.{Step}
use Rattle.lrat.specs.Rules.{spent, goes_on, says_none}
use Rattle.lrat.specs.State.{Hinted, Deleted}
use Rattle.lrat.specs.Check.{Left}
use Rattle.lrat.specs.declared.Checked.{Checked}
use Rattle.lrat.specs.Outcome.{outcome_of}

-- a place, none for 0
abbrev pub place_of : ℕ → Option ℕ
place_of zero = None
place_of (suc p) = Some (suc p)

-- the reading of literals and of hints, by what is read: places 0 where the run has not the form
abbrev pub literals_read : Option LiteralsRead → LiteralsRead
literals_read None = record { end = 0; next = 0; good = false }
literals_read (Some r) = r

abbrev pub hints_read : Option HintsRead → Hinted
hints_read None = record { next = 0; code = 0 }
hints_read (Some r) = record { next = r.next; code = number_of r.outcome }

-- the code after a hint, by what it ends the hints in, none where they go on
abbrev pub hint_code : Option (Result (Unit {0}) Refusal) → ℕ
hint_code None = spent
hint_code (Some o) = number_of o

-- a line, by what it leaves: where the check goes on, none after the empty clause, or a refusal
abbrev pub step_of_left : Left → Result (Option Step) Refusal
step_of_left l =
    cond (eqb l.code goes_on) (Ok (Some (record { a = l.a; next = l.next })))
    (cond (eqb l.code says_none) (Ok None) (Err (numbered l.code)))

-- a line gives this result, and leaves these records
pub record Leaves (l : Left) (r : Result (Option Step) Refusal) (added : List ℕ) : Type 0 where
  pub result : r ≡ step_of_left l
  pub records : added ≡ l.added

-- deletions that end in a code give this result, and leave these records
pub record Deletes (d : Deleted) (r : Result (Unit {0}) Refusal) (added : List ℕ) : Type 0 where
  pub result : r ≡ unless d.code tt
  pub records : added ≡ d.added

-- and all lines
pub record Ends (l : Left) (r : Checked) (added : List ℕ) : Type 0 where
  pub outcome : r.outcome ≡ outcome_of l.code
  pub count : r.count ≡ l.a
  pub records : added ≡ l.added
