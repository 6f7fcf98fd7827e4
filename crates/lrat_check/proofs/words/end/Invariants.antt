-- The invariant: the word was read after a place p, whose run is that of all. Assumes nothing.
use Rattle.std.proofs.Common.{◌≡◌, ℕ, ◌+◌, ◌-◌, length}
use Rattle.numeral.specs.Number.{byte_at, number_at}
use Rattle.numeral.specs.Number.Words.{Is}
use Rattle.lrat.specs.Words.{plain_at, run_at}
use Rattle.lrat_check.proofs.words.end.Given as goal

abbrev pub invariant-loop-id : goal.invariant-loop-id
invariant-loop-id l =
    (p : ℕ) × (byte_at l.text p ≡ 32) × Is (number_at l.text (p + 1) 0) l.id × (run_at plain_at l.text l.at ≡ run_at plain_at l.text p)

abbrev pub decreases-loop-id : goal.decreases-loop-id
decreases-loop-id l = length l.text - l.id.next
