-- The invariant: the word was read after a place p, whose literals are left, by Scanning. Assumes nothing.
use Rattle.std.proofs.Common.{ℕ, ◌+◌, ◌-◌, length}
use Rattle.numeral.specs.Number.{literal_at}
use Rattle.numeral.specs.Number.Words.{Is}
use Rattle.lrat.specs.Words.{literals_at}
use Rattle.lrat.proofs.BytesScan.{Scanning}
use Rattle.lrat_check.proofs.ClauseLaws.{Spells}
use Rattle.lrat_check.proofs.clause.evaluate_added.Given as goal

abbrev pub invariant-loop-word : goal.invariant-loop-word
invariant-loop-word l =
    (p : ℕ) × Is (literal_at l.text (p + 1)) l.word × Spells l.text p
    × Scanning l.values.stamp.byte l.values.bytes.now (literals_at l.text (l.at - 1)) l.found (literals_at l.text p)

abbrev pub decreases-loop-word : goal.decreases-loop-word
decreases-loop-word l = length l.text - l.word.next
