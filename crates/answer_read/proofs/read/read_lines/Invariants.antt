-- What is left of the lines gives what all of them give. Assumes nothing.
use Rattle.answer.specs.Reading.{lines_from}
use Rattle.answer.proofs.ReadingLaws.{Left}
use Rattle.formula.specs.Count.{values_most}
use Prim.Native.Nat.{◌-◌}
use lib.ListN.{length, replicate}
use Rattle.answer_read.proofs.read.read_lines.Given as goal

abbrev pub invariant-loop-at : goal.invariant-loop-at
invariant-loop-at l =
    Left l.named.top l.named.keep l.text (lines_from l.named.top l.named.keep l.text (length l.text) 0 0 (replicate values_most 0)) l.at l.progress

abbrev pub decreases-loop-at : goal.decreases-loop-at
decreases-loop-at l = length l.text - l.at
