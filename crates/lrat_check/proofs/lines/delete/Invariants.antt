-- The invariant: deleting all ids from the slice at entry is deleting those that are left from the slice as it is, whose clauses lie
-- in the text. Assumes nothing.
use Rattle.std.proofs.Common.{◌+◌, ◌-◌, ◌≤◌, length}
use Rattle.lrat.specs.State.{AddedInText}
use Rattle.lrat.proofs.StateLaws.{Deleting}
use Rattle.lrat_check.proofs.lines.delete.Given as goal

abbrev pub invariant-loop-id : goal.invariant-loop-id
invariant-loop-id l =
    (l.p ≤ length l.store.text.now) × Deleting l.store.text.now l.store.count l.a l.fn.added l.at l.added l.p × AddedInText l.store.count l.store.text.now l.a l.added (l.store.variables + 1)

abbrev pub decreases-loop-id : goal.decreases-loop-id
decreases-loop-id l = length l.store.text.now - l.p
