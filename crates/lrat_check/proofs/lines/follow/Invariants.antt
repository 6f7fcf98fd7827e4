-- The invariant: Going, all lines end as those that are left do; and every byte is below the stamp. Assumes nothing.
use Rattle.std.proofs.Common.{◌≡◌, ◌+◌, ◌-◌, ◌≤◌, length}
use Rattle.lrat.specs.Bytes.{last_stamp, BeforeLine, formula_in}
use Rattle.lrat.proofs.CheckLaws.{Going}
use Rattle.lrat_check.proofs.lines.follow.Given as goal

abbrev pub invariant-loop-at : goal.invariant-loop-at
invariant-loop-at l =
    Going (formula_in l.store.count l.store.literals.now l.store.pairs.now) l.store.text.now l.store.variables l.fn.added l.count l.added l.at
    × (length l.values ≡ l.store.variables + 1) × BeforeLine l.stamp l.values × (l.stamp ≤ last_stamp)

abbrev pub decreases-loop-at : goal.decreases-loop-at
decreases-loop-at l = length l.store.text.now - l.at
