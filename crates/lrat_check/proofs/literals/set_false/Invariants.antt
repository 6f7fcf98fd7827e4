-- The invariant: the form of the whole run, and what is said of all literals, by those that are left. Assumes nothing.
use Rattle.std.proofs.Common.{◌-◌, length}
use Rattle.lrat.specs.Bytes.Laws.{ReadingLiterals}
use Rattle.lrat_check.proofs.literals.set_false.Given as goal

abbrev pub invariant-loop-stamp : goal.invariant-loop-stamp
invariant-loop-stamp l = ReadingLiterals l.stamp.byte l.variables l.text l.at l.end l.good l.values

abbrev pub decreases-loop-stamp : goal.decreases-loop-stamp
decreases-loop-stamp l = length l.text - l.end
