-- The invariant is Hinting: all hints end as those that are left do. Assumes nothing.
use Rattle.std.proofs.Common.{◌-◌, length}
use Rattle.lrat.specs.Rules.{spent}
use Rattle.lrat.specs.Bytes.{formula_in}
use Rattle.lrat.proofs.StateLaws.{Hinting}
use Rattle.lrat_check.proofs.clause.Clauses.hints.Given as goal

abbrev pub invariant-loop-id : goal.invariant-loop-id
invariant-loop-id l =
    Hinting (formula_in l.self.store.count l.self.store.literals.now l.self.store.pairs.now) l.self.store.text.now l.at l.self.a l.self.added.now l.stamp.byte l.fn.values l.p spent l.values

abbrev pub decreases-loop-id : goal.decreases-loop-id
decreases-loop-id l = length l.self.store.text.now - l.p
