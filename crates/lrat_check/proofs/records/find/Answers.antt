-- The record that is tried first has the id, or it is searched for. Assumes nothing.
use Rattle.std.proofs.Common.{sym, ◌∙◌}
use Rattle.lrat.proofs.Rising.{rising_first}
use Rattle.lrat_check.proofs.records.find.Goals as goal

pub returns-then-id-x : goal.returns-then-id-x
returns-then-id-x c = rising_first c.requires.rising _ _ c.requires.room c.if-k-a.true (sym c.id.ensures ∙ c.if-id-x.true)
