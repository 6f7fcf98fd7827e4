-- The word and the number. Assumes nothing.
use Rattle.std.proofs.Common.{arith}
use Rattle.reports.specs.Texts.Laws.{added_then, added_all}
use Rattle.reports.specs.Reports.{refused_text}
use Rattle.reports.proofs.texts.refused_text.Goals as goal

pub returns : goal.returns
unfolding refused_text
returns c = rw (← c.number.ensures) (added_all c.new-t.ensures (added_then c.put_word.ensures c.put_number.ensures) (omega arith)).0
