-- The word, two numbers and the network. Assumes nothing.
use Rattle.std.proofs.Common.{arith}
use Rattle.reports.specs.Texts.Laws.{added_then, added_all}
use Rattle.reports.specs.Reports.{works_text}
use Rattle.reports.proofs.texts.works_text.Goals as goal

pub returns : goal.returns
unfolding works_text
returns c =
    rw (← c.number.ensures)
    (added_all c.new-t.ensures
    (added_then c.put_word.ensures (added_then c.put_number.ensures (added_then c.put_number-2.ensures c.put_network.ensures)))
    (omega arith)).0
