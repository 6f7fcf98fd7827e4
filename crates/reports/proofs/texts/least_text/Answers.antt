-- The word, the number and the network. Assumes nothing.
use Rattle.std.proofs.Common.{arith}
use Rattle.reports.specs.Texts.Laws.{added_then, added_all}
use Rattle.reports.specs.Reports.{least_text}
use Rattle.reports.proofs.texts.least_text.Goals as goal

pub returns : goal.returns
unfolding least_text
returns c =
    (added_all c.new-t.ensures (added_then c.put_word.ensures (added_then c.put_number.ensures c.put_network.ensures)) (omega arith)).0
