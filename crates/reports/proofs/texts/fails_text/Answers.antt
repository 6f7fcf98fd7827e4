-- The word and two numbers. Assumes nothing.
use Rattle.std.proofs.Common.{arith}
use Rattle.reports.specs.Texts.Laws.{added_then, added_all}
use Rattle.reports.specs.Reports.{fails_text}
use Rattle.reports.proofs.texts.fails_text.Goals as goal

pub returns : goal.returns
unfolding fails_text
returns c =
    (added_all c.new-t.ensures (added_then c.put_word.ensures (added_then c.put_number.ensures c.put_number-2.ensures)) (omega arith)).0
