-- Four numbers, one after the other. Assumes nothing.
use Rattle.reports.specs.Texts.Laws.{added_then}
use Rattle.reports.specs.Reports.{switch_text}
use Rattle.reports.proofs.buffer.Text.put_switch.Goals as goal

pub returns : goal.returns
unfolding switch_text
returns c =
    added_then c.put_number.ensures (added_then c.put_number-2.ensures (added_then c.put_number-3.ensures c.put_number-4.ensures))
