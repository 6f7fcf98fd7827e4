-- The digits, and the byte after them. Assumes nothing.
use Rattle.reports.specs.Texts.Laws.{added_then}
use Rattle.reports.specs.Reports.{number_text}
use Rattle.reports.proofs.buffer.Text.put_number.Goals as goal

pub returns : goal.returns
unfolding number_text
returns c = added_then c.put_decimal.ensures c.put.ensures
