-- No byte of it counts. Assumes nothing.
use Rattle.std.proofs.Common.{refl}
use Rattle.reports.specs.Texts.{shown}
use Rattle.reports.proofs.buffer.Text.new.Goals as goal

pub returns : goal.returns
unfolding shown
returns c = (refl, refl)
