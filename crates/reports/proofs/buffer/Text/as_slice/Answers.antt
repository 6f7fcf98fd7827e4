-- The part of the array is what is shown. Assumes nothing.
use Rattle.std.proofs.Common.{refl}
use Rattle.reports.specs.Texts.{shown}
use Rattle.reports.proofs.buffer.Text.as_slice.Goals as goal

pub returns : goal.returns
unfolding shown
returns c = refl
