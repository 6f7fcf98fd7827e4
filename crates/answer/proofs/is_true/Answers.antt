-- The place of a variable's number: past the slice, or in it. Assumes nothing.
use Rattle.std.proofs.Common.{arith}
use Rattle.std.proofs.lemmas.Grind.{common_steps}
use Rattle.answer.specs.Values.{assigned}
use Rattle.answer.proofs.is_true.Goals as goal

pub returns : goal.returns
unfolding assigned
returns c = grind (arith, common_steps)
