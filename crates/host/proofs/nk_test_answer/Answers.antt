-- The number of a refused reading is that of its refusal. Assumes nothing.
use Rattle.std.proofs.Common.{◌∙◌}
use Rattle.host.proofs.nk_test_answer.Goals as goal

pub returns-in-Err : goal.returns-in-Err
returns-in-Err c = c.from.ensures ∙ (rw c.new.ensures at c.in-Err.ensures.number)
