-- `parts::steps_length` meets its contract: a sum, term by term. Assumes nothing.
use Rattle.std.proofs.Common.{◌+◌, ◌*◌, arith, rules}
use Rattle.lengths.specs.Length.{step_length, steps_length}
use Rattle.lengths.proofs.parts.steps_length.Goals as goal

pub returns : goal.returns
unfolding steps_length
returns c = (c.sum_below.ensures.sum (λ t. step_length c.args.row.n c.args.row.r (c.args.row.before + t * (2 * c.args.row.r + 1)) c.args.chosen) (λ i x h p. search rules), omega (arith, c.sum_below.ensures.most))
