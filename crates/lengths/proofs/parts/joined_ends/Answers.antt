-- `parts::joined_ends` meets its contract: a sum, term by term. Assumes nothing.
use Rattle.std.proofs.Common.{◌+◌, arith, rules}
use Rattle.lengths.specs.Length.{joined_to, joined_ends}
use Rattle.lengths.proofs.parts.joined_ends.Goals as goal

pub returns : goal.returns
unfolding joined_ends
returns c = (c.sum_below.ensures.sum (λ a. joined_to c.args.good.request.r (1 + a)) (λ i x h p. search rules), omega (arith, c.sum_below.ensures.most))
