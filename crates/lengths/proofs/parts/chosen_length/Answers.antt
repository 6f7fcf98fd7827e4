-- `parts::chosen_length` meets its contract: a sum, term by term. Assumes nothing.
use Rattle.std.proofs.Common.{arith, rules}
use Rattle.lengths.specs.Length.{chosen_of, chosen_length}
use Rattle.lengths.proofs.parts.chosen_length.Goals as goal

pub returns : goal.returns
unfolding chosen_length
returns c = (c.sum_below.ensures.sum (chosen_of c.args.row.n c.args.row.r c.args.row.k c.args.value) (λ i x h p. search rules), omega (arith, c.sum_below.ensures.most))
