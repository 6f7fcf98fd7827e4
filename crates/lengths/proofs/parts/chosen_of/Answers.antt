-- `parts::chosen_of` meets its contract: a sum, term by term. Assumes nothing.
use Rattle.std.proofs.Common.{arith, rules}
use Rattle.lengths.specs.Length.{chosen_at, chosen_of}
use Rattle.lengths.proofs.parts.chosen_of.Goals as goal

pub returns : goal.returns
unfolding chosen_of
returns c = (c.sum_below.ensures.sum (chosen_at c.args.row.n c.args.row.r c.args.row.k c.args.value c.args.s) (λ i x h p. search rules), omega (arith, c.sum_below.ensures.most))
