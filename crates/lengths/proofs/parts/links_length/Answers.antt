-- `parts::links_length` meets its contract: a sum, term by term. Assumes nothing.
use Rattle.std.proofs.Common.{ℕ, ◌+◌, ◌*◌, ap, ◌∙◌, arith, rules}
use Rattle.prelude.specs.Sums.{sum}
use Rattle.lengths.specs.Length.{link_length, links_length}
use Rattle.lengths.proofs.parts.links_length.Goals as goal

pub returns : goal.returns
unfolding links_length
returns c = (c.sum_below.ensures.sum (λ t. link_length c.args.row.r (c.args.row.before + t * (2 * c.args.row.r + 1)) c.args.joined) (λ i x h p. search rules) ∙ ap (λ (n : ℕ). sum n (λ t. link_length c.args.row.r (c.args.row.before + t * (2 * c.args.row.r + 1)) c.args.joined)) c.saturating_sub.ensures, omega (arith, c.sum_below.ensures.most))
