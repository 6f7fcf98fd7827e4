-- The values are zeros before the lines and after them. Assumes nothing.
use Rattle.std.proofs.Common.{ap, ◌∙◌}
use Rattle.lrat.specs.Bytes.{zeros}
use Rattle.lrat_check.proofs.lines.lines.Goals as goal

pub returns-clause-bytes : goal.returns-clause-bytes
unfolding zeros
returns-clause-bytes c =
    c.fill-2.ensures.after (λ y e. e)
    ∙ ap zeros (c.follow-outcome.auto.values ∙ c.fill.ensures.len ∙ c.requires.values_len)
