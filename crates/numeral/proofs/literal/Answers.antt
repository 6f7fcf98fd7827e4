-- A minus or none; past the end there is neither. Assumes nothing.
use Rattle.std.proofs.Common.{sym, ap, ◌∙◌}
use Rattle.numeral.specs.Number.Laws.{literal_minus, literal_plain}
use Rattle.numeral.specs.Number.Words.{word_of}
use Rattle.numeral.proofs.literal.Goals as goal

pub returns-then-byte-eq45 : goal.returns-then-byte-eq45
returns-then-byte-eq45 c = c.number.ensures ∙ ap word_of (sym (literal_minus _ _ (sym c.byte.ensures ∙ c.if-byte-eq45.true)))

pub returns : goal.returns
returns c = c.number-2.ensures ∙ ap word_of (sym (literal_plain _ _ (λ e. c.if-byte-eq45.false (c.byte.ensures ∙ e))))
