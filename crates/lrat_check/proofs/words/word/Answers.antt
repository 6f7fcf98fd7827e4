-- By the byte, then by what is read. Assumes nothing.
use Rattle.std.proofs.Common.{sym, ◌∙◌}
use Rattle.lrat.specs.Words.{plain_at}
use Rattle.lrat.specs.Words.Laws.{plain_reads, run_unspaced}
use Rattle.lrat_check.proofs.WordLaws.{word_none, word_some}
use Rattle.lrat_check.proofs.words.word.Goals as goal

pub returns-then-byte-ne32-clause-none : goal.returns-then-byte-ne32-clause-none
returns-then-byte-ne32-clause-none c = λ _. run_unspaced plain_at plain_reads _ _ (λ e. c.if-byte-ne32.true (c.byte.ensures ∙ e))

pub returns-clause-none : goal.returns-clause-none
returns-clause-none c = word_none _ _ (sym c.byte.ensures ∙ c.if-byte-ne32.false) _ c.number.ensures

pub returns-clause-some : goal.returns-clause-some
returns-clause-some c = word_some _ _ (sym c.byte.ensures ∙ c.if-byte-ne32.false) _ c.number.ensures
