-- A number after a minus or none, with the number that told of it. Assumes nothing.
use Rattle.std.proofs.Common.{sym, ◌∙◌}
use borrow.Author.Tests.{eq-eqb, ne_eqb}
use Rattle.numeral.specs.Number.{byte_at}
use Rattle.numeral.specs.Number.Words.{number_after_some, number_after_none}
use Rattle.numeral.proofs.number_after.Goals as goal

pub returns-then-byte-eq48 : goal.returns-then-byte-eq48
returns-then-byte-eq48 c =
    let a = c.args in
    rw (eq-eqb (byte_at a.text.now a.at) 48 (sym c.byte.ensures ∙ c.if-byte-eq48.true)) at (number_after_some a.text.now a.at a.minus c.in-Some.w c.in-Some.ensures)

pub returns-else-byte-eq48 : goal.returns-else-byte-eq48
returns-else-byte-eq48 c =
    let a = c.args in
    rw (ne_eqb (byte_at a.text.now a.at) 48 (λ e. c.if-byte-eq48.false (c.byte.ensures ∙ e))) at (number_after_some a.text.now a.at a.minus c.in-Some.w c.in-Some.ensures)

pub returns-in-None : goal.returns-in-None
returns-in-None c = number_after_none c.args.text.now c.args.at c.args.minus c.in-None.ensures
