-- By its minus. Assumes nothing.
use Rattle.std.proofs.Common.{sym, subst}
use Rattle.numeral.specs.Number.{Read}
use Rattle.numeral.specs.Number.Laws.{literal_minus, literal_plain}
use Rattle.numeral.specs.Number.Places.{known_inside, known_minus, known_plain}
use Rattle.numeral.specs.Number.Words.{Is}
use Rattle.lrat_check.proofs.clause.known_literal.Goals as goal

pub bounds-text-at : goal.bounds-text-at
bounds-text-at c = known_inside _ _ c.requires.there c.requires.spaced

pub known_digits-requires-clause-there : goal.known_digits-requires-clause-there
known_digits-requires-clause-there c = (known_minus _ _ c.requires.there c.requires.spaced c.if-text-at-eq45.true).0

pub known_digits-requires-clause-spaced : goal.known_digits-requires-clause-spaced
known_digits-requires-clause-spaced c = (known_minus _ _ c.requires.there c.requires.spaced c.if-text-at-eq45.true).1

pub returns-then-text-at-eq45 : goal.returns-then-text-at-eq45
returns-then-text-at-eq45 c = subst (λ (r : Read). Is r c.known_digits.result) (sym (literal_minus _ _ c.if-text-at-eq45.true)) c.known_digits.ensures

pub known_digits-requires-2-clause-there : goal.known_digits-requires-2-clause-there
known_digits-requires-2-clause-there c = (known_plain _ _ c.requires.there c.requires.spaced c.if-text-at-eq45.false).0

pub known_digits-requires-2-clause-spaced : goal.known_digits-requires-2-clause-spaced
known_digits-requires-2-clause-spaced c = (known_plain _ _ c.requires.there c.requires.spaced c.if-text-at-eq45.false).1

pub returns : goal.returns
returns c = subst (λ (r : Read). Is r c.known_digits-2.result) (sym (literal_plain _ _ c.if-text-at-eq45.false)) c.known_digits-2.ensures
