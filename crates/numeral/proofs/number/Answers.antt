-- The number is the digits read so far going on with what is left of nine; the value is below 10 to the number of digits.
-- Assumes nothing.
use Rattle.std.proofs.Common.{◌≡◌, ◌+◌, ◌<◌, length, refl, sym, ap, ◌∙◌, subst, arith}
use Rattle.numeral.specs.Number.{word, Limit}
use Rattle.numeral.specs.Number.Laws.{number_minus, number_zero, number_none, number_first, number_next, number_stop, number_limit, limit_min, tens_first, tens_next, tens_fits}
use Rattle.numeral.specs.Number.Places.{byte_in}
use Rattle.numeral.specs.Number.Words.{sign_number, word_of, some_word}
use Rattle.numeral.proofs.number.Goals as goal

pub returns-then-minus : goal.returns-then-minus
returns-then-minus c =
    ap word_of (sym (number_minus _ _ _ (sym c.byte-first.ensures ∙ c.if-first-eq48.true) (ap sign_number c.if-minus.true)))

pub returns-then-first-eq48 : goal.returns-then-first-eq48
returns-then-first-eq48 c =
    let zero : sign_number c.args.minus ≡ 0 = ap sign_number c.if-minus.false in
    some_word _ _ (ap (λ m. word m 0 (c.args.at + 1)) zero ∙ sym (number_zero _ _ _ (sym c.byte-first.ensures ∙ c.if-first-eq48.true) (λ e. omega arith))) (λ e. omega arith)

pub returns-then-not-is_ascii_digit : goal.returns-then-not-is_ascii_digit
returns-then-not-is_ascii_digit c =
    ap word_of (sym (number_none _ _ _ (rw c.byte-first.ensures at (sym c.is_ascii_digit.ensures.value ∙ c.if-not-is_ascii_digit.true))))

pub loop-p-init : goal.loop-p-init
loop-p-init c =
    let digit = c.if-not-is_ascii_digit.ensures.cases in
    record {
      below = tens_first _ _ (omega arith);
      read = number_first _ _ _ _ (λ e. c.if-first-eq48.false (c.byte-first.ensures ∙ e)) (omega arith) (omega arith) (omega arith);
    }

pub returns-then-not-is_ascii_digit-2 : goal.returns-then-not-is_ascii_digit-2
returns-then-not-is_ascii_digit-2 c =
    some_word _ _ (number_stop _ _ _ _ _ c.loop-p.invariant.read (sym c.is_ascii_digit-in-loop-p.ensures.value ∙ c.if-not-is_ascii_digit-2.true)) (λ e. omega arith)

pub overflow_mul-value : goal.overflow_mul-value
overflow_mul-value c = omega (arith, tens_fits _ _ _ c.loop-p.invariant.below (omega arith))

pub overflow_add-value : goal.overflow_add-value
overflow_add-value c =
    let digit = c.if-not-is_ascii_digit-2.ensures.cases in
    omega (arith, tens_fits _ _ _ c.loop-p.invariant.below (omega arith))

pub loop-p-preserved : goal.loop-p-preserved
loop-p-preserved c =
    let digit = c.if-not-is_ascii_digit-2.ensures.cases in
    record {
      below = tens_next _ _ _ _ c.loop-p.invariant.below (omega arith) (omega arith);
      read = number_next _ _ _ _ _ c.loop-p.invariant.read _ (omega arith) (omega arith) (omega arith) c.from.ensures;
    }

pub returns : goal.returns
returns c =
    let digit = c.if-not-is_ascii_digit.ensures.cases in
    let inside : c.args.at < length c.args.text.now = byte_in c.args.text.now c.args.at (λ e. omega arith) in
    let limit : Limit (length c.args.text.now) c.args.at c.min-stop.result = subst (Limit (length c.args.text.now) c.args.at) (sym c.min-stop.ensures) (limit_min _ _ inside) in
    let last : c.loop-p.p ≡ c.min-stop.result = omega (arith, limit.above) in
    some_word _ _ (ap (word (sign_number c.args.minus) c.loop-p.value) (sym last) ∙ number_limit _ _ _ _ _ _ _ c.loop-p.invariant.read refl limit (omega arith) (omega arith)) (λ e. omega (arith, limit.above))
