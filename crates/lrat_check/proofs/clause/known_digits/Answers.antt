-- What was read so far is the number by its digits that are left; a byte other than a space is one of them. Assumes nothing.
use Rattle.std.proofs.Common.{ℕ, ◌+◌, ◌-◌, ◌*◌, ◌<◌, sym, ap, ◌∙◌, arith}
use Rattle.numeral.specs.Number.{digits_at}
use Rattle.numeral.specs.Number.Laws.{tens_first, tens_next, tens_fits, number_low}
use Rattle.numeral.specs.Number.Places.{known_first, known_ends, known_start, known_before, known_digit, known_room, known_next}
use Rattle.numeral.specs.Number.Words.{sign_number, sign_low}
use Rattle.lrat_check.proofs.clause.known_digits.Goals as goal

pub bounds-text-at : goal.bounds-text-at
bounds-text-at c = (known_first _ _ _ (sign_low c.args.minus) c.requires.there c.requires.spaced).2

pub overflow_sub-text : goal.overflow_sub-text
overflow_sub-text c = (known_first _ _ _ (sign_low c.args.minus) c.requires.there c.requires.spaced).0

pub overflow_add-next : goal.overflow_add-next
overflow_add-next c = let f = known_first _ _ _ (sign_low c.args.minus) c.requires.there c.requires.spaced in omega (arith, f.2, c.well_formed)

pub loop-next-init : goal.loop-next-init
loop-next-init c =
    let f = known_first _ _ _ (sign_low c.args.minus) c.requires.there c.requires.spaced in
    let e = known_ends _ _ _ (sign_low c.args.minus) c.requires.there c.requires.spaced in
    let v = c.from-value.ensures in
    record {
      read = known_start _ _ _ (sign_low c.args.minus) c.requires.there c.requires.spaced
          ∙ ap (λ (x : ℕ). digits_at (c.args.at + 9 - (c.args.at + 1)) (sign_number c.args.minus) x c.args.text.now (c.args.at + 1)) (sym v);
      above = omega arith;
      here = omega (arith, e.0);
      nine = omega arith;
      small = tens_first _ _ (omega (arith, f.0, f.1, v));
    }

pub overflow_mul-value : goal.overflow_mul-value
overflow_mul-value c =
    let i = c.loop-next.invariant in
    omega (arith, tens_fits _ _ _ i.small i.nine)

pub overflow_sub-text-in-loop-next : goal.overflow_sub-text-in-loop-next
overflow_sub-text-in-loop-next c =
    let i = c.loop-next.invariant in
    (known_digit _ _ _ (sign_low c.args.minus) c.requires.there c.requires.spaced _ _ i.read i.here c.loop-next-test.true).0

pub overflow_add-value : goal.overflow_add-value
overflow_add-value c =
    let i = c.loop-next.invariant in
    let d = known_digit _ _ _ (sign_low c.args.minus) c.requires.there c.requires.spaced _ _ i.read i.here c.loop-next-test.true in
    omega (arith, tens_fits _ _ _ i.small i.nine, d.0, d.1, c.from.ensures)

pub loop-next-preserved : goal.loop-next-preserved
loop-next-preserved c =
    let i = c.loop-next.invariant in
    let d = known_digit _ _ _ (sign_low c.args.minus) c.requires.there c.requires.spaced _ _ i.read i.here c.loop-next-test.true in
    let room : c.loop-next.next < c.args.at + 9 = known_room _ _ _ (sign_low c.args.minus) c.requires.there c.requires.spaced _ _ i.read i.here c.loop-next-test.true in
    let v = c.from.ensures in
    record {
      read = known_next _ _ _ (sign_low c.args.minus) c.requires.there c.requires.spaced _ _ i.read i.here c.loop-next-test.true
          ∙ ap (λ (x : ℕ). digits_at (c.args.at + 9 - (c.loop-next.next + 1)) (sign_number c.args.minus) (c.loop-next.value * 10 + x) c.args.text.now (c.loop-next.next + 1)) (sym v);
      above = omega (arith, i.above);
      here = omega (arith, known_before _ _ _ (sign_low c.args.minus) c.requires.there c.requires.spaced _ _ i.read i.here c.loop-next-test.true);
      nine = omega (arith, room);
      small = tens_next _ _ _ _ i.small (omega (arith, i.above)) (omega (arith, d.0, d.1, v));
    }

pub returns : goal.returns
returns c =
    record {
      read = sym (number_low _ _ _ _ _ c.loop-next.invariant.read (omega (arith, c.loop-next-test.false)));
      there = λ e. omega (arith, c.loop-next.invariant.above);
    }
