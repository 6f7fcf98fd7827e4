-- The number is the digits read so far going on with what is left of nine; the value is below 10 to the number of digits.
-- Assumes nothing.
use Rattle.std.proofs.Common.{◌≡◌, ◌+◌, ◌-◌, ◌<◌}
use Rattle.numeral.specs.Number.{digits_at, number_at}
use Rattle.numeral.specs.Number.Laws.{tens}
use Rattle.numeral.specs.Number.Words.{sign_number}
use Rattle.numeral.proofs.number.Given as goal

abbrev pub invariant-loop-p : goal.invariant-loop-p
invariant-loop-p l =
    record {
      below : l.value < tens (l.p - l.at);
      read : number_at l.text l.at (sign_number l.minus) ≡ digits_at (l.at + 9 - l.p) (sign_number l.minus) l.value l.text l.p;
    }
