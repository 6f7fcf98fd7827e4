-- `Cursor::put_small` meets its contract: by the number of digits. Assumes nothing.
use Rattle.std.proofs.Common.{arith}
use Rattle.text.specs.Decimal.Laws.{decimal_padded_one, decimal_padded_two, decimal_padded_three, decimal_padded_four, padded_digits}
use Rattle.dimacs.proofs.lines.Cursor.put_small.Goals as goal

pub put_digits-requires : goal.put_digits-requires
put_digits-requires c =
    let n = padded_digits 1 c.args.x (decimal_padded_one c.args.x (omega arith)) in omega arith

pub put_digits-requires-in-10-to-99 : goal.put_digits-requires-in-10-to-99
put_digits-requires-in-10-to-99 c =
    let n = padded_digits 2 c.args.x (decimal_padded_two c.args.x (omega arith) (omega arith)) in omega arith

pub put_digits-requires-in-100-to-999 : goal.put_digits-requires-in-100-to-999
put_digits-requires-in-100-to-999 c =
    let n = padded_digits 3 c.args.x (decimal_padded_three c.args.x (omega arith) (omega arith)) in omega arith

pub put_digits-requires-in_default : goal.put_digits-requires-in_default
put_digits-requires-in_default c =
    let n = padded_digits 4 c.args.x (decimal_padded_four c.args.x (omega arith) (omega arith)) in omega arith

pub returns-in-0-to-9 : goal.returns-in-0-to-9
returns-in-0-to-9 c = rw (decimal_padded_one c.args.x (omega arith)) c.put_digits.ensures

pub returns-in-10-to-99 : goal.returns-in-10-to-99
returns-in-10-to-99 c = rw (decimal_padded_two c.args.x (omega arith) (omega arith)) c.put_digits-in-10-to-99.ensures

pub returns-in-100-to-999 : goal.returns-in-100-to-999
returns-in-100-to-999 c = rw (decimal_padded_three c.args.x (omega arith) (omega arith)) c.put_digits-in-100-to-999.ensures

pub returns-in_default : goal.returns-in_default
returns-in_default c = rw (decimal_padded_four c.args.x (omega arith) (omega arith)) c.put_digits-in_default.ensures
