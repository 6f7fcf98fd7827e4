-- `text::decimal_length` meets its contract: a number between two powers of ten has as many digits as the lower has, and 0 has one.
-- Assumes nothing.
use Rattle.std.proofs.Common.{arith}
use Rattle.text.specs.Decimal.Laws.{length_power}
use Rattle.text.proofs.decimal_length.Goals as goal

pub returns : goal.returns
returns c =
    let e = length_power c.ilog10.result c.args.x c.max.result c.max.ensures c.ilog10.ensures.power_le c.ilog10.ensures.next_power_gt in
    (e, omega arith, omega (arith, c.ilog10.ensures.bound))
