-- The clauses below `low` are no more than the number, and those below `high` are more. Assumes nothing.
use Rattle.std.proofs.Common.{arith, pow_pos}
use Rattle.formula.proofs.CountLaws.{split_none}
use Rattle.formula_clauses.proofs.number.row_of.Goals as goal

pub loop-low-init : goal.loop-low-init
loop-low-init c =
    let z = split_none c.args.good.request c.args.on c.args.off in
    let o = pow_pos c.args.good.request.n in
    (omega (arith, c.row_count-rows.ensures.0, o), omega arith, omega (arith, z), omega (arith, c.weighted.ensures.0, c.if-weighted-number.false))
