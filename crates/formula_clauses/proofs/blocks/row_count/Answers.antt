-- A request has at most four inputs. Assumes nothing.
use Rattle.std.proofs.Common.{arith}
use Rattle.request.proofs.NumbersLaws.{rows_high, rows_shl}
use Rattle.formula_clauses.proofs.blocks.row_count.Goals as goal

pub returns : goal.returns
returns c =
    let n = c.args.good.request.n in
    let h = c.args.good.good.n_high in
    let e = rows_shl n 32 h (omega arith) in
    (e, omega (arith, rows_high n h))
