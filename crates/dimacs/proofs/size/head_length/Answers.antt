-- `size::head_length` meets its contract: the digits of both numbers, and the eight bytes around them. Assumes nothing.
use native.Mathlib.Omega.{arith}
use Rattle.dimacs.proofs.FileLaws.{head_length}
use Rattle.dimacs.proofs.size.head_length.Goals as goal

pub returns : goal.returns
returns c =
    let a = c.args in
    let e = head_length a.variables a.clauses in
    (omega arith, omega arith)
