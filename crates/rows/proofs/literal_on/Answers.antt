-- Each test that holds is one that the definition makes; past all of them the literal is there. Assumes nothing.
use Rattle.rows.proofs.RowsLaws.{literal_there, no_inputs, many_inputs, no_row, no_literal, one_shifted}
use mathlib.Core.Path.{sym, ◌∙◌}
use native.Mathlib.Omega.{arith}
use Rattle.rows.proofs.literal_on.Goals as goal
use Rattle.rows.proofs.literal_on.Goals.{then-n-lt1-via-then-n-lt1, then-n-lt1-via-else-n-lt1+then-n-gt-INPUTS, then-n-lt1-via-else-n-lt1+else-n-gt-INPUTS+then-n-k, then-n-lt1-via-else-n-lt1+else-n-gt-INPUTS+else-n-k+then-n-v}

pub returns-then-n-lt1 : goal.returns-then-n-lt1
returns-then-n-lt1 c =
    let a = c.args in
    elim c.then-n-lt1.branch [
      | then-n-lt1-via-then-n-lt1 w ↦ no_inputs a.n a.k a.v (omega arith)
      | then-n-lt1-via-else-n-lt1+then-n-gt-INPUTS w ↦ many_inputs a.n a.k a.v (omega arith) (omega arith)
      | then-n-lt1-via-else-n-lt1+else-n-gt-INPUTS+then-n-k w ↦ no_row a.n a.k a.v (omega arith) (omega arith) (rw (one_shifted a.n 32 (omega arith)) at w.if-n-k.true)
      | then-n-lt1-via-else-n-lt1+else-n-gt-INPUTS+else-n-k+then-n-v w ↦ no_literal a.n a.k a.v (omega arith) (omega arith) (rw (one_shifted a.n 32 (omega arith)) at w.if-n-k.false) (omega arith)
    ]

pub literal_within-requires : goal.literal_within-requires
literal_within-requires c =
    (omega arith, omega arith, rw (one_shifted c.args.n 32 (omega arith)) at c.if-n-k.false, omega arith)

pub returns : goal.returns
returns c =
    let a = c.args in
    c.literal_within.ensures
    ∙ sym (literal_there a.n a.k a.v (omega arith) (omega arith) (rw (one_shifted a.n 32 (omega arith)) at c.if-n-k.false) (omega arith))
