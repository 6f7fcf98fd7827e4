-- `parts::off_row_length` meets its contract. Assumes nothing.
use native.Mathlib.Omega.{arith}
use Rattle.lengths.specs.Length.OffRow.{off_row_size}
use Rattle.lengths.proofs.parts.off_row_length.Goals as goal

pub returns : goal.returns
returns c =
    let a = c.args in
    let e = off_row_size a.row.r a.row.before a.row.n a.row.k in
    (omega (arith, e, c.switch_sides_length.ensures.0, c.net_sides_length.ensures.0, c.literal_length-sink.ensures.0, c.literal_length-source.ensures.0), omega arith)
