-- `parts::literal_length` meets its contract. Assumes nothing.
use native.Mathlib.Omega.{arith}
use Rattle.lengths.specs.Length.Laws.{literal_is, literal_most}
use Rattle.lengths.proofs.parts.literal_length.Goals as goal

pub returns : goal.returns
returns c =
    let v = c.args.v in
    let e = literal_is v in
    let m = literal_most v c.requires in
    (omega arith, omega arith)
