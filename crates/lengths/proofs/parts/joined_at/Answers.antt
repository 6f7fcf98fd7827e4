-- `parts::joined_at` meets its contract. Assumes nothing.
use mathlib.Core.Path.{sym}
use Prim.Native.Nat.{◌+◌}
use native.Mathlib.Omega.{arith}
use Rattle.lengths.specs.Length.Laws.{joined_low}
use Rattle.lengths.proofs.parts.joined_at.Goals as goal

pub literal_length-requires : goal.literal_length-requires
literal_length-requires c =
    let a = c.args in
    let low = joined_low a.good.request.r a.a (1 + a.g) (omega (arith, a.good.good.r_high)) c.requires.0 (omega arith) (λ e. c.if-g-a.false (sym e)) in
    omega (arith, c.joined.ensures, low)
