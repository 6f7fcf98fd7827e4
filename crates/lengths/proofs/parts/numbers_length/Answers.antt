-- `parts::numbers_length` meets its contract: how far x is past each power of ten. Assumes nothing.
use mathlib.Core.Path.{◌≡◌}
use Prim.Native.Nat.{◌+◌, ◌*◌}
use native.Mathlib.Omega.{arith}
use Rattle.prelude.specs.Sums.{sum}
use Rattle.prelude.specs.Sums.Laws.{sum_most}
use Rattle.lengths.specs.Lines.{literal_length}
use Rattle.lengths.specs.Length.Laws.{literal_most, below_length}
use Rattle.lengths.proofs.parts.numbers_length.Goals as goal

pub returns : goal.returns
returns c =
    let x = c.args.x in
    let e = below_length x c.requires in
    let m = sum_most x 6 literal_length (λ i l. literal_most i (omega arith)) in
    let a = c.saturating_sub.ensures in
    let b = c.saturating_sub-2.ensures in
    let d = c.saturating_sub-3.ensures in
    let f : 2 * x + c.saturating_sub.result + c.saturating_sub-2.result + c.saturating_sub-3.result + c.saturating_sub-4.result ≡ sum x literal_length = rw (a, b, d, c.saturating_sub-4.ensures) e in
    (f, omega (arith, f, m))
