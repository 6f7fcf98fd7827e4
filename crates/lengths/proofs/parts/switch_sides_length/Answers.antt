-- `parts::switch_sides_length` meets its contract. Assumes nothing.
use mathlib.Core.Path.{ap}
use Prim.Native.Nat.{ℕ, ◌+◌, ◌*◌, ◌≤◌}
use native.Mathlib.Nat.{mul-le-mul}
use native.Mathlib.Omega.{arith}
use Rattle.lengths.specs.Length.OffRow.{switch_sides_size}
use Rattle.lengths.proofs.parts.switch_sides_length.Goals as goal

pub returns : goal.returns
returns c =
    let most : c.args.row.n * (8 * c.args.row.r + 2 * c.run_length-ends.result) ≤ 8 * 480 = let a = c.args in
    mul-le-mul {n₁ = a.row.n} {m₁ = 8 * a.row.r + 2 * c.run_length-ends.result} {n₂ = 8} {m₂ = 480} (omega (arith, c.args.row.few.1)) (omega (arith, c.args.row.few.2)) in
    let a = c.args in
    let s = ap (λ (x : ℕ). a.row.n * (8 * a.row.r + 2 * x)) c.run_length-ends.ensures.0 in
    let e = switch_sides_size a.row.r a.row.before a.row.n a.row.k in
    (omega (arith, s, e, c.chosen_length.ensures.0), omega (arith, most, c.chosen_length.ensures.1))
