-- `parts::step_length` meets its contract. Assumes nothing.
use mathlib.Core.Path.{ap}
use Prim.Native.Nat.{ℕ, ◌+◌, ◌*◌, ◌≤◌}
use native.Mathlib.Nat.{mul-le-mul}
use native.Mathlib.Omega.{arith}
use Rattle.lengths.specs.Length.{step_length}
use Rattle.lengths.proofs.parts.step_length.Goals as goal

pub returns : goal.returns
unfolding step_length
returns c =
    let most : c.args.row.n * (8 * c.args.row.r + c.run_length-ends.result) ≤ 8 * 300 = let a = c.args in
    mul-le-mul {n₁ = a.row.n} {m₁ = 8 * a.row.r + c.run_length-ends.result} {n₂ = 8} {m₂ = 300} (omega (arith, c.args.row.few.1)) (omega (arith, c.args.row.few.2)) in
    let a = c.args in
    let m = most in
    let e = ap (λ (x : ℕ). a.row.n * (8 * a.row.r + x)) c.run_length-ends.ensures.0 in
    (omega (arith, e, c.run_length-stop.ensures.0), omega arith)
