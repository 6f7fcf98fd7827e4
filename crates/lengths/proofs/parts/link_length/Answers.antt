-- `parts::link_length` meets its contract. Assumes nothing.
use mathlib.Core.Path.{◌≡◌, ap₂}
use Prim.Native.Nat.{ℕ, ◌+◌, ◌-◌, ◌*◌, ◌≤◌}
use native.Mathlib.Nat.{mul-le-mul}
use native.Mathlib.Omega.{arith}
use Rattle.lengths.specs.Length.{ends_length, stop_length, link_length}
use Rattle.lengths.proofs.parts.link_length.Goals as goal

pub returns : goal.returns
unfolding link_length
returns c =
    let most : 2 * c.args.row.r * (8 * c.args.row.r + c.run_length-ends.result + c.run_length-stop.result) ≤ 30 * 486 = let r = c.args.row.r in
    mul-le-mul {n₁ = 2 * r} {m₁ = 8 * r + c.run_length-ends.result + c.run_length-stop.result} {n₂ = 30} {m₂ = 486} (omega (arith, c.args.row.few.2)) (omega (arith, c.args.row.few.2)) in
    let whole : let a = c.args in 2 * a.row.r * (8 * a.row.r + c.run_length-ends.result + c.run_length-stop.result) + a.joined ≡ 2 * a.row.r * (8 * a.row.r + ends_length a.row.r a.at + stop_length a.row.r (a.at + (2 * a.row.r + 1))) + a.joined = let a = c.args in
    ap₂ (λ (x y : ℕ). 2 * a.row.r * (8 * a.row.r + x + y) + a.joined) c.run_length-ends.ensures.0 c.run_length-stop.ensures.0 in
    (ap₂ (λ (x y : ℕ). x - y) whole c.run_length.ensures.0, omega (arith, most, c.requires.1))
