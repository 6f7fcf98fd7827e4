-- `parts::net_sides_length` meets its contract. Assumes nothing.
use mathlib.Core.Path.{◌≡◌, ap, ◌∙◌}
use Prim.Native.Nat.{ℕ, ◌+◌, ◌*◌, ◌≤◌}
use native.Mathlib.Nat.{mul-le-mul}
use native.Mathlib.Omega.{arith}
use Rattle.formula.specs.Formula.{terminals, P}
use Rattle.lengths.specs.Length.{run_length}
use Rattle.lengths.specs.Length.Laws.{joined_count}
use Rattle.lengths.specs.Length.OffRow.{net_sides_size}
use Rattle.lengths.proofs.parts.net_sides_length.Goals as goal

pub returns : goal.returns
returns c =
    let count : (c.network_variables-pairs.result ≡ P (terminals c.args.row.r)) × (c.network_variables-pairs.result ≤ 736) = joined_count c.args.row.r c.args.row.few.2 c.network_variables-pairs.ensures.0 in
    let most : (2 * c.args.row.r + 1) * c.run_length-sides.result ≤ 31 * 192 = let r = c.args.row.r in
    mul-le-mul {n₁ = 2 * r + 1} {m₁ = c.run_length-sides.result} {n₂ = 31} {m₂ = 192} (omega (arith, c.args.row.few.2)) (omega (arith, c.args.row.few.2)) in
    let a = c.args in
    let p = count in
    let j = c.run_length-joined.ensures.0 ∙ ap (run_length 1) p.0 in
    let s = ap (λ (x : ℕ). (2 * a.row.r + 1) * x) c.run_length-sides.ensures.0 in
    let e = net_sides_size a.row.r a.row.before in
    (omega (arith, p.0, j, s, e), omega (arith, most, p.1))
