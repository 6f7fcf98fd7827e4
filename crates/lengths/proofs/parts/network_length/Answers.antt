-- `parts::network_length` meets its contract. Assumes nothing.
use mathlib.Core.Path.{◌≡◌, ap, ◌∙◌}
use Prim.Native.Nat.{ℕ, ◌+◌, ◌*◌, ◌≤◌}
use native.Mathlib.Nat.{mul-le-mul}
use native.Mathlib.Omega.{arith}
use Rattle.formula.specs.Formula.{terminals, P}
use Rattle.lengths.specs.Length.{run_length}
use Rattle.lengths.specs.Length.Laws.{joined_count}
use Rattle.lengths.specs.Length.Groups.{network_size}
use Rattle.lengths.proofs.parts.network_length.Goals as goal

pub returns : goal.returns
returns c =
    let count : (c.network_variables-pairs.result ≡ P (terminals c.args.good.request.r)) × (c.network_variables-pairs.result ≤ 736) = joined_count c.args.good.request.r (omega (arith, c.args.good.good.r_high)) c.network_variables-pairs.ensures.0 in
    let literals : c.args.good.request.r * (2 * c.args.good.request.n) ≤ 15 * 16 = mul-le-mul {n₁ = c.args.good.request.r} {m₁ = 2 * c.args.good.request.n} {n₂ = 15} {m₂ = 16} (omega (arith, c.args.good.good.r_high)) (omega (arith, c.args.good.good.n_high)) in
    let nets : 2 * c.args.good.request.r * c.run_length-joined.result ≤ 30 * 4416 = mul-le-mul {n₁ = 2 * c.args.good.request.r} {m₁ = c.run_length-joined.result} {n₂ = 30} {m₂ = 4416} (omega (arith, c.args.good.good.r_high))
    (omega (arith, c.run_length-joined.ensures.1, count.1)) in
    let choices : 2 * c.args.good.request.n * c.run_length-chosen.result ≤ 16 * 1440 = mul-le-mul {n₁ = 2 * c.args.good.request.n} {m₁ = c.run_length-chosen.result} {n₂ = 16} {m₂ = 1440} (omega (arith, c.args.good.good.n_high))
    (omega (arith, c.run_length-chosen.ensures.1, literals)) in
    let a = c.args in
    let p = count in
    let x = c.run_length-joined.ensures.0 ∙ ap (run_length 1) p.0 in
    let l = c.run_length-chosen.ensures.0 ∙ ap (λ (i : ℕ). run_length (i + 1) (a.good.request.r * (2 * a.good.request.n))) p.0 in
    let e = network_size a.good.request.n a.good.request.r in
    let f = ap (λ (i : ℕ). 2 * a.good.request.r * i) x in
    let g = ap (λ (i : ℕ). 2 * a.good.request.n * i) l in
    (omega (arith, e, f, g, c.network_count.ensures.0), omega (arith, nets, choices, c.network_count.ensures.1))
