-- `body_length` meets its contract. The invariant: the total is the length of the lines of groups 1 and 2 and of the rows below k,
-- and `before` is the number of the variables before row k. Assumes nothing.
use mathlib.Core.Path.{◌≡◌, sym, ap, ◌∙◌}
use Prim.Native.Nat.{ℕ, ◌+◌, ◌-◌, ◌*◌, ◌%◌, ◌^◌, ◌<◌}
use native.Mathlib.Nat.{add-zero}
use native.Mathlib.Omega.{arith}
use Rattle.request.specs.declared.Request.{Request}
use Rattle.request.proofs.NumbersLaws.{rows_high}
use Rattle.formula.specs.Formula.{network_variables}
use Rattle.formula.specs.Count.{variables_before}
use Rattle.formula.proofs.CountLaws.{split_none}
use Rattle.formula_clauses.specs.Block.Laws.{before_more, before_most}
use Rattle.lengths.specs.Length.Laws.{blocks_first, blocks_more, blocks_last}
use Rattle.lengths.proofs.body_length.Goals as goal

-- before row 0 are the variables of groups 1 and 2
first : (q : Request) (x : ℕ) → x ≡ network_variables q.n q.r → x ≡ variables_before q 0
unfolding variables_before
first q x e = e ∙ sym (add-zero _) ∙ ap (λ (y : ℕ). network_variables q.n q.r + y) (sym (split_none q (q.m * (2 * q.r + 1)) (2 * q.r + 2)))

pub overflow_cast-before : goal.overflow_cast-before
overflow_cast-before c =
    let q = c.args.nets.good.request in
    omega (arith, first q _ c.network_variables-before.ensures.0, before_most q 0 c.args.nets.good.good (omega arith))

pub loop-k-init : goal.loop-k-init
loop-k-init c =
    let q = c.args.nets.good.request in (
      first q _ c.network_variables-before.ensures.0,
      c.network_length-total.ensures.0 ∙ sym (blocks_first q),
      omega (arith, c.network_length-total.ensures.1),
    )

pub overflow_add-before : goal.overflow_add-before
overflow_add-before c =
    let rows_are : 1 * 2 ^ c.args.nets.good.request.n % 2 ^ 8 ≡ 2 ^ c.args.nets.good.request.n = omega (arith, rows_high c.args.nets.good.request.n c.args.nets.good.good.n_high) in
    let there : c.loop-k.k < 2 ^ c.args.nets.good.request.n = omega (arith, rows_are) in
    let next : c.loop-k.before + c.row_size-row.result.variables ≡ variables_before c.args.nets.good.request (c.loop-k.k + 1) = let q = c.args.nets.good.request in
    let b = before_more q (c.loop-k.k + 1) in
    let z = ap (variables_before q) (let y : c.loop-k.k + 1 - 1 ≡ c.loop-k.k = omega arith in y) in
    omega (arith, c.row_size-row.ensures.variables.0, c.loop-k.invariant.0, b, z) in
    omega (arith, next, before_most c.args.nets.good.request (c.loop-k.k + 1) c.args.nets.good.good (omega (arith, there)))

pub loop-k-preserved : goal.loop-k-preserved
loop-k-preserved c =
    let next : c.loop-k.before + c.row_size-row.result.variables ≡ variables_before c.args.nets.good.request (c.loop-k.k + 1) = let q = c.args.nets.good.request in
    let b = before_more q (c.loop-k.k + 1) in
    let z = ap (variables_before q) (let y : c.loop-k.k + 1 - 1 ≡ c.loop-k.k = omega arith in y) in
    omega (arith, c.row_size-row.ensures.variables.0, c.loop-k.invariant.0, b, z) in
    let m = blocks_more c.args.nets.good.request (c.loop-k.k + 1) in (
      next,
      omega (arith, m, c.loop-k.invariant.1, c.row_size-row.ensures.length.0),
      omega (arith, c.loop-k.invariant.2, c.row_size-row.ensures.length.1),
    )

pub returns : goal.returns
returns c =
    let rows_are : 1 * 2 ^ c.args.nets.good.request.n % 2 ^ 8 ≡ 2 ^ c.args.nets.good.request.n = omega (arith, rows_high c.args.nets.good.request.n c.args.nets.good.good.n_high) in
    let h = rows_high c.args.nets.good.request.n c.args.nets.good.good.n_high in
    let p = rows_are in
    let e : c.loop-k.k ≡ 2 ^ c.args.nets.good.request.n = omega (arith, rows_are) in
    c.loop-k.invariant.1 ∙ blocks_last c.args.nets.good.request c.loop-k.k e
