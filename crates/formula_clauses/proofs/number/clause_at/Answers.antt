-- Groups 1 and 2 first; then the row whose clauses the number lies among. A refused request has no clause, and none is past the last.
-- Assumes nothing.
use Rattle.std.proofs.Common.{◌≡◌, ℕ, [], ◌+◌, ◌-◌, ◌^◌, ◌∙◌, ap, ap₂, get_or, arith}
use Rattle.request.specs.declared.Request.{Request}
use Rattle.formula.specs.Formula.{terminals}
use Rattle.formula.specs.Count.{on_row_count, off_row_count, split}
use Rattle.formula.proofs.ClauseLaws.{form_of, form_none}
use Rattle.formula.proofs.NumberLaws.{clause_refused}
use Rattle.formula_clauses.specs.declared.Block.{Block}
use Rattle.formula_clauses.specs.Block.{block_clauses, block_count}
use Rattle.refusal.specs.Refusal.Laws.{number_some}
use Rattle.formula_clauses.specs.Block.Laws.{number_network, number_row, number_past}
use Rattle.formula_clauses.proofs.number.clause_at.Goals as goal

-- the clauses of the rows below row k, by the sizes of an on row and an off row
split_by : (q : Request) (a b k : ℕ) → a ≡ on_row_count q.n q.r q.m → b ≡ off_row_count q.n (terminals q.r) q.r
    → split q a b k ≡ split q (on_row_count q.n q.r q.m) (off_row_count q.n (terminals q.r) q.r) k
split_by q a b k e f = ap₂ (λ (x y : ℕ). split q x y k) e f

pub returns-in_default : goal.returns-in_default
returns-in_default c =
    let p = form_none (clause_refused c.args.q c.args.number _ c.in_default.ensures.number (number_some c.in_default.field-0)) in
    record { literals = p.0; form = p.1 }

pub returns-then-number-first : goal.returns-then-number-first
returns-then-number-first c =
    let q = c.in-Ok.good.request in
    let first = rw (← c.in-Ok.ensures.request) at c.network_count-first.ensures.0 in
    let p = form_of c.network_at.ensures (number_network q c.in-Ok.good.good c.args.number (omega arith)) in
    rw (← c.in-Ok.ensures.request) (record { literals = p.0; form = p.1 })

pub returns-in_default-row_of : goal.returns-in_default-row_of
returns-in_default-row_of c =
    let q = c.in-Ok.good.request in
    let first = rw (← c.in-Ok.ensures.request) at c.network_count-first.ensures.0 in
    let s = split_by q _ _ (2 ^ q.n) c.on_row_count-on.ensures.0 c.off_row_count-off.ensures.0 in
    let p = form_none (number_past q c.in-Ok.good.good c.args.number (omega arith) (omega (arith, c.in_default-row_of.ensures))) in
    rw (← c.in-Ok.ensures.request) (record { literals = p.0; form = p.1 })

pub block_clause-requires : goal.block_clause-requires
block_clause-requires c =
    let q = c.in-Ok.good.request in
    let first = rw (← c.in-Ok.ensures.request) at c.network_count-first.ensures.0 in
    let on = c.on_row_count-on.ensures.0 in
    let off = c.off_row_count-off.ensures.0 in
    let k = c.in-Some.k in
    let f = c.in-Some.ensures in
    let r = number_row q c.in-Ok.good.good c.args.number k f.0 (omega arith) (omega (arith, f.1, split_by q _ _ k on off)) (omega (arith, f.2, split_by q _ _ (k + 1) on off)) in
    (c.block_at-row.ensures.1, omega (arith, r.0, ap (block_count q.n q.r q.m) c.block_at-row.ensures.0, c.weighted.ensures.0, split_by q _ _ k on off))

pub returns : goal.returns
returns c =
    let q = c.in-Ok.good.request in
    let first = rw (← c.in-Ok.ensures.request) at c.network_count-first.ensures.0 in
    let on = c.on_row_count-on.ensures.0 in
    let off = c.off_row_count-off.ensures.0 in
    let k = c.in-Some.k in
    let f = c.in-Some.ensures in
    let r = number_row q c.in-Ok.good.good c.args.number k f.0 (omega arith) (omega (arith, f.1, split_by q _ _ k on off)) (omega (arith, f.2, split_by q _ _ (k + 1) on off)) in
    let rest = ap₂ (λ (x y : ℕ). c.args.number - x - y) first (c.weighted.ensures.0 ∙ split_by q _ _ k on off) in
    let p =
    form_of c.block_clause.ensures
    (ap₂ (λ (x : Block) (j : ℕ). get_or (block_clauses q.n q.r q.m x) j []) c.block_at-row.ensures.0 rest ∙ r.1) in
    rw (← c.in-Ok.ensures.request) (record { literals = p.0; form = p.1 })
