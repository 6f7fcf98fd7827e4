-- A refused request has no clause, and none is past the last; any other is made. Assumes nothing.
use Rattle.std.proofs.Common.{sym, arith}
use Rattle.formula.proofs.ClauseLaws.{form_of, form_none}
use Rattle.refusal.specs.Refusal.Laws.{number_some}
use Rattle.formula_clauses.specs.Block.Laws.{network_refused, network_past, network_good}
use Rattle.formula_clauses.proofs.groups.network_clause.Goals as goal

pub returns-in_default : goal.returns-in_default
returns-in_default c =
    let p = form_none (network_refused c.args.q c.args.number _ c.in_default.ensures.number (number_some c.in_default.field-0)) in
    record { literals = p.0; form = p.1 }

pub returns-then-network_count-number : goal.returns-then-network_count-number
returns-then-network_count-number c =
    let g = rw c.in-Ok.ensures.request at c.in-Ok.good.good in
    let p = form_none (network_past c.args.q c.args.number g (omega (arith, c.network_count.ensures.0))) in
    record { literals = p.0; form = p.1 }

pub returns : goal.returns
returns c =
    let g = rw c.in-Ok.ensures.request at c.in-Ok.good.good in
    let h = rw c.in-Ok.ensures.request at c.network_at.ensures in
    let p = form_of h (sym (network_good c.args.q c.args.number g)) in
    record { literals = p.0; form = p.1 }
