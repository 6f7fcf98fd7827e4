-- The refusals before the lines in their order, or the lines over a filled store. Assumes nothing.
use Rattle.std.proofs.Common.{sym, ap, ◌∙◌, arith}
use Rattle.std.proofs.lemmas.Result.{err_from_is_err_and}
use Rattle.refusal.specs.Refusal.{number_of as refused_with}
use Rattle.refusal.specs.Refusal.Laws.{numbered_number, number_some}
use Rattle.formula_clauses.specs.Store.Laws.{sizes_refusal}
use Rattle.formula_clauses.specs.Store.Promise.{promise}
use Rattle.lrat_check.specs.Refutation.{lent}
use Rattle.lrat_check.specs.Refutation.Laws.{stops_store, stops_values, stops_long}
use Rattle.lrat_check.proofs.CheckParts.{never, originals, variables_few, ended}
use Rattle.lrat_check.proofs.check.outcome.Goals as goal

pub returns-in_err-size : goal.returns-in_err-size
returns-in_err-size c =
    let a = c.args in
    let p = err_from_is_err_and c.from_residual.result c.from_residual.ensures.1 in
    let k = ap refused_with c.in_err-size.ensures.answer ∙ sizes_refusal _ _ _ in
    let s = stops_store a.q a.text.now (lent a.literals.now a.pairs.now a.added.now a.values.now) _ (sym k) (number_some _) in
    record { answer = rw (p.1, p.2, c.requires) (rw (numbered_number _) at s.answer); slices = s.slices }

pub returns-then-values-variables : goal.returns-then-values-variables
returns-then-values-variables c =
    let a = c.args in
    let g = promise _ _ _ _ c.in_ok-size.ensures.answer in
    let s = stops_values a.q a.text.now (lent a.literals.now a.pairs.now a.added.now a.values.now) g.taken (omega (arith, c.if-values-variables.true, g.variables_are)) in
    record { answer = rw c.requires s.answer; slices = s.slices }

pub returns-then-text-gt-TEXT_LIMIT : goal.returns-then-text-gt-TEXT_LIMIT
returns-then-text-gt-TEXT_LIMIT c =
    let a = c.args in
    let g = promise _ _ _ _ c.in_ok-size.ensures.answer in
    let s = stops_long a.q a.text.now (lent a.literals.now a.pairs.now a.added.now a.values.now) g.taken
    (omega (arith, c.if-values-variables.false, g.variables_are)) c.if-text-gt-TEXT_LIMIT.true in
    record { answer = rw c.requires s.answer; slices = s.slices }

pub returns-in_err-store_clauses : goal.returns-in_err-store_clauses
returns-in_err-store_clauses c = never _ _ (promise _ _ _ _ c.in_ok-size.ensures.answer).taken c.in_err-store_clauses.ensures.answer

pub invariant_of-store : goal.invariant_of-store
invariant_of-store c =
    let a = c.args in
    let e = c.in_ok-store_clauses.ensures in
    record {
      originals = originals a.q a.text.now a.literals.now a.pairs.now a.added.now a.values.now _ c.in_ok-size.ensures.answer _ _ e.literals e.pairs;
      values_fit = omega (arith, variables_few a.q a.text.now a.literals.now a.pairs.now a.added.now a.values.now _ c.in_ok-size.ensures.answer _ _ e.literals e.pairs);
      text_fits = c.if-text-gt-TEXT_LIMIT.false;
    }

pub returns : goal.returns
returns c =
    let a = c.args in
    let e = c.in_ok-store_clauses.ensures in
    let p = ended a.q a.text.now a.literals.now a.pairs.now a.added.now a.values.now _ c.in_ok-size.ensures.answer _ _ e.literals e.pairs
    c.if-values-variables.false c.if-text-gt-TEXT_LIMIT.false _ _ _ c.lines.ensures.lines c.lines.ensures.bytes in
    record { answer = p.0; slices = p.1 }
