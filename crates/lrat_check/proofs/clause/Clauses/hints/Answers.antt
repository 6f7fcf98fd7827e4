-- The invariant is Hinting: all hints end as those that are left do. Assumes nothing.
use Rattle.std.proofs.Common.{refl, sym, arith}
use Rattle.lrat.proofs.StateLaws.{hints_bad, hinting_ended, hints_end, hinting_more}
use Rattle.lrat_check.proofs.WordLaws.{id_past, place_none, place_is}
use Rattle.lrat_check.proofs.clause.Clauses.hints.Goals as goal

pub loop-id-smaller : goal.loop-id-smaller
loop-id-smaller c =
    let s = c.in_ok-id.ensures.some in
    let p = id_past _ _ s.0 _ s.1 in omega (arith, p.0, p.1)

pub returns-then-id-eq0-clause-read : goal.returns-then-id-eq0-clause-read
returns-then-id-eq0-clause-read c =
    let s = c.in_ok-id.ensures.some in
    hints_end c.loop-id.invariant _ (sym s.1.read) s.0 s.1.there c.if-id-eq0.true _ refl refl

pub returns-in_err-next-clause-read : goal.returns-in_err-next-clause-read
returns-in_err-next-clause-read c =
    let s = c.in_ok-id.ensures.some in
    let h = hinting_more c.loop-id.invariant _ (sym s.1.read) s.0 s.1.there c.if-id-eq0.false refl _ _ c.hint.auto.values c.hint.ensures.after in
    rw c.from_residual-in_err-next.ensures (hints_bad h (place_none _ c.in_err-next.ensures) _ refl)

pub returns-in-Some-clause-read : goal.returns-in-Some-clause-read
returns-in-Some-clause-read c =
    let s = c.in_ok-id.ensures.some in
    let h = hinting_more c.loop-id.invariant _ (sym s.1.read) s.0 s.1.there c.if-id-eq0.false refl _ _ c.hint.auto.values c.in-Some.ensures.after in
    hinting_ended h c.in-Some.ensures.ends _ (place_is _ _ c.in_ok-next.ensures) refl

pub loop-id-preserved : goal.loop-id-preserved
loop-id-preserved c =
    let s = c.in_ok-id.ensures.some in
    hinting_more c.loop-id.invariant _ (sym s.1.read) s.0 s.1.there c.if-id-eq0.false refl _ _ c.hint.auto.values c.in_default.ensures.after
