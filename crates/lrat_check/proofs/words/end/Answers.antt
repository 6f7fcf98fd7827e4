-- The invariant: the word was read after a place p, whose run is that of all. Assumes nothing.
use Rattle.std.proofs.Common.{sym, ap, ◌∙◌, refl, arith}
use Rattle.lrat.specs.Words.{Run}
use Rattle.lrat.specs.Results.{place_of}
use Rattle.lrat_check.proofs.WordLaws.{id_past, id_last, id_more, place_some}
use Rattle.lrat_check.proofs.words.end.Goals as goal

pub returns-in_err-id-2 : goal.returns-in_err-id-2
returns-in_err-id-2 c =
    let v = c.loop-id.invariant in
    let e = v.3 ∙ id_more _ _ v.1 _ v.2 c.loop-id-test.true ∙ c.in_err-id-2.ensures.none refl in
    c.from_residual-in_err-id-2.ensures ∙ ap (λ (r : Run). place_of r.next) (sym e)

pub loop-id-smaller : goal.loop-id-smaller
loop-id-smaller c =
    let s = c.in_ok-id-2.ensures.some in
    let p = id_past _ _ s.0 _ s.1 in omega (arith, p.0, p.1)

pub loop-id-preserved : goal.loop-id-preserved
loop-id-preserved c =
    let v = c.loop-id.invariant in
    let s = c.in_ok-id-2.ensures.some in
    (c.loop-id.id.next, s.0, s.1, v.3 ∙ id_more _ _ v.1 _ v.2 c.loop-id-test.true)

pub returns : goal.returns
returns c =
    let v = c.loop-id.invariant in
    place_some _ v.2.there ∙ ap (λ (r : Run). place_of r.next) (sym (v.3 ∙ id_last _ _ v.1 _ v.2 c.loop-id-test.false))
