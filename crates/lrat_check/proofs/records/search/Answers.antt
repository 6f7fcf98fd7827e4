-- The invariant: a record with the id lies from low on and below high. Assumes nothing.
use Rattle.std.proofs.Common.{sym, ◌∙◌, arith}
use Rattle.added.proofs.RecordLaws.{with_none}
use Rattle.lrat.proofs.Rising.{rising_past, rising_first}
use Rattle.lrat_check.proofs.records.search.Goals as goal

pub returns-then-last-x : goal.returns-then-last-x
returns-then-last-x c = rising_past c.requires.rising _ (omega (arith, c.if-last-x.true, c.last-last.ensures))

pub returns-then-there-x : goal.returns-then-there-x
returns-then-there-x c =
    rising_first c.requires.rising _ _ c.requires.room (omega (arith, c.loop-low-test.true, c.loop-low.invariant.0)) (sym c.id-there.ensures ∙ c.if-there-x.true)

pub returns-then-id-x : goal.returns-then-id-x
returns-then-id-x c =
    rising_first c.requires.rising _ _ c.requires.room (omega (arith, c.if-k-high.true, c.loop-low.invariant.0)) (sym c.id.ensures ∙ c.if-id-x.true)

pub returns-then-id-x-2 : goal.returns-then-id-x-2
returns-then-id-x-2 c =
    rising_first c.requires.rising _ _ c.requires.room (omega (arith, c.loop-low-test.true, c.loop-low.invariant.0)) (sym c.id-then-there-x-3.ensures ∙ c.if-id-x-2.true)

pub returns : goal.returns
returns c =
    with_none c.args.added.now c.args.a c.args.x
    (λ j h m e. (let v = c.loop-low.invariant.1 j h e in omega (arith, v.0, v.1, c.loop-low-test.false)))
