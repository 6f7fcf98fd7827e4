-- The invariant: the word was read after a place p, whose literals are left, by Scanning. Assumes nothing.
use Rattle.std.proofs.Common.{◌-◌, sym, subst, arith}
use Rattle.lrat.specs.declared.Found.{Found}
use Rattle.lrat.specs.Words.{literals_at}
use Rattle.lrat.proofs.BytesScan.{Scanning, scan_end, scan_var, scan_more}
use Rattle.lrat_check.proofs.ClauseLaws.{spells_first, first_back, word_past, spells_inside, spells_there, spells_after, spelled_none, spelled_more, spells_on}
use Rattle.lrat_check.proofs.clause.evaluate_added.Goals as goal

pub known_literal-word-requires : goal.known_literal-word-requires
known_literal-word-requires c =
    let s = spells_first c.requires in
    let e = first_back c.args.at c.requires.first in
    record { there = rw e at (spells_there s); spaced = rw e at (spells_after s) }

pub with-found-requires : goal.with-found-requires
with-found-requires c =
    let v = c.loop-word.invariant in
    scan_var v.3 _ (spelled_more v.2 _ v.1 c.loop-word-test.true)

pub overflow_add-word : goal.overflow_add-word
overflow_add-word c =
    let v = c.loop-word.invariant in
    omega (arith, spells_inside (spells_on v.2 _ v.1 c.loop-word-test.true), c.well_formed)

pub known_literal-word-requires-in-loop-word : goal.known_literal-word-requires-in-loop-word
known_literal-word-requires-in-loop-word c =
    let v = c.loop-word.invariant in
    let s = spells_on v.2 _ v.1 c.loop-word-test.true in
    record { there = spells_there s; spaced = spells_after s }

pub loop-word-smaller : goal.loop-word-smaller
loop-word-smaller c =
    let p = word_past _ _ _ c.known_literal-word-in-loop-word.ensures in omega (arith, p.0, p.1)

pub loop-word-preserved : goal.loop-word-preserved
loop-word-preserved c =
    let v = c.loop-word.invariant in (
      c.loop-word.word.next,
      c.known_literal-word-in-loop-word.ensures,
      spells_on v.2 _ v.1 c.loop-word-test.true,
      subst (λ (f : Found). Scanning c.args.values.stamp.byte c.args.values.bytes.now (literals_at c.args.text.now (c.args.at - 1)) f (literals_at c.args.text.now c.loop-word.word.next))
          (sym c.with-found.ensures)
          (scan_more v.3 _ (spelled_more v.2 _ v.1 c.loop-word-test.true)),
    )

pub returns : goal.returns
returns c =
    let v = c.loop-word.invariant in
    scan_end v.3 (spelled_none v.2 _ v.1 c.loop-word-test.false)
