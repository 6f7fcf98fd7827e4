-- The invariant: deleting all ids from the slice at entry is deleting those that are left from the slice as it is, whose clauses lie
-- in the text. Assumes nothing.
use Rattle.std.proofs.Common.{false, refl, sym, arith}
use Rattle.numeral.specs.Number.Words.{none_read, number_word}
use Rattle.lrat.specs.Words.{plain_at}
use Rattle.lrat.specs.Words.Laws.{plain_reads, word_ends, ids_none, ids_more}
use Rattle.added.proofs.RecordLaws.{with_less}
use Rattle.lrat.proofs.StateLaws.{delete_end, delete_gone, delete_original, delete_added, stands_original, stands_added}
use Rattle.lrat.proofs.StateAdded.{additions_emptied}
use Rattle.lrat_check.proofs.WordLaws.{deletes, ids_wordless}
use Rattle.lrat_check.proofs.lines.delete.Goals as goal

pub returns-then-x-eq0 : goal.returns-then-x-eq0
returns-then-x-eq0 c =
    let w = number_word _ _ false _ c.in-Some.ensures in
    deletes _ 0 _ (delete_end c.loop-id.invariant.1 (ids_none _ _ _ (sym w.read) c.if-x-eq0.true)) refl

pub returns-in_default-standing : goal.returns-in_default-standing
returns-in_default-standing c =
    let w = number_word _ _ false _ c.in-Some.ensures in
    deletes _ 19 _ (delete_gone c.loop-id.invariant.1 _ _ (ids_more _ _ _ (sym w.read) c.if-x-eq0.false) c.in_default-standing.ensures) refl

pub empty-requires : goal.empty-requires
empty-requires c = omega (arith, with_less _ _ _ _ c.in-Some-standing.ensures.found, c.loop-id.invariant.2.room)

pub loop-id-smaller-in-Some-standing : goal.loop-id-smaller-in-Some-standing
loop-id-smaller-in-Some-standing c =
    let w = number_word _ _ false _ c.in-Some.ensures in
    let e = word_ends plain_at plain_reads _ _ _ (sym w.read) c.if-x-eq0.false in omega (arith, e.low, e.high)

pub loop-id-preserved-in-Some-standing : goal.loop-id-preserved-in-Some-standing
loop-id-preserved-in-Some-standing c =
    let w = number_word _ _ false _ c.in-Some.ensures in
    let e = word_ends plain_at plain_reads _ _ _ (sym w.read) c.if-x-eq0.false in
    let k = c.in-Some-standing.ensures in
    let v = c.loop-id.invariant in (
      e.high,
      rw c.empty.ensures (delete_added v.1 _ _ (ids_more _ _ _ (sym w.read) c.if-x-eq0.false) (stands_added _ _ _ _ c.if-store-x.true _ k.found k.long) c.if-store-x.true _ k.found),
      rw c.empty.ensures (additions_emptied _ _ _ _ _ _ (with_less _ _ _ _ k.found) v.2),
    )

pub loop-id-smaller : goal.loop-id-smaller
loop-id-smaller c =
    let w = number_word _ _ false _ c.in-Some.ensures in
    let e = word_ends plain_at plain_reads _ _ _ (sym w.read) c.if-x-eq0.false in omega (arith, e.low, e.high)

pub loop-id-preserved : goal.loop-id-preserved
loop-id-preserved c =
    let w = number_word _ _ false _ c.in-Some.ensures in
    let e = word_ends plain_at plain_reads _ _ _ (sym w.read) c.if-x-eq0.false in
    let v = c.loop-id.invariant in
    (e.high, delete_original v.1 _ _ (ids_more _ _ _ (sym w.read) c.if-x-eq0.false) (stands_original _ _ _ _ (omega (arith, c.if-x-eq0.false)) c.if-store-x.false) c.if-store-x.false, v.2)

pub returns : goal.returns
returns c = deletes _ 0 _ (delete_end c.loop-id.invariant.1 (ids_wordless _ _ (none_read _ c.in_default.ensures))) refl
