-- `request_read::rows_marked` meets its contract. The invariant: the number is that of the bytes that were taken from the end of the run;
-- each turn puts one more in front. Assumes nothing.
use Rattle.std.proofs.Common.{◌≡◌, ◌∷◌, [], refl, arith, append-nil}
use Rattle.std.proofs.lemmas.List.{nil_from_length}
use Rattle.request.specs.Line.{marked}
use Rattle.request_read.specs.Part.{marked_front}
use Rattle.request_read.proofs.rows_marked.Goals as goal

pub loop-b-init : goal.loop-b-init
unfolding marked
loop-b-init c = ([], let e = append-nil c.args.run.now in cc, refl)

pub overflow_mul-rows : goal.overflow_mul-rows
overflow_mul-rows c =
    let i = c.loop-b.invariant in
    let f = marked_front c.args.mark c.in-Some.b.now c.loop-b.rows _ _ i.0 c.requires (rw c.in-Some.ensures.steps at i.1) i.2 in
    omega (arith, f.2)

pub overflow_add-rows : goal.overflow_add-rows
overflow_add-rows c =
    let i = c.loop-b.invariant in
    let f = marked_front c.args.mark c.in-Some.b.now c.loop-b.rows _ _ i.0 c.requires (rw c.in-Some.ensures.steps at i.1) i.2 in
    omega (arith, f.2)

pub loop-b-preserved : goal.loop-b-preserved
loop-b-preserved c =
    let i = c.loop-b.invariant in
    let f = marked_front c.args.mark c.in-Some.b.now c.loop-b.rows _ _ i.0 c.requires (rw c.in-Some.ensures.steps at i.1) i.2 in
    (c.in-Some.b.now ∷ i.0, f.0, rw c.from.ensures f.1)

pub returns : goal.returns
returns c =
    let i = c.loop-b.invariant in
    let e = nil_from_length _ c.in-None.ensures.steps.0 in
    let z : c.args.run.now ≡ i.0 = rw e at i.1 in
    rw z i.2
