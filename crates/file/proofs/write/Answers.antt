-- The length is within the buffer, and the first bytes up to it are the file. Assumes nothing.
use Rattle.std.proofs.Common.{arith, sym, subst, List, ℕ, OnOk}
use Rattle.std.proofs.lemmas.List.{length-take-le}
use Rattle.std.specs.Io.KnownBytes.{Appends}
use Rattle.file.proofs.OutputLaws.{length_within, length_text}
use Rattle.file.proofs.write.Goals as goal

pub slice_bounds-buffer-end : goal.slice_bounds-buffer-end
slice_bounds-buffer-end g c =
    let h = length_within c.args.q 65536 _ c.in-Ok.ensures.number c.in-Ok.ensures.values in
    omega arith

pub slice_bounds-write_all-end : goal.slice_bounds-write_all-end
slice_bounds-write_all-end g c =
    let h = length_within c.args.q 65536 _ c.in-Ok.ensures.number c.in-Ok.ensures.values in
    sym (length-take-le c.in-Ok.length _ (omega arith))

pub returns-in-Ok : goal.returns-in-Ok
returns-in-Ok g c =
    subst (λ (t : List ℕ). OnOk c.write_all.result (Appends (g.W.Write.contents c.args.out.now) (g.W.Write.contents c.write_all.new.self) t))
    (length_text c.args.q _ _ _ c.in-Ok.ensures.number c.in-Ok.ensures.values c.in-Ok.ensures.bytes) c.write_all.ensures.bytes
