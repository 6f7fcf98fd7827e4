-- The form first, then the ids. Assumes nothing.
use Rattle.std.proofs.Common.{refl, sym, ◌∙◌, arith}
use Rattle.std.proofs.lemmas.Result.{err_from_is_err_and}
use Rattle.lrat.specs.Bytes.{formula_in}
use Rattle.lrat.proofs.StateLaws.{formula_in_length}
use Rattle.lrat.proofs.CheckLaws.{leaves, delete_formless, delete_open, delete_refused, delete_accepted, deletion_inside}
use Rattle.lrat_check.proofs.WordLaws.{formless, place_none, place_is, place_there}
use Rattle.lrat_check.proofs.lines.deletion.Goals as goal

pub returns-in_err-newline : goal.returns-in_err-newline
returns-in_err-newline c =
    let e = c.in_err-newline.ensures in
    rw (formless (err_from_is_err_and c.from_residual.result c.from_residual.ensures.1) e.value e.ok_part)
    (leaves (delete_formless _ _ _ _ _ _ _ refl (place_none _ (sym e.ok_part ∙ c.end.ensures))) refl)

pub returns-then-byte-ne10 : goal.returns-then-byte-ne10
returns-then-byte-ne10 c =
    leaves (delete_open _ _ _ _ _ _ _ (place_is _ _ (sym c.in_ok-newline.ensures.ok_part ∙ c.end.ensures)) (place_there _ _ (sym c.in_ok-newline.ensures.ok_part ∙ c.end.ensures)) (λ z. c.if-byte-ne10.true (c.byte.ensures ∙ z))) refl

pub delete-requires : goal.delete-requires
delete-requires c =
    let s = c.args.store in
    let i = deletion_inside (formula_in s.count s.literals.now s.pairs.now) _ s.variables c.args.a c.args.added.now _ _ (place_is _ _ (sym c.in_ok-newline.ensures.ok_part ∙ c.end.ensures)) (place_there _ _ (sym c.in_ok-newline.ensures.ok_part ∙ c.end.ensures)) in
    (omega (arith, i.0, i.1), c.requires)

pub returns-in_err-delete : goal.returns-in_err-delete
returns-in_err-delete c =
    let s = c.args.store in
    let p = err_from_is_err_and c.from_residual-in_err-delete.result c.from_residual-in_err-delete.ensures.1 in
    rw (p.1, p.2)
    (delete_refused (formula_in s.count s.literals.now s.pairs.now) _ _ _ _ _ _ (place_is _ _ (sym c.in_ok-newline.ensures.ok_part ∙ c.end.ensures)) (place_there _ _ (sym c.in_ok-newline.ensures.ok_part ∙ c.end.ensures)) (sym c.byte.ensures ∙ c.if-byte-ne10.false)
    s.count (sym (formula_in_length s.count s.literals.now s.pairs.now)) _ _ c.delete.ensures _ c.in_err-delete.was)

pub returns : goal.returns
returns c =
    let s = c.args.store in
    delete_accepted (formula_in s.count s.literals.now s.pairs.now) _ _ _ _ _ _ (place_is _ _ (sym c.in_ok-newline.ensures.ok_part ∙ c.end.ensures)) (place_there _ _ (sym c.in_ok-newline.ensures.ok_part ∙ c.end.ensures)) (sym c.byte.ensures ∙ c.if-byte-ne10.false)
    s.count (sym (formula_in_length s.count s.literals.now s.pairs.now)) _ _ c.delete.ensures _ c.in_ok-delete.was
