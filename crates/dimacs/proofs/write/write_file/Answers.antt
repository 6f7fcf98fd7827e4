-- `write::write_file` meets its contract: the lines are written where the head ended, in a buffer that has room for both; another buffer
-- stays; with the answer come its meaning, its number and its values. Assumes nothing.
use Rattle.std.proofs.Common.{◌≡◌, ℕ, ◌≤◌, ◌<◌, length, refl, ap, ◌∙◌, arith}
use Rattle.std.proofs.lemmas.Result.{err_from_is_err_and}
use Rattle.request.specs.declared.Request.{Request}
use Rattle.dimacs.specs.File.{Answer, number_of, values_of, file_text, write_number, write_values, write_answer}
use Rattle.dimacs.proofs.FileLaws.{sizes_refused, sizes_counted, file_length, body_fits, file_put, file_after, file_end, write_refused, file_refused, write_short, file_short, write_long, write_number_lem, write_values_lem}
use Rattle.dimacs.specs.Means.{Meaning, answer_means}
use Rattle.dimacs.proofs.write.write_file.Goals as goal

-- what the answer means, its number and its values
answered : (q : Request) (room : ℕ) (x : Answer) → x ≡ write_answer q room
    → Meaning q x × ((number_of x ≡ write_number q room) × (values_of x ≡ write_values q room))
answered q room x e = (answer_means q x, (ap number_of e ∙ write_number_lem q room, ap values_of e ∙ write_values_lem q room))

pub returns-in_err-good : goal.returns-in_err-good
returns-in_err-good c =
    let a = c.args in
    let p = err_from_is_err_and c.from_residual.result c.from_residual.ensures.1 in
    let w = write_refused a.q _ c.in_err-good.ensures.number (length a.buffer.now) in
    let m = answered a.q _ _ w in
    rw (p.1, p.2) (record { answer = w; bytes = file_refused a.q _ c.in_err-good.ensures.number a.buffer.now; meaning = m.0; number = m.1.0; values = m.1.1 })

pub returns-in_err-sizes : goal.returns-in_err-sizes
returns-in_err-sizes c =
    let a = c.args in
    let p = err_from_is_err_and c.from_residual-in_err-sizes.result c.from_residual-in_err-sizes.ensures.1 in
    let r = sizes_refused a.q c.in_err-sizes.ensures.answer in
    let w = write_refused a.q _ r (length a.buffer.now) in
    let m = answered a.q _ _ w in
    rw (p.1, p.2) (record { answer = w; bytes = file_refused a.q _ r a.buffer.now; meaning = m.0; number = m.1.0; values = m.1.1 })

pub file_length-requires : goal.file_length-requires
file_length-requires c = sizes_counted c.args.q c.in_ok-sizes.ensures.answer

pub returns-then-buffer-file_length : goal.returns-then-buffer-file_length
returns-then-buffer-file_length c =
    let a = c.args in
    let counted = sizes_counted a.q c.in_ok-sizes.ensures.answer in
    let h : length a.buffer.now < length (file_text a.q) = omega (arith, c.file_length.ensures, c.if-buffer-file_length.true) in
    let w = write_short a.q counted {room = length a.buffer.now} h in
    let p = answered a.q _ _ w in
    record { answer = w; bytes = file_short a.q counted a.buffer.now h; meaning = p.0; number = p.1.0; values = p.1.1 }

pub put_head-requires : goal.put_head-requires
put_head-requires c =
    let n = file_length c.args.q (sizes_counted c.args.q c.in_ok-sizes.ensures.answer) refl refl in
    omega (arith, c.file_length.ensures, c.if-buffer-file_length.false)

pub put_body-requires : goal.put_body-requires
put_body-requires c =
    rw c.in_ok-good.ensures.request
    (body_fits c.args.q (sizes_counted c.args.q c.in_ok-sizes.ensures.answer) _ refl (omega (arith, c.file_length.ensures)) c.put_head.ensures)

pub returns : goal.returns
returns c =
    let a = c.args in
    let counted = sizes_counted a.q c.in_ok-sizes.ensures.answer in
    let room : length (file_text a.q) ≤ length a.buffer.now = omega (arith, c.file_length.ensures) in
    let put = file_put a.q counted _ refl room c.put_head.ensures (rw c.in_ok-good.ensures.request at c.put_body.ensures.text) in
    let x = write_long a.q counted {room = length a.buffer.now} room (file_end a.q counted _ refl room put) in
    let p = answered a.q _ _ x in
    let after = file_after a.q counted _ refl room put in
    let same = put.same in
    record { answer = x; bytes = grind arith; meaning = p.0; number = p.1.0; values = p.1.1 }
