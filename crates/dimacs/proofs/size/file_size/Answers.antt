-- `size::file_size` meets its contract: the file's length, or the request's refusal; with the answer come its number and values.
-- Assumes nothing.
use Rattle.std.proofs.Common.{◌≡◌, ap, ◌∙◌}
use Rattle.std.proofs.lemmas.Result.{err_from_is_err_and}
use Rattle.request.specs.Numbers.{refusal_of}
use Rattle.request.specs.declared.Request.{Request}
use Rattle.dimacs.specs.File.{Answer, number_of, values_of, size_values, size_answer}
use Rattle.dimacs.proofs.FileLaws.{sizes_refused, sizes_counted, size_refused, size_good, size_number, size_values_lem}
use Rattle.dimacs.proofs.size.file_size.Goals as goal

-- the number and the values of the answer
answered : (q : Request) (x : Answer) → x ≡ size_answer q → (number_of x ≡ refusal_of q) × (values_of x ≡ size_values q)
answered q x e = (ap number_of e ∙ size_number q, ap values_of e ∙ size_values_lem q)

pub returns-in_err-sizes : goal.returns-in_err-sizes
returns-in_err-sizes c =
    let p = err_from_is_err_and c.from_residual.result c.from_residual.ensures.1 in
    let e = size_refused c.args.q _ (sizes_refused c.args.q c.in_err-sizes.ensures.answer) in
    let a = answered c.args.q _ e in
    rw (p.1, p.2) (record { answer = e; number = a.0; values = a.1 })

pub file_length-requires : goal.file_length-requires
file_length-requires c = sizes_counted c.args.q c.in_ok-sizes.ensures.answer

pub returns : goal.returns
returns c =
    let q = c.args.q in
    let e = size_good q (sizes_counted q c.in_ok-sizes.ensures.answer) c.file_length.ensures in
    let p = answered q _ e in
    record { answer = e; number = p.0; values = p.1 }
