-- The sizes are those of a request that is not refused; with the answer come its number and values. Assumes nothing.
use Rattle.std.proofs.Common.{◌≡◌, ap, ◌∙◌}
use Rattle.std.specs.Prelude.{Result, Ok, Err, IfOk}
use Rattle.std.proofs.lemmas.Result.{err_from_is_err_and}
use Rattle.refusal.specs.declared.Refusal.{Refusal}
use Rattle.refusal.specs.Refusal.{number, number_of}
use Rattle.refusal.specs.Refusal.Laws.{refused_by, taken_by}
use Rattle.request.specs.Numbers.{refusal_of}
use Rattle.request.specs.declared.Request.{Request}
use Rattle.formula.specs.declared.Sizes.{Sizes}
use Rattle.formula.specs.Count.{counts_of, sizes_of}
use Rattle.formula.proofs.CountLaws.{sizes_refusal, sizes_values}
use Rattle.formula_clauses.proofs.count.count.Goals as goal

-- the number and the values of the answer
answered : (q : Request) (x : Result Sizes Refusal) → x ≡ sizes_of q → (number_of x ≡ refusal_of q) × IfOk x (λ s. s ≡ counts_of q)
answered q x e = (ap number_of e ∙ sizes_refusal q, sizes_values q x e)

-- the answer, refused and not
refused : (q : Request) (e : Refusal) → number e ≡ refusal_of q → Err e ≡ sizes_of q
unfolding sizes_of
refused q e h = refused_by e (refusal_of q) (counts_of q) h

taken : (q : Request) → 0 ≡ refusal_of q → Ok (counts_of q) ≡ sizes_of q
unfolding sizes_of
taken q h = taken_by (refusal_of q) (counts_of q) h

pub returns-in_err-good : goal.returns-in_err-good
returns-in_err-good c =
    let q = c.args.q in
    let p = err_from_is_err_and c.from_residual.result c.from_residual.ensures.1 in
    let e = refused q c.in_err-good.field-0.0 c.in_err-good.ensures.number in
    let a = answered q _ e in
    rw (p.1, p.2) (record { answer = e; number = a.0; values = a.1 })

pub returns : goal.returns
returns c =
    let q = c.args.q in
    let e = taken q c.in_ok-good.ensures.number in
    let a = answered q _ e in
    rw (c.sizes.ensures, c.in_ok-good.ensures.request) (record { answer = e; number = a.0; values = a.1 })
