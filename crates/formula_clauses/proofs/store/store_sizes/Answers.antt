-- The request's refusal comes first, then those of the slices; with the answer come its number and values. Assumes nothing.
use Rattle.std.proofs.Common.{◌≡◌, ℕ, ap, ◌∙◌}
use Rattle.std.specs.Prelude.{Result, IfOk}
use Rattle.std.proofs.lemmas.Result.{err_from_is_err_and}
use Rattle.refusal.specs.declared.Refusal.{Refusal}
use Rattle.refusal.specs.Refusal.{number_of}
use Rattle.request.specs.declared.Request.{Request}
use Rattle.formula.specs.declared.Sizes.{Sizes}
use Rattle.formula.specs.Count.{clause_count, literal_count, counts_of}
use Rattle.formula_clauses.specs.Store.{store_refusal, store_sizes}
use Rattle.formula_clauses.specs.Store.Laws.{request_refused, room_refused, room_taken, sizes_refusal, sizes_values}
use Rattle.formula_clauses.proofs.store.store_sizes.Goals as goal

-- the number and the values of the answer
answered : (q : Request) (literals pairs : ℕ) (x : Result Sizes Refusal) → x ≡ store_sizes q literals pairs
    → (number_of x ≡ store_refusal q literals pairs) × IfOk x (λ s. s ≡ counts_of q)
answered q literals pairs x e = (ap number_of e ∙ sizes_refusal q literals pairs, sizes_values q literals pairs x e)

pub returns-in_err-good : goal.returns-in_err-good
unfolding store_sizes
returns-in_err-good c =
    let q = c.args.q in
    let p = err_from_is_err_and c.from_residual.result c.from_residual.ensures.1 in
    let e = (request_refused q (literal_count q) (clause_count q) c.args.literals c.args.pairs (counts_of q) _ c.in_err-good.ensures.number).0 in
    let a = answered q c.args.literals c.args.pairs _ e in
    rw (p.1, p.2) (record { answer = e; number = a.0; values = a.1 })

pub returns-in_err-room : goal.returns-in_err-room
unfolding store_sizes
returns-in_err-room c =
    let q = c.args.q in
    let p = err_from_is_err_and c.from_residual-in_err-room.result c.from_residual-in_err-room.ensures.1 in
    let h = rw (c.sizes-size.ensures, c.in_ok-good.ensures.request) at c.in_err-room.ensures in
    let e = (room_refused q (literal_count q) (clause_count q) c.args.literals c.args.pairs (counts_of q) _ c.in_ok-good.ensures.number h).0 in
    let a = answered q c.args.literals c.args.pairs _ e in
    rw (p.1, p.2) (record { answer = e; number = a.0; values = a.1 })

pub returns : goal.returns
unfolding store_sizes
returns c =
    let q = c.args.q in
    let h = rw (c.sizes-size.ensures, c.in_ok-good.ensures.request) at c.in_ok-room.ensures in
    let e = (room_taken q (literal_count q) (clause_count q) c.args.literals c.args.pairs (counts_of q) c.in_ok-good.ensures.number h).1 in
    let a = answered q c.args.literals c.args.pairs _ e in
    rw (c.sizes-size.ensures, c.in_ok-good.ensures.request) (record { answer = e; number = a.0; values = a.1 })
