-- A refusal leaves the slices; where there is none they have room, and are filled. With the answer comes its number. Assumes nothing.
use Rattle.std.proofs.Common.{refl, ap, sym, ◌∙◌, length, arith}
use Rattle.std.proofs.lemmas.Result.{err_from_is_err_and}
use Rattle.refusal.specs.Refusal.{number_of}
use Rattle.formula.specs.declared.Sizes.{Sizes}
use Rattle.formula.specs.Count.{clause_count, literal_count}
use Rattle.formula_clauses.specs.Store.Laws.{none_taken, request_refused, room_refused, room_taken, store_number, store_refused, store_taken}
use Rattle.formula_clauses.proofs.store.store_clauses.Goals as goal

pub returns-in_err-good : goal.returns-in_err-good
returns-in_err-good c =
    let q = c.args.q in
    let literals = c.args.literals.now in
    let pairs = c.args.pairs.now in
    let p = err_from_is_err_and c.from_residual.result c.from_residual.ensures.1 in
    let r = request_refused q (literal_count q) (clause_count q) (length literals) (length pairs) tt _ c.in_err-good.ensures.number in
    let w = store_refused q literals pairs _ refl r.1 in
    let n = ap number_of r.0 ∙ store_number q (length literals) (length pairs) in
    record { answer = rw (p.1, p.2) r.0; number = rw (p.1, p.2) n; literals = w.0; pairs = w.1 }

pub returns-in_err-room : goal.returns-in_err-room
returns-in_err-room c =
    let q = c.args.q in
    let literals = c.args.literals.now in
    let pairs = c.args.pairs.now in
    let p = err_from_is_err_and c.from_residual-in_err-room.result c.from_residual-in_err-room.ensures.1 in
    let h = rw (c.sizes-size.ensures, c.in_ok-good.ensures.request) at c.in_err-room.ensures in
    let r = room_refused q (literal_count q) (clause_count q) (length literals) (length pairs) tt _ c.in_ok-good.ensures.number h in
    let w = store_refused q literals pairs _ refl r.1 in
    let n = ap number_of r.0 ∙ store_number q (length literals) (length pairs) in
    record { answer = rw (p.1, p.2) r.0; number = rw (p.1, p.2) n; literals = w.0; pairs = w.1 }

pub fill-requires : goal.fill-requires
fill-requires c =
    let q = c.in_ok-good.good.request in
    let literals = c.args.literals.now in
    let pairs = c.args.pairs.now in
    let z = rw (← c.in_ok-good.ensures.request) at c.in_ok-good.ensures.number in
    let h = rw c.sizes-size.ensures at c.in_ok-room.ensures in
    let t = none_taken _ _ _ _ _ (room_taken q (literal_count q) (clause_count q) (length literals) (length pairs) (tt {0}) z h).0 in
    let s = ap (λ (x : Sizes). x.literals) c.sizes-size.ensures in
    let k = ap (λ (x : Sizes). x.clauses) c.sizes-size.ensures in
    record {
      good = c.in_ok-good.good.good;
      small = omega (arith, c.sizes-size.type_inv);
      few = omega (arith, c.sizes-size.type_inv);
      literals_long = t.literals_long;
      pairs_long = t.pairs_long;
    }

pub returns : goal.returns
returns c =
    let q = c.args.q in
    let literals = c.args.literals.now in
    let pairs = c.args.pairs.now in
    let h = rw (c.sizes-size.ensures, c.in_ok-good.ensures.request) at c.in_ok-room.ensures in
    let r = room_taken q (literal_count q) (clause_count q) (length literals) (length pairs) tt c.in_ok-good.ensures.number h in
    let w = store_taken q literals pairs r.0 in
    let f = rw c.in_ok-good.ensures.request at c.fill.ensures.literals in
    let g = rw c.in_ok-good.ensures.request at c.fill.ensures.pairs in
    let n = ap number_of r.1 ∙ store_number q (length literals) (length pairs) in
    record { answer = r.1; number = n; literals = f ∙ sym w.0; pairs = g ∙ sym w.1 }
