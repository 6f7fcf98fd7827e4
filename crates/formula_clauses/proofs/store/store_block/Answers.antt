-- A refusal leaves the slices; where there is none they have room, and the block is stored. With the answer come its number and
-- values. Assumes nothing.
use Rattle.std.proofs.Common.{◌≡◌, ℕ, ap, sym, ◌∙◌, length, arith}
use Rattle.std.proofs.lemmas.Result.{err_from_is_err_and}
use Rattle.std.specs.Prelude.{Result, IfOk}
use Rattle.refusal.specs.declared.Refusal.{Refusal}
use Rattle.refusal.specs.Refusal.{number_of}
use Rattle.cnf.specs.Cnf.{Formula}
use Rattle.prelude.specs.Blocks.{flatten, pairs_from}
use Rattle.prelude.specs.Written.{written}
use Rattle.request.specs.declared.Request.{Request}
use Rattle.formula_clauses.specs.declared.store.BlockSizes.{BlockSizes}
use Rattle.formula_clauses.specs.Block.{block_formula}
use Rattle.formula_clauses.specs.Store.{signs, block_refusal, block_sizes}
use Rattle.formula_clauses.specs.Store.Laws.{none_taken, request_refused, room_refused, room_taken, block_number, block_values, formula_room, formula_counted, block_stored, block_left}
use Rattle.formula_clauses.proofs.store.store_block.Goals as goal

-- the block's sizes
abbrev sizes : Request → ℕ → BlockSizes
sizes q b = record { clauses = length (block_formula q b); literals = length (flatten (block_formula q b)) }

-- the number and the values of the answer
answered : (q : Request) (b literals pairs : ℕ) (x : Result BlockSizes Refusal) → x ≡ block_sizes q b literals pairs
    → (number_of x ≡ block_refusal q b literals pairs)
    × IfOk x (λ s. (s.clauses ≡ length (block_formula q b)) × (s.literals ≡ length (flatten (block_formula q b))))
answered q b literals pairs x e = (ap number_of e ∙ block_number q b literals pairs, block_values q b literals pairs x e)

pub returns-in_err-good : goal.returns-in_err-good
unfolding block_sizes
returns-in_err-good c =
    let q = c.args.q in
    let s = sizes q c.args.b in
    let p = err_from_is_err_and c.from_residual.result c.from_residual.ensures.1 in
    let r = request_refused q s.literals s.clauses (length c.args.literals.now) (length c.args.pairs.now) s _ c.in_err-good.ensures.number in
    let w = block_left q c.args.b c.args.literals.now c.args.pairs.now r.1 in
    let a = answered q c.args.b (length c.args.literals.now) (length c.args.pairs.now) _ r.0 in
    rw (p.1, p.2) (record { answer = r.0; number = a.0; values = a.1; literals = w.0; pairs = w.1 })

pub returns-in_err-room : goal.returns-in_err-room
unfolding block_sizes
returns-in_err-room c =
    let q = c.in_ok-good.good.request in
    let s = sizes q c.args.b in
    let z = rw (← c.in_ok-good.ensures.request) at c.in_ok-good.ensures.number in
    let p = err_from_is_err_and c.from_residual-in_err-room.result c.from_residual-in_err-room.ensures.1 in
    let n = formula_counted q c.args.b _ c.block_there-block.ensures.0 in
    let h = rw (c.block_count-clauses.ensures.0 ∙ n.0, c.block_literals-size.ensures.0 ∙ n.1) at c.in_err-room.ensures in
    let r = room_refused q s.literals s.clauses (length c.args.literals.now) (length c.args.pairs.now) s _ z h in
    let w = block_left q c.args.b c.args.literals.now c.args.pairs.now r.1 in
    let a = answered q c.args.b (length c.args.literals.now) (length c.args.pairs.now) _ r.0 in
    rw (p.1, p.2, ← c.in_ok-good.ensures.request) (record { answer = r.0; number = a.0; values = a.1; literals = w.0; pairs = w.1 })

pub fill_block-requires : goal.fill_block-requires
fill_block-requires c =
    let q = c.in_ok-good.good.request in
    let s = sizes q c.args.b in
    let z = rw (← c.in_ok-good.ensures.request) at c.in_ok-good.ensures.number in
    let is = c.block_there-block.ensures in
    let n = formula_counted q c.args.b _ is.0 in
    let clauses = c.block_count-clauses.ensures.0 ∙ n.0 in
    let literals = c.block_literals-size.ensures.0 ∙ n.1 in
    let h = rw (clauses, literals) at c.in_ok-room.ensures in
    let t = none_taken _ _ _ _ _ (room_taken q s.literals s.clauses (length c.args.literals.now) (length c.args.pairs.now) s z h).0 in
    record {
      count = clauses ∙ sym (ap length is.0);
      room =
          formula_room q c.args.b (length c.args.literals.now) (length c.args.pairs.now) c.in_ok-good.good.good is.0 is.1 (omega arith) (omega arith) t.literals_long
          t.pairs_long;
    }

pub returns : goal.returns
unfolding block_sizes
returns c =
    let q = c.in_ok-good.good.request in
    let s = sizes q c.args.b in
    let z = rw (← c.in_ok-good.ensures.request) at c.in_ok-good.ensures.number in
    let is = c.block_there-block.ensures in
    let n = formula_counted q c.args.b _ is.0 in
    let clauses = c.block_count-clauses.ensures.0 ∙ n.0 in
    let literals = c.block_literals-size.ensures.0 ∙ n.1 in
    let h = rw (clauses, literals) at c.in_ok-room.ensures in
    let r = room_taken q s.literals s.clauses (length c.args.literals.now) (length c.args.pairs.now) s z h in
    let w = block_stored q c.args.b c.args.literals.now c.args.pairs.now r.0 in
    let a = answered q c.args.b (length c.args.literals.now) (length c.args.pairs.now) _ r.1 in
    rw (← c.in_ok-good.ensures.request, clauses, literals) (record {
      answer = r.1;
      number = a.0;
      values = a.1;
      literals = c.fill_block.ensures.literals ∙ ap (λ (F : Formula). written c.args.literals.now 0 (signs (flatten F))) is.0 ∙ w.0;
      pairs = c.fill_block.ensures.pairs ∙ ap (λ (F : Formula). written c.args.pairs.now 0 (pairs_from 0 F)) is.0 ∙ w.1;
    })
