-- The tests are those of the definition. Assumes nothing.
use Rattle.std.proofs.Common.{refl, arith}
use Rattle.formula_clauses.specs.Store.Laws.{room_literals, room_pairs, room_none}
use Rattle.formula_clauses.proofs.store.room.Goals as goal

pub returns-then-literals-needed : goal.returns-then-literals-needed
returns-then-literals-needed c = rw (room_literals 0 c.args.needed c.args.clauses c.args.literals c.args.pairs refl (omega arith))

pub returns-then-pairs-clauses : goal.returns-then-pairs-clauses
returns-then-pairs-clauses c =
    rw (room_pairs 0 c.args.needed c.args.clauses c.args.literals c.args.pairs refl (omega arith) (omega arith))

pub returns : goal.returns
returns c = rw (room_none 0 c.args.needed c.args.clauses c.args.literals c.args.pairs refl (omega arith) (omega arith))
