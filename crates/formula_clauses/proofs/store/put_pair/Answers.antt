-- Two stores beside each other are the list of the two numbers written there. Assumes nothing.
use Prim.Native.Nat.{◌*◌}
use Rattle.prelude.specs.Written.Laws.{written_two}
use Rattle.formula_clauses.proofs.store.put_pair.Goals as goal

pub returns : goal.returns
returns c = written_two c.args.pairs.now (2 * c.args.k) c.args.offset c.args.count c.requires
