-- `write::put_block` meets its contract: the lines of the clauses before the index are written. Assumes nothing.
use Rattle.dimacs.specs.Block.{block_text}
use Rattle.dimacs.specs.Cursor.{Puts}
use Rattle.dimacs.proofs.write.put_block.Given as goal

abbrev pub invariant-loop-k : goal.invariant-loop-k
invariant-loop-k l = Puts l.fn.out (block_text l.k l.literals l.pairs) l.out
