-- `write::put_head` meets its contract: "p cnf ", V, a space, C and the newline are written one after the other. Assumes nothing.
use Rattle.dimacs.proofs.FileLaws.{head_name, head_first, head_space, head_second, head_newline, head_all}
use Rattle.dimacs.proofs.write.put_head.Goals as goal

pub put_word-requires : goal.put_word-requires
put_word-requires c = head_name c.args.variables c.args.clauses c.args.out.now c.requires

pub put_decimal-requires : goal.put_decimal-requires
put_decimal-requires c = head_first c.args.variables c.args.clauses c.args.out.now c.requires c.put_word.ensures

pub put-requires : goal.put-requires
put-requires c = head_space c.args.variables c.args.clauses c.args.out.now c.requires c.put_word.ensures c.put_decimal.ensures

pub put_decimal-requires-2 : goal.put_decimal-requires-2
put_decimal-requires-2 c = head_second c.args.variables c.args.clauses c.args.out.now c.requires c.put_word.ensures c.put_decimal.ensures c.put.ensures

pub put-requires-2 : goal.put-requires-2
put-requires-2 c = head_newline c.args.variables c.args.clauses c.args.out.now c.requires c.put_word.ensures c.put_decimal.ensures c.put.ensures c.put_decimal-2.ensures

pub returns : goal.returns
returns c = head_all c.args.variables c.args.clauses c.args.out.now c.requires c.put_word.ensures c.put_decimal.ensures c.put.ensures c.put_decimal-2.ensures c.put-2.ensures
