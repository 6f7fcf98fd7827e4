-- `request_read::is_table` meets its contract: the test of each byte is that of a row. Assumes nothing.
use Rattle.std.proofs.Common.{◌^◌, ◌∙◌, rules, sym, arith, length}
use Rattle.std.proofs.lemmas.Iterator.{YieldsList-from_slice}
use Rattle.std.proofs.lemmas.Iterator.Search.{all_from_yields_List}
use borrow.Author.Tests.{tests, eq-eqb, ne_eqb}
use Rattle.request.specs.Line.{row_character}
use Rattle.request.proofs.NumbersLaws.{rows_shl}
use Rattle.request_read.specs.Part.{table_all}
use Rattle.request_read.proofs.is_table.Goals as goal

pub returns-then-run-n : goal.returns-then-run-n
returns-then-run-n c =
    let e = rows_shl c.args.n 64 (omega arith) (omega arith) in
    rw (table_all c.args.run.now c.args.n, eq-eqb (length c.args.run.now) (2 ^ c.args.n) (c.if-run-n.true ∙ e))
    (all_from_yields_List row_character _ _ _ c.all.ensures.ran (YieldsList-from_slice c.args.run.now (search rules)) (λ x b q k. search (rules, tests)))

pub returns-else-run-n : goal.returns-else-run-n
returns-else-run-n c =
    let e = rows_shl c.args.n 64 (omega arith) (omega arith) in
    rw (table_all c.args.run.now c.args.n, e, ne_eqb (length c.args.run.now) (2 ^ c.args.n) (λ h. c.if-run-n.false (h ∙ sym e)))
