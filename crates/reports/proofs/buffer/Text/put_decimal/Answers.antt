-- One, two or three digits, each a byte more. Assumes nothing.
use Rattle.std.proofs.Common.{◌≡◌, ◌/◌, ◌%◌, rules, sym, arith}
use Rattle.reports.specs.Texts.Laws.{added_then, added_as}
use Rattle.reports.specs.Reports.Laws.{digit_one, digits_two, digits_three}
use Rattle.reports.proofs.buffer.Text.put_decimal.Goals as goal

pub returns-then-x-lt10 : goal.returns-then-x-lt10
returns-then-x-lt10 c =
    let x = c.args.x in
    let z : x % 10 ≡ x = omega arith in
    added_as (rw z (sym (digit_one x (omega arith)))) (omega arith) c.put.ensures

pub returns-then-x-lt100 : goal.returns-then-x-lt100
returns-then-x-lt100 c =
    added_as (sym (digits_two c.args.x (omega arith) (omega arith))) (omega arith) (added_then c.put-then-x-lt100.ensures c.put-then-x-lt100-2.ensures)

pub returns-else-x-lt100 : goal.returns-else-x-lt100
returns-else-x-lt100 c =
    let x = c.args.x in
    let z : x / 100 ≡ x / 10 / 10 = omega arith in
    added_as (rw z (sym (digits_three x (omega arith) (search rules)))) (omega arith)
    (added_then c.put-else-x-lt100.ensures (added_then c.put-else-x-lt100-2.ensures c.put-else-x-lt100-3.ensures))
