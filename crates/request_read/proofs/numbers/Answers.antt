-- `request_read::numbers` meets its contract. Each return is one law of the numbers, from what the calls before it ensure of the
-- runs. Assumes nothing.
use Rattle.std.proofs.Common.{◌+◌, ◌∙◌, refl, sym, arith}
use Rattle.std.proofs.lemmas.Result.{err_from_is_err_and}
use Rattle.request.proofs.LineLaws.{numbers_low, numbers_high, numbers_table, numbers_r, numbers_m, numbers_good, table_length}
use Rattle.request.specs.Numbers.{inputs_most, switches_most, series_most}
use Rattle.request.proofs.NumbersLaws.{rows_high}
use Rattle.request_read.specs.Field.Laws.{within_ok}
use Rattle.request_read.specs.Part.{part_table, part_marked, part_err, part_ok}
use Rattle.request_read.proofs.numbers.Goals as goal

pub returns-in_err-n : goal.returns-in_err-n
returns-in_err-n x s a b c d k =
    let p = err_from_is_err_and x.from_residual.result x.from_residual.ensures.1 in
    let e = part_err s 0 a (omega arith) inputs_most _ _ (rw k.is_n at x.in_err-n.ensures) in
    rw (p.1, p.2, e.1) (sym (numbers_high _ _ _ _ _ _ refl e.0))

pub returns-then-n-lt1 : goal.returns-then-n-lt1
returns-then-n-lt1 x s a b c d k =
    let n = part_ok s 0 a (omega arith) inputs_most _ _ (rw k.is_n at x.in_ok-n.ensures) in
    sym (numbers_low _ _ _ _ _ _ n.0 (omega arith))

pub returns-then-not-is_table : goal.returns-then-not-is_table
returns-then-not-is_table x s a b c d k =
    let n = part_ok s 0 a (omega arith) inputs_most _ _ (rw k.is_n at x.in_ok-n.ensures) in
    let t = sym (part_table s (a + 1) b (omega arith) x.in_ok-n.n) ∙ sym (rw k.is_table at x.is_table.ensures) ∙ x.if-not-is_table.true in
    sym (numbers_table _ _ _ _ _ _ n.0 (omega arith) n.1 t)

pub returns-in_err-r : goal.returns-in_err-r
returns-in_err-r x s a b c d k =
    let p = err_from_is_err_and x.from_residual-in_err-r.result x.from_residual-in_err-r.ensures.1 in
    let n = part_ok s 0 a (omega arith) inputs_most _ _ (rw k.is_n at x.in_ok-n.ensures) in
    let t = sym (part_table s (a + 1) b (omega arith) x.in_ok-n.n) ∙ sym (rw k.is_table at x.is_table.ensures) ∙ x.if-not-is_table.false in
    let e = part_err s (b + 1) c (omega arith) switches_most _ _ (rw k.is_r at x.in_err-r.ensures) in
    rw (p.1, p.2, e.1) (sym (numbers_r _ _ _ _ _ _ n.0 (omega arith) n.1 t _ refl e.0))

pub returns-in_err-m : goal.returns-in_err-m
returns-in_err-m x s a b c d k =
    let p = err_from_is_err_and x.from_residual-in_err-m.result x.from_residual-in_err-m.ensures.1 in
    let n = part_ok s 0 a (omega arith) inputs_most _ _ (rw k.is_n at x.in_ok-n.ensures) in
    let t = sym (part_table s (a + 1) b (omega arith) x.in_ok-n.n) ∙ sym (rw k.is_table at x.is_table.ensures) ∙ x.if-not-is_table.false in
    let r = part_ok s (b + 1) c (omega arith) switches_most _ _ (rw k.is_r at x.in_ok-r.ensures) in
    let e = part_err s (c + 1) d (omega arith) series_most _ _ (rw k.is_m at x.in_err-m.ensures) in
    rw (p.1, p.2, e.1) (sym (numbers_m _ _ _ _ _ _ n.0 (omega arith) n.1 t _ r.0 r.1 _ refl e.0))

pub rows_marked-requires : goal.rows_marked-requires
rows_marked-requires x =
    let n = within_ok _ inputs_most _ _ x.in_ok-n.ensures in
    omega (arith, table_length _ _ _ _ (sym x.is_table.ensures ∙ x.if-not-is_table.false), rows_high x.in_ok-n.n n.1)

pub rows_marked-requires-2 : goal.rows_marked-requires-2
rows_marked-requires-2 x =
    let n = within_ok _ inputs_most _ _ x.in_ok-n.ensures in
    omega (arith, table_length _ _ _ _ (sym x.is_table.ensures ∙ x.if-not-is_table.false), rows_high x.in_ok-n.n n.1)

pub returns : goal.returns
returns x s a b c d k =
    let n = part_ok s 0 a (omega arith) inputs_most _ _ (rw k.is_n at x.in_ok-n.ensures) in
    let t = sym (part_table s (a + 1) b (omega arith) x.in_ok-n.n) ∙ sym (rw k.is_table at x.is_table.ensures) ∙ x.if-not-is_table.false in
    let r = part_ok s (b + 1) c (omega arith) switches_most _ _ (rw k.is_r at x.in_ok-r.ensures) in
    let m = part_ok s (c + 1) d (omega arith) series_most _ _ (rw k.is_m at x.in_ok-m.ensures) in
    sym (numbers_good _ _ _ _ _ _ n.0 (omega arith) n.1 t _ r.0 r.1 _ m.0 m.1
    _ ((rw k.is_table at x.rows_marked.ensures) ∙ part_marked s (a + 1) b (omega arith) 49)
    _ ((rw k.is_table at x.rows_marked-2.ensures) ∙ part_marked s (a + 1) b (omega arith) 45))
