-- `request_read::one_digit` meets its contract: one character less 48 is its digit, and a run of another length counts as 10. Assumes nothing.
use Rattle.std.proofs.Common.{length, sym, arith}
use Rattle.request.proofs.LineLaws.{single_long, single_one}
use Rattle.request_read.specs.Field.Laws.{within_above, within_low}
use Rattle.request_read.proofs.one_digit.Goals as goal

pub returns-in_default : goal.returns-in_default
returns-in_default c =
    let a = c.args in
    let e = single_long a.run.now 0 (length a.run.now) (λ e. omega arith) in
    sym (within_above _ a.most a.refusal (omega arith))

pub returns-in_default-2 : goal.returns-in_default-2
returns-in_default-2 c =
    let a = c.args in
    let e = single_long a.run.now 0 (length a.run.now) (λ e. omega arith) in
    sym (within_above _ a.most a.refusal (omega arith))

pub returns-then-most-digit : goal.returns-then-most-digit
returns-then-most-digit c =
    let a = c.args in
    let e = single_one a.run.now 0 (length a.run.now) (omega arith) in
    sym (within_above _ a.most a.refusal (omega arith))

pub returns-else-most-digit : goal.returns-else-most-digit
returns-else-most-digit c =
    let a = c.args in
    let e = single_one a.run.now 0 (length a.run.now) (omega arith) in
    rw (c.saturating_sub-digit.ensures, ← e) (sym (within_low _ a.most a.refusal (omega arith)))
