-- No record has the id, that of a deleted clause, or that of one that stands. Assumes nothing.
use Rattle.std.proofs.Common.{sym, ◌∙◌, arith}
use Rattle.added.proofs.RecordLaws.{with_less}
use Rattle.lrat.proofs.StateLaws.{stands_nowhere, stands_deleted}
use Rattle.lrat_check.proofs.clause.Clauses.standing.Goals as goal

pub returns-in_err-k : goal.returns-in_err-k
returns-in_err-k c = rw c.from_residual.ensures (stands_nowhere _ _ _ _ c.requires c.in_err-k.ensures)

pub length-requires : goal.length-requires
length-requires c = omega (arith, with_less _ _ _ _ c.in_ok-k.ensures, c.args.self.additions.room)

pub returns-then-length-eq0 : goal.returns-then-length-eq0
returns-then-length-eq0 c = stands_deleted _ _ _ _ c.requires _ c.in_ok-k.ensures (sym c.length.ensures ∙ c.if-length-eq0.true)

pub returns : goal.returns
returns c = record { found = c.in_ok-k.ensures; long = λ z. c.if-length-eq0.false (c.length.ensures ∙ z) }
