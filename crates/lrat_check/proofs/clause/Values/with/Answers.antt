-- By the literal's byte. Assumes nothing.
use Rattle.std.proofs.Common.{sym, ◌∙◌, inl, inr, arith}
use Rattle.lrat.proofs.BytesScan.{with_false, with_true, with_first, with_second}
use Rattle.lrat_check.proofs.clause.Values.with.Goals as goal

pub returns-then-byte-of : goal.returns-then-byte-of
returns-then-byte-of c = with_false _ _ _ _ _ (c.if-byte-of.true ∙ c.of.ensures)

pub returns-then-self-byte : goal.returns-then-self-byte
returns-then-self-byte c =
    with_true _ _ _ _ _ (λ e. c.if-byte-of.false (e ∙ sym c.of.ensures)) c.if-self-byte.true c.args.self.during_line

pub returns-in-AllFalse : goal.returns-in-AllFalse
returns-in-AllFalse c = with_first _ _ _ _ _ (omega arith) c.in-AllFalse.is

pub returns-in-Unset : goal.returns-in-Unset
returns-in-Unset c =
    with_second _ _ _ _ _ (omega arith) (elim c.in-Unset.is [ inl w ↦ (λ e. let u = w.2 in cc) | inr u ↦ (λ e. cc) ])
