-- Each branch is one of the definition. Assumes nothing.
use Rattle.std.proofs.Common.{◌≡◌, true, false, not, refl, sym, ap, ◌∙◌, arith}
use denote.Enum.Bare.{sameb}
use Rattle.answer.specs.contracts.Phase.{the_type}
use Rattle.answer.specs.declared.Phase.{Phase}
use Rattle.answer.specs.declared.Phase.TheVariants.{Before, Naming, After}
use Rattle.answer.proofs.ReadingLaws.{good_most, ended_phase, ended_missing, ended_fails, ended_taken}
use Rattle.answer.proofs.ReadingMeaning.{nets_hold}
use Rattle.answer.specs.Reading.{result_of, phase_number}
use Rattle.answer_read.proofs.read.judge.Goals as goal

-- the test of the phase
not_after : (p : Phase) → not (sameb the_type p After) ≡ true → phase_number p ≡ 2 → ⊥
not_after Before e z = omega arith
not_after Naming e z = omega arith
not_after After e z = cc

is_after : (p : Phase) → not (sameb the_type p After) ≡ false → phase_number p ≡ 2
is_after Before e = cc
is_after Naming e = cc
is_after After e = refl

pub returns-then-ne : goal.returns-then-ne
returns-then-ne c = ap result_of (ended_phase _ _ refl (not_after _ (sym c.ne.ensures ∙ c.if-ne.true)))

pub all_named-requires : goal.all_named-requires
all_named-requires c = omega (arith, good_most _ _ c.args.good.good c.requires)

pub returns-then-not-all_named : goal.returns-then-not-all_named
returns-then-not-all_named c =
    ap result_of (ended_missing _ _ refl (is_after _ (sym c.ne.ensures ∙ c.if-ne.false)) c.args.keep _ c.requires c.all_named.ensures c.if-not-all_named.true)

pub returns-then-not-clauses_hold : goal.returns-then-not-clauses_hold
returns-then-not-clauses_hold c =
    ap result_of (ended_fails _ _ refl (is_after _ (sym c.ne.ensures ∙ c.if-ne.false)) c.args.keep _ c.requires c.all_named.ensures c.if-not-all_named.false
    _ c.clauses_hold.ensures c.if-not-clauses_hold.true)

pub decode-requires : goal.decode-requires
decode-requires c = nets_hold _ _ c.args.good.good (sym c.clauses_hold.ensures ∙ c.if-not-clauses_hold.false)

pub returns : goal.returns
returns c =
    ap result_of (ended_taken _ _ refl (is_after _ (sym c.ne.ensures ∙ c.if-ne.false)) c.args.keep _ c.requires c.all_named.ensures c.if-not-all_named.false
    _ c.clauses_hold.ensures c.if-not-clauses_hold.false _ c.decode.ensures)
