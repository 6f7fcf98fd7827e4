-- Each switch has the same number of clauses, so the quotient is the switch; the remainder is 0 at the long clause, and one more
-- than the number of a pair elsewhere. Assumes nothing.
use Rattle.cnf.specs.Cnf.{neg}
use Rattle.formula.specs.Formula.Groups.{choice_switch, choice_long_is, choice_pair_is}
use Rattle.formula.specs.Clause.{run}
use Rattle.formula.proofs.ClauseLaws.{negative_is}
use mathlib.Core.Path.{ap, ◌∙◌}
use Prim.Native.Nat.{ℕ, ◌+◌, ◌*◌}
use native.Mathlib.Omega.{arith}
use Rattle.formula_clauses.proofs.groups.choice_at.Goals as goal

pub overflow_cast-s : goal.overflow_cast-s
overflow_cast-s c =
    let z = c.choice_count-count in
    let l = choice_switch c.args.n (2 * c.args.r + 2) c.args.r c.args.number z.result z.ensures.0 c.requires.1 in
    omega arith

pub returns-then-part-eq0 : goal.returns-then-part-eq0
returns-then-part-eq0 c =
    let a = c.args in
    let z = c.choice_count-count in (
      choice_long_is a.n (2 * a.r + 2) a.r a.number z.result c.chosen.result z.ensures.0 c.requires.1 c.if-part-eq0.true
          (ap (λ (x : ℕ). run x (2 * a.n)) c.chosen.ensures),
      λ e. absurd (omega arith),
    )

pub returns : goal.returns
returns c =
    let a = c.args in
    let z = c.choice_count-count in (
      choice_pair_is a.n (2 * a.r + 2) a.r a.number z.result c.pair_at-p.result.v c.pair_at-p.result.w _ _
          z.ensures.0 c.requires.1 (omega arith) c.pair_at-p.ensures
          (c.negative.ensures ∙ ap neg c.chosen-2.ensures)
          (c.negative-2.ensures ∙ ap neg c.chosen-3.ensures),
      negative_is c.negative.ensures,
    )
