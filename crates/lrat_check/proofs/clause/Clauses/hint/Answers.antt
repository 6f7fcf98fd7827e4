-- By what is found of its clause. Assumes nothing.
use Rattle.std.proofs.Common.{refl, sym, ◌∙◌, arith}
use Rattle.lrat.proofs.StateLaws.{formula_in_length, clause_below, found_below, hint_gone, hint_conflict, hint_other, hint_unset}
use Rattle.lrat_check.proofs.clause.Clauses.hint.Goals as goal

pub returns-in_default-clause-after : goal.returns-in_default-clause-after
returns-in_default-clause-after c =
    let s = c.args.self.store in
    hint_gone _ _ _ _ _ _ _ c.requires.during_line _ refl (rw (formula_in_length s.count s.literals.now s.pairs.now) c.in_default.ensures)

pub bounds-values-variable : goal.bounds-values-variable
bounds-values-variable c =
    let s = c.args.self in
    let e = c.in-Some.ensures in
    let b = found_below _ _ _ _ _ _ (clause_below _ _ _ _ _ _ _ _ s.store.originals s.additions e.0) (sym c.in-Unset.is ∙ e.1) in
    omega (arith, b, c.requires.values_len)

pub returns-in-AllFalse-clause-after : goal.returns-in-AllFalse-clause-after
returns-in-AllFalse-clause-after c =
    let s = c.args.self.store in
    let e = c.in-Some.ensures in
    hint_conflict _ _ _ _ _ _ _ c.requires.during_line
    (rw (formula_in_length s.count s.literals.now s.pairs.now) e.0) _ e.1 _ refl c.in-AllFalse.is

pub returns-in-Other-clause-after : goal.returns-in-Other-clause-after
returns-in-Other-clause-after c =
    let s = c.args.self.store in
    let e = c.in-Some.ensures in
    hint_other _ _ _ _ _ _ _ c.requires.during_line
    (rw (formula_in_length s.count s.literals.now s.pairs.now) e.0) _ e.1 _ refl c.in-Other.is

pub returns-in-Unset-clause-after : goal.returns-in-Unset-clause-after
returns-in-Unset-clause-after c =
    let s = c.args.self in
    let e = c.in-Some.ensures in
    let b = found_below _ _ _ _ _ _ (clause_below _ _ _ _ _ _ _ _ s.store.originals s.additions e.0) (sym c.in-Unset.is ∙ e.1) in
    let h = hint_unset _ _ _ _ _ _ _ c.requires.during_line
    (rw (formula_in_length s.store.count s.store.literals.now s.store.pairs.now) e.0) _ e.1 _ refl _ _ c.in-Unset.is (omega (arith, b, c.requires.values_len)) in
    rw c.of.ensures h
