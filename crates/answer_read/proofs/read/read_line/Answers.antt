-- Each way through is one of the definition. Assumes nothing.
use Rattle.std.specs.Prelude.{◌≡◌, ℕ, Option, Some, None, Result, Err, ◌⊎◌}
use Rattle.std.proofs.Common.{List, length, drop, length-drop, eqb, ◌≤◌, sym, ap, ◌∙◌, refl, inl, inr, arith}
use Rattle.std.specs.Option.{ok_or}
use Rattle.std.proofs.lemmas.Option.{MatchOption-at_some, MatchOption-at_none}
use Rattle.std.proofs.lemmas.Result.{err_from_is_err_and}
use borrow.Author.Tests.{eq-eqb, ne_eqb}
use Rattle.prelude.specs.Tests.{eq?}
use Rattle.prelude.specs.Lists.Laws.{first_within}
use Rattle.refusal.specs.declared.Refusal.{Refusal}
use Rattle.refusal.specs.declared.Refusal.TheVariants.{AnswerLine}
use Rattle.refusal.specs.Refusal.{number}
use Rattle.answer.specs.declared.Form.{Form}
use Rattle.answer.specs.declared.Progress.{Progress}
use Rattle.answer.specs.Lines.{line_end, some_form}
use Rattle.answer.specs.Reading.{Line, LineBy, line, phase_number}
use Rattle.answer.proofs.ReadingLaws.{step_unfinished, step_passed, step_solution, step_other, step_late, step_unformed, step_refused, step_last, step_more}
use Rattle.answer_read.proofs.read.read_line.Goals as goal

-- a line that is refused
refused : (l : Line) (r : Result ℕ Refusal) (s : Progress) (x : Refusal) → (y : Refusal) × (r ≡ Err y) × (y ≡ x) → l.refusal ≡ number x → LineBy l r s
refused l r s x p h = rw p.1 (h ∙ ap number (sym p.2))

-- what stands in a line's place where there is nothing
line_error : {A : Type 0} (o : Option A) (x : Refusal) → Err x ≡ ok_or o AnswerLine → o ≡ None → 9 ≡ number x
line_error o x e n = let h = rw n at e in let z : AnswerLine ≡ x = cc in ap number z

-- where a line has no newline it goes on to the end of the text
to_end : (t : List ℕ) (p : ℕ) → p ≤ length t → length t ≤ line_end t p → line_end t p ≡ length t
unfolding line_end
to_end t p l h = omega (arith, first_within (eqb 10) (drop p t), length-drop p t)

-- no form, and a form
no_next : (f : Form) → None ≡ some_form f → f.next ≡ 0
no_next f h = go (eq? f.next 0)
  where
    go : (f.next ≡ 0) ⊎ (f.next ≡ 0 → ⊥) → f.next ≡ 0
    go (inl e) = e
    go (inr d) = let k = rw (ne_eqb f.next 0 d) at h in cc

some_next : (f x : Form) → Some x ≡ some_form f → (x ≡ f) × (x.next ≡ 0 → ⊥)
some_next f x h = go (eq? f.next 0)
  where
    go : (f.next ≡ 0) ⊎ (f.next ≡ 0 → ⊥) → (x ≡ f) × (x.next ≡ 0 → ⊥)
    go (inl e) = let k = rw (eq-eqb f.next 0 e) at h in cc
    go (inr d) = let k = rw (ne_eqb f.next 0 d) at h in let z : x ≡ f = cc in (z, λ n. d (ap (λ (y : Form). y.next) (sym z) ∙ n))

pub returns-in_err-end-clause-step : goal.returns-in_err-end-clause-step
returns-in_err-end-clause-step c =
    let none = c.in_err-end.ensures.ok_part in
    refused _ _ _ _ (err_from_is_err_and c.from_residual.result c.from_residual.ensures.1)
    (sym (ap (λ (l : Line). l.refusal) (step_unfinished _ _ _ _ _ _ _ c.if-text-at-eq99.true refl
    (to_end _ _ (omega arith) (MatchOption-at_none _ _ none c.line_end.ensures))))
    ∙ line_error _ _ c.in_err-end.ensures.value none)

pub returns-then-text-at-eq99-clause-step : goal.returns-then-text-at-eq99-clause-step
returns-then-text-at-eq99-clause-step c =
    let m = MatchOption-at_some _ _ _ c.in_ok-end.ensures.ok_part c.line_end.ensures in
    sym (step_passed _ _ _ _ _ _ _ c.if-text-at-eq99.true m.0 (λ z. omega (arith, z, m.2)))

pub returns-then-not-solution_line-clause-step : goal.returns-then-not-solution_line-clause-step
returns-then-not-solution_line-clause-step c =
    sym (ap (λ (l : Line). l.refusal) (step_other _ _ _ _ _ _ c.if-text-at-eq99.false _ (ap phase_number c.in-Before.is) c.solution_line.ensures c.if-not-solution_line.true))

pub returns-else-not-solution_line-clause-step : goal.returns-else-not-solution_line-clause-step
returns-else-not-solution_line-clause-step c =
    sym (step_solution _ _ _ _ _ _ c.if-text-at-eq99.false _ (ap phase_number c.in-Before.is) c.solution_line.ensures c.if-not-solution_line.false)

pub returns-in_err-form-in-Naming-clause-step : goal.returns-in_err-form-in-Naming-clause-step
returns-in_err-form-in-Naming-clause-step c =
    let e = c.in_err-form-in-Naming.ensures in
    refused _ _ _ _ (err_from_is_err_and c.from_residual-in_err-form-in-Naming.result c.from_residual-in_err-form-in-Naming.ensures.1)
    (sym (ap (λ (l : Line). l.refusal) (step_unformed _ _ _ _ _ _ c.if-text-at-eq99.false (ap phase_number c.in-Naming.is) _ refl
    (no_next _ (sym e.ok_part ∙ c.v_form.ensures.form))))
    ∙ line_error _ _ e.value e.ok_part)

pub returns-in_err-take-in-Naming-clause-step : goal.returns-in_err-take-in-Naming-clause-step
returns-in_err-take-in-Naming-clause-step c =
    let b = c.in_err-take-in-Naming.ensures in
    let f = some_next _ _ (sym c.in_ok-form-in-Naming.ensures.ok_part ∙ c.v_form.ensures.form) in
    refused _ _ _ _ (err_from_is_err_and c.from_residual-in_err-take-in-Naming.result c.from_residual-in_err-take-in-Naming.ensures.1)
    (sym (ap (λ (l : Line). l.refusal) (step_refused _ _ _ _ _ _ c.if-text-at-eq99.false (ap phase_number c.in-Naming.is) _ f.0 f.1 _ refl b.0))
    ∙ ap number (sym b.1))

pub returns-then-form-clause-step : goal.returns-then-form-clause-step
returns-then-form-clause-step c =
    let f = some_next _ _ (sym c.in_ok-form-in-Naming.ensures.ok_part ∙ c.v_form.ensures.form) in
    sym (step_last _ _ _ _ _ _ c.if-text-at-eq99.false (ap phase_number c.in-Naming.is) _ f.0 f.1 _ (sym c.in_ok-take-in-Naming.ensures) refl c.if-form.true)

pub returns-else-form-clause-step : goal.returns-else-form-clause-step
returns-else-form-clause-step c =
    let f = some_next _ _ (sym c.in_ok-form-in-Naming.ensures.ok_part ∙ c.v_form.ensures.form) in
    let one : phase_number c.args.progress.now.phase ≡ 1 = ap phase_number c.in-Naming.is in
    sym (step_more _ _ _ _ _ _ c.if-text-at-eq99.false one _ f.0 f.1 _ (sym c.in_ok-take-in-Naming.ensures) refl c.if-form.false)
    ∙ ap (λ (p : ℕ). line 0 p c.take.new.values c.in_ok-form-in-Naming.form.next) (sym one)

pub returns-in-After-clause-step : goal.returns-in-After-clause-step
returns-in-After-clause-step c =
    let two : phase_number c.args.progress.now.phase ≡ 2 = ap phase_number c.in-After.is in
    sym (ap (λ (l : Line). l.refusal) (step_late _ _ _ _ _ _ c.if-text-at-eq99.false (λ z. omega (arith, z, two)) (λ z. omega (arith, z, two))))
