-- The two passes tell the form and the outcome; the tests come in document 01's order. Assumes nothing.
use Rattle.std.proofs.Common.{◌≡◌, ℕ, ℤ, List, ◌+◌, ◌<◌, length, Bool, true, false, not, refl, sym, ap, ◌∙◌, arith, Some}
use Rattle.std.proofs.lemmas.Result.{err_from_is_err_and}
use Rattle.refusal.specs.Refusal.{number_of}
use Rattle.lrat.specs.Bytes.{AfterLiterals, formula_in}
use Rattle.added.specs.Record.{fits}
use Rattle.added.proofs.RecordLaws.{fits_room}
use Rattle.lrat.specs.State.{last_id, AfterHints}
use Rattle.lrat.specs.Results.{hints_read}
use Rattle.refusal.specs.Refusal.Laws.{number_some}
use Rattle.lrat.proofs.StateLaws.{formula_in_length}
use Rattle.lrat.proofs.CheckLaws.{leaves, add_stops, refused_is, add_literals, add_hints, add_open, add_id, add_bad, add_full, add_none, add_pushed, add_not_one, add_length, add_inside}
use Rattle.lrat_check.proofs.WordLaws.{formless}
use Rattle.lrat_check.proofs.lines.addition.Goals as goal
use Rattle.lrat_check.proofs.lines.addition.Goals.{In_ok-literals, In_ok-hints, In_ok-outcome, else-not-empty-via-then-not-empty+else-not-has_room, else-not-empty-via-else-not-empty}

-- the last id over the formula that the store holds
last_is : (C : ℕ) (lits : List ℤ) (pairs : List ℕ) (a : ℕ) (added : List ℕ) → last_id (length (formula_in C lits pairs)) a added ≡ last_id C a added
last_is C lits pairs a added = ap (λ (n : ℕ). last_id n a added) (formula_in_length C lits pairs)

above : (C : ℕ) (lits : List ℤ) (pairs : List ℕ) (a : ℕ) (added : List ℕ) (id : ℕ) → last_id C a added < id → last_id (length (formula_in C lits pairs)) a added < id
above C lits pairs a added id h = omega (arith, h, last_is C lits pairs a added)

-- a clause that is not empty has room
room : (c : In_ok-outcome) → (c.in_ok-literals.literals.end ≡ c.args.at → ⊥) → true ≡ fits (c.args.a + 1) c.args.added.now
room c = elim c.else-not-empty.branch [
  | else-not-empty-via-then-not-empty+else-not-has_room w ↦ (λ d. sym w.if-not-has_room.false ∙ w.has_room.ensures)
  | else-not-empty-via-else-not-empty w ↦ (λ d. absurd (d w.if-not-empty.false))
]

good_no : (b : Bool) → not b ≡ true → b ≡ false
good_no true e = sym e
good_no false e = refl

good_yes : (b : Bool) → not b ≡ false → b ≡ true
good_yes true e = refl
good_yes false e = sym e

-- what is read of the literals, and of the hints
literals : (c : In_ok-literals)
    → AfterLiterals c.args.stamp.byte c.args.store.variables c.args.store.text.now c.args.at c.in_ok-literals.literals c.set_false.new.values
    × (c.in_ok-literals.literals.next ≡ 0 → ⊥)
literals c = let e = c.in_ok-literals.ensures.ok_part in (rw e at c.set_false.ensures.read, rw e at c.set_false.ensures.there)

hints : (c : In_ok-hints)
    → AfterHints (formula_in c.args.store.count c.args.store.literals.now c.args.store.pairs.now) c.args.store.text.now c.in_ok-literals.literals.next c.args.a c.args.added.now
    c.args.stamp.byte c.set_false.new.values (hints_read (Some c.in_ok-hints.hints)) c.hints.new.values
    × (c.in_ok-hints.hints.next ≡ 0 → ⊥)
hints c = let e = c.in_ok-hints.ensures.ok_part in (rw e at c.hints.ensures.read, rw e at c.hints.ensures.there)

pub returns-in_err-literals-clause-step : goal.returns-in_err-literals-clause-step
returns-in_err-literals-clause-step c =
    let e = c.in_err-literals.ensures in
    rw (formless (err_from_is_err_and c.from_residual.result c.from_residual.ensures.1) e.value e.ok_part)
    (leaves (add_literals _ _ _ _ _ _ _ _ _ _ (rw e.ok_part at c.set_false.ensures.read) refl) refl)

pub returns-in_err-hints-clause-step : goal.returns-in_err-hints-clause-step
returns-in_err-hints-clause-step c =
    let l = literals (goal.at.returns-in_err-hints-clause-step c).In_ok-literals in
    let e = c.in_err-hints.ensures in
    rw (formless (err_from_is_err_and c.from_residual-in_err-hints.result c.from_residual-in_err-hints.ensures.1) e.value e.ok_part)
    (leaves (add_hints _ _ _ _ _ _ _ _ _ _ l.0 l.1 _ _ (rw e.ok_part at c.hints.ensures.read) refl) refl)

pub returns-then-byte-ne10-clause-step : goal.returns-then-byte-ne10-clause-step
returns-then-byte-ne10-clause-step c =
    let l = literals (goal.at.returns-then-byte-ne10-clause-step c).In_ok-literals in
    let h = hints (goal.at.returns-then-byte-ne10-clause-step c).In_ok-hints in
    leaves (add_open _ _ _ _ _ _ _ _ _ _ l.0 l.1 _ _ h.0 h.1 (λ z. c.if-byte-ne10.true (c.byte.ensures ∙ z))) refl

pub returns-then-id-last-clause-step : goal.returns-then-id-last-clause-step
returns-then-id-last-clause-step c =
    let s = c.args.store in
    let l = literals (goal.at.returns-then-id-last-clause-step c).In_ok-literals in
    let h = hints (goal.at.returns-then-id-last-clause-step c).In_ok-hints in
    let e = last_is s.count s.literals.now s.pairs.now c.args.a c.args.added.now in
    leaves (add_id _ _ _ _ _ _ _ _ _ _ l.0 l.1 _ _ h.0 h.1 (sym c.byte.ensures ∙ c.if-byte-ne10.false) (omega (arith, e, c.last.ensures, c.if-id-last.true))) refl

pub returns-then-not-literals-clause-step : goal.returns-then-not-literals-clause-step
returns-then-not-literals-clause-step c =
    let s = c.args.store in
    let l = literals (goal.at.returns-then-not-literals-clause-step c).In_ok-literals in
    let h = hints (goal.at.returns-then-not-literals-clause-step c).In_ok-hints in
    let higher = above s.count s.literals.now s.pairs.now c.args.a c.args.added.now c.args.id (omega (arith, c.last.ensures, c.if-id-last.false)) in
    leaves (add_bad _ _ _ _ _ _ _ _ _ _ l.0 l.1 _ _ h.0 h.1 (sym c.byte.ensures ∙ c.if-byte-ne10.false) higher (good_no _ c.if-not-literals.true)) refl

pub returns-in_err-outcome-clause-step : goal.returns-in_err-outcome-clause-step
returns-in_err-outcome-clause-step c =
    let s = c.args.store in
    let l = literals (goal.at.returns-in_err-outcome-clause-step c).In_ok-literals in
    let h = hints (goal.at.returns-in_err-outcome-clause-step c).In_ok-hints in
    let closed = sym c.byte.ensures ∙ c.if-byte-ne10.false in
    let higher = above s.count s.literals.now s.pairs.now c.args.a c.args.added.now c.args.id (omega (arith, c.last.ensures, c.if-id-last.false)) in
    let code = ap number_of c.in_err-outcome.was in
    let p = err_from_is_err_and c.from_residual-in_err-outcome.result c.from_residual-in_err-outcome.ensures.1 in
    rw (p.1, p.2)
    (leaves (add_stops _ _ _ _ _ _ _ _ _ _ l.0 l.1 _ _ h.0 h.1 closed higher (good_yes _ c.if-not-literals.false) (elim c.else-not-empty.branch [
      | else-not-empty-via-then-not-empty+else-not-has_room w ↦ (λ d. sym w.if-not-has_room.false ∙ w.has_room.ensures)
      | else-not-empty-via-else-not-empty w ↦ (λ d. absurd (d w.if-not-empty.false))
    ]) (λ z. number_some _ (sym code ∙ z)))
    (refused_is _ _ _ _ c.args.added.now code (add_not_one _ _ _ _ _ _ _ _ _ _ l.0 l.1 _ _ h.0 h.1 closed higher (good_yes _ c.if-not-literals.false))))

pub returns-then-empty-clause-step : goal.returns-then-empty-clause-step
returns-then-empty-clause-step c =
    let s = c.args.store in
    let l = literals (goal.at.returns-then-empty-clause-step c).In_ok-literals in
    let h = hints (goal.at.returns-then-empty-clause-step c).In_ok-hints in
    let higher = above s.count s.literals.now s.pairs.now c.args.a c.args.added.now c.args.id (omega (arith, c.last.ensures, c.if-id-last.false)) in
    leaves (add_none _ _ _ _ _ _ _ _ _ _ l.0 l.1 _ _ h.0 h.1 (sym c.byte.ensures ∙ c.if-byte-ne10.false) higher (good_yes _ c.if-not-literals.false) c.if-empty.true (ap number_of c.in_ok-outcome.was)) refl

pub returns-then-not-has_room-clause-step : goal.returns-then-not-has_room-clause-step
returns-then-not-has_room-clause-step c =
    let s = c.args.store in
    let l = literals (goal.at.returns-then-not-has_room-clause-step c).In_ok-literals in
    let h = hints (goal.at.returns-then-not-has_room-clause-step c).In_ok-hints in
    let higher = above s.count s.literals.now s.pairs.now c.args.a c.args.added.now c.args.id (omega (arith, c.last.ensures, c.if-id-last.false)) in
    leaves (add_full _ _ _ _ _ _ _ _ _ _ l.0 l.1 _ _ h.0 h.1 (sym c.byte.ensures ∙ c.if-byte-ne10.false) higher (good_yes _ c.if-not-literals.false) c.if-not-empty.true (sym c.if-not-has_room.true ∙ c.has_room.ensures)) refl

pub overflow_add-at : goal.overflow_add-at
overflow_add-at c =
    let l = literals (goal.at.overflow_add-at c).In_ok-literals in
    let s = c.args.store in
    let i = add_inside (formula_in s.count s.literals.now s.pairs.now) _ _ c.args.a c.args.added.now c.args.id _ _ _ _ l.0 l.1 in
    omega (arith, i.0, i.1, i.2, s.text_fits)

pub overflow_cast-at : goal.overflow_cast-at
overflow_cast-at c =
    let l = literals (goal.at.overflow_cast-at c).In_ok-literals in
    let s = c.args.store in
    let i = add_inside (formula_in s.count s.literals.now s.pairs.now) _ _ c.args.a c.args.added.now c.args.id _ _ _ _ l.0 l.1 in
    omega (arith, i.0, i.1, i.2, s.text_fits)

pub overflow_add-at-2 : goal.overflow_add-at-2
overflow_add-at-2 c =
    let l = literals (goal.at.overflow_add-at-2 c).In_ok-literals in
    let s = c.args.store in
    let i = add_inside (formula_in s.count s.literals.now s.pairs.now) _ _ c.args.a c.args.added.now c.args.id _ _ _ _ l.0 l.1 in
    omega (arith, i.0, i.1, i.2, s.text_fits)

pub overflow_sub-end : goal.overflow_sub-end
overflow_sub-end c =
    let s = c.args.store in
    let l = literals (goal.at.overflow_sub-end c).In_ok-literals in
    let h = hints (goal.at.overflow_sub-end c).In_ok-hints in
    let higher = above s.count s.literals.now s.pairs.now c.args.a c.args.added.now c.args.id (omega (arith, c.last.ensures, c.if-id-last.false)) in
    let i = add_length (formula_in s.count s.literals.now s.pairs.now) _ _ c.args.a c.args.added.now c.args.id _ _ _ _ l.0 l.1 _ _ h.0 h.1 (sym c.byte.ensures ∙ c.if-byte-ne10.false) higher (good_yes _ c.if-not-literals.false) c.if-empty.false (room (goal.at.overflow_sub-end c).In_ok-outcome c.if-empty.false) in
    omega (arith, i)

pub overflow_cast-end : goal.overflow_cast-end
overflow_cast-end c =
    let l = literals (goal.at.overflow_cast-end c).In_ok-literals in
    let s = c.args.store in
    let i = add_inside (formula_in s.count s.literals.now s.pairs.now) _ _ c.args.a c.args.added.now c.args.id _ _ _ _ l.0 l.1 in
    omega (arith, i.0, i.1, i.2, s.text_fits)

pub write-requires : goal.write-requires
write-requires c = fits_room _ _ (room (goal.at.write-requires c).In_ok-outcome c.if-empty.false)

pub returns-clause-step : goal.returns-clause-step
returns-clause-step c =
    let s = c.args.store in
    let l = literals (goal.at.returns-clause-step c).In_ok-literals in
    let h = hints (goal.at.returns-clause-step c).In_ok-hints in
    let higher = above s.count s.literals.now s.pairs.now c.args.a c.args.added.now c.args.id (omega (arith, c.last.ensures, c.if-id-last.false)) in
    rw c.write.ensures (leaves (add_pushed _ _ _ _ _ _ _ _ _ _ l.0 l.1 _ _ h.0 h.1 (sym c.byte.ensures ∙ c.if-byte-ne10.false) higher (good_yes _ c.if-not-literals.false) c.if-empty.false (room (goal.at.returns-clause-step c).In_ok-outcome c.if-empty.false) (ap number_of c.in_ok-outcome.was)) refl)
