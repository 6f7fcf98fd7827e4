-- The line's form is that of the numbers from p on; each number ends past p and inside the text, so the rest of the text gets shorter.
-- Assumes nothing.
use Rattle.std.proofs.Common.{◌≡◌, Bool, List, ℕ, ◌+◌, ◌≤◌, ◌<◌, Some, None, length, refl, sym, ◌∙◌, arith}
use borrow.Author.Tests.{ne_eqb}
use lib.Dec.{eqb}
use Rattle.numeral.specs.Number.{byte_at, literal_at}
use Rattle.numeral.specs.Number.Words.{Is, word_of, literal_word, none_read}
use Rattle.numeral.specs.declared.Word.{Word}
use Rattle.answer.specs.Lines.{formed, no_form, some_form, form_from}
use Rattle.answer.specs.Lines.Laws.{form_other, form_first, form_unspaced, form_wordless, form_ends, form_last, form_zero, form_more}
use Rattle.answer.specs.declared.Form.{Form}
use Rattle.answer_read.proofs.lines.v_form.Goals as goal

-- no form, and a form
no : {f : Form} → f ≡ no_form → None ≡ some_form f
no e = rw e refl

some : {f : Form} (n : ℕ) (last : Bool) → f ≡ formed (n + 1) last → Some (formed (n + 1) last) ≡ some_form f
some n last e = rw (e, ne_eqb (n + 1) 0 (λ z. omega arith)) refl

-- a number after a space at p
module _ (t : List ℕ) (p : ℕ) (space : 32 ≡ byte_at t p) where
  wordless : None ≡ word_of (literal_at t (p + 1)) → form_from (length t) t p ≡ no_form
  wordless e = form_wordless t p _ refl (sym space) (none_read _ e)

  module _ (w : Word) (read : Some w ≡ word_of (literal_at t (p + 1))) where
    is : Is (literal_at t (p + 1)) w
    is = literal_word t (p + 1) w read

    ends : (p < w.next) × (w.next ≤ length t)
    ends =
        let e = form_ends t p _ (sym is.read) (sym space) is.there in
        (omega (arith, e.low), e.high)

    last : byte_at t w.next ≡ 10 → form_from (length t) t p ≡ formed (w.next + 1) (eqb w.value 0)
    last e = form_last t p _ (sym is.read) (sym space) is.there e

    module _ (longer : byte_at t w.next ≡ 10 → ⊥) where
      stopped : w.value ≡ 0 → form_from (length t) t p ≡ no_form
      stopped e = form_zero t p _ (sym is.read) (sym space) is.there longer e

      more : (w.value ≡ 0 → ⊥) → form_from (length t) t p ≡ form_from (length t) t w.next
      more e = form_more t p _ (sym is.read) (sym space) is.there longer e

pub returns-then-byte-ne118-clause-form : goal.returns-then-byte-ne118-clause-form
returns-then-byte-ne118-clause-form c = no (sym (form_other _ _ (λ e. c.if-byte-ne118.true (c.byte.ensures ∙ e))))

pub loop-at-init : goal.loop-at-init
loop-at-init c = record { past = omega arith; left = form_first _ _ (sym c.byte.ensures ∙ c.if-byte-ne118.false) }

pub returns-then-byte-ne32-clause-form : goal.returns-then-byte-ne32-clause-form
returns-then-byte-ne32-clause-form c =
    no (c.loop-at.invariant.left ∙ form_unspaced _ _ (λ e. c.if-byte-ne32.true (c.byte-in-loop-at.ensures ∙ e)))

pub returns-in_err-w-clause-form : goal.returns-in_err-w-clause-form
returns-in_err-w-clause-form c =
    rw c.from_residual.ensures
    (no (c.loop-at.invariant.left ∙ wordless _ _ (sym c.if-byte-ne32.false ∙ c.byte-in-loop-at.ensures) c.in_err-w.ensures))

pub returns-then-byte-eq10 : goal.returns-then-byte-eq10
returns-then-byte-eq10 c =
    let space = sym c.if-byte-ne32.false ∙ c.byte-in-loop-at.ensures in
    let e = ends _ _ space c.in_ok-w.w c.in_ok-w.ensures in
    record {
      form = some _ _ (c.loop-at.invariant.left ∙ last _ _ space c.in_ok-w.w c.in_ok-w.ensures (sym c.byte-in-loop-at-2.ensures ∙ c.if-byte-eq10.true));
      further = omega (arith, e.0, c.loop-at.invariant.past);
    }

pub returns-then-w-eq0-clause-form : goal.returns-then-w-eq0-clause-form
returns-then-w-eq0-clause-form c =
    no (c.loop-at.invariant.left
    ∙ stopped _ _ (sym c.if-byte-ne32.false ∙ c.byte-in-loop-at.ensures) c.in_ok-w.w c.in_ok-w.ensures
    (λ e. c.if-byte-eq10.false (c.byte-in-loop-at-2.ensures ∙ e)) c.if-w-eq0.true)

pub loop-at-smaller : goal.loop-at-smaller
loop-at-smaller c =
    let e = ends _ _ (sym c.if-byte-ne32.false ∙ c.byte-in-loop-at.ensures) c.in_ok-w.w c.in_ok-w.ensures in
    omega (arith, e.0, e.1)

pub loop-at-preserved : goal.loop-at-preserved
loop-at-preserved c =
    let space = sym c.if-byte-ne32.false ∙ c.byte-in-loop-at.ensures in
    let e = ends _ _ space c.in_ok-w.w c.in_ok-w.ensures in
    record {
      past = omega (arith, e.0, c.loop-at.invariant.past);
      left = c.loop-at.invariant.left
          ∙ more _ _ space c.in_ok-w.w c.in_ok-w.ensures (λ z. c.if-byte-eq10.false (c.byte-in-loop-at-2.ensures ∙ z)) c.if-w-eq0.false;
    }
