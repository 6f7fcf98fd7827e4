-- The invariant: the form of the whole run, and what is said of all literals, by those that are left. Assumes nothing.
use Rattle.std.proofs.Common.{◌≡◌, refl, sym, ◌∙◌, arith, true, false, lt-ltb, leb-true, leb-false}
use Rattle.numeral.specs.Number.{byte_at}
use Rattle.numeral.specs.Number.Words.{sign_low, none_read, literal_word}
use Rattle.lrat.specs.Bytes.Laws.{reading_start, literals_unspaced, literals_wordless, literals_end, reading_high, reading_twice, reading_more}
use Rattle.lrat_check.proofs.ClauseLaws.{word_past}
use Rattle.lrat_check.proofs.literals.set_false.Goals as goal
use Rattle.lrat_check.proofs.literals.set_false.Goals.{then-variables-literal, else-variables-literal}

apart : true ≡ false → ⊥
apart e = cc

pub loop-stamp-init : goal.loop-stamp-init
loop-stamp-init c = reading_start _ _ _ _ _ c.requires.values_len c.requires.before_line

pub returns-then-byte-ne32-clause-read : goal.returns-then-byte-ne32-clause-read
returns-then-byte-ne32-clause-read c = literals_unspaced c.loop-stamp.invariant (λ e. c.if-byte-ne32.true (c.byte.ensures ∙ e)) _ refl refl

pub returns-in_err-literal-clause-read : goal.returns-in_err-literal-clause-read
returns-in_err-literal-clause-read c =
    rw c.from_residual.ensures
    (literals_wordless c.loop-stamp.invariant _ refl (sym c.byte.ensures ∙ c.if-byte-ne32.false) (none_read _ c.in_err-literal.ensures) _ refl refl)

pub returns-then-literal-eq0-clause-read : goal.returns-then-literal-eq0-clause-read
returns-then-literal-eq0-clause-read c =
    let w = literal_word _ _ _ c.in_ok-literal.ensures in
    literals_end c.loop-stamp.invariant _ (sym w.read) (sym c.byte.ensures ∙ c.if-byte-ne32.false) w.there c.if-literal-eq0.true _ refl refl refl

pub loop-stamp-smaller-then-stamp-values : goal.loop-stamp-smaller-then-stamp-values
loop-stamp-smaller-then-stamp-values c =
    let p = word_past _ _ _ (literal_word _ _ _ c.in_ok-literal.ensures) in omega (arith, p.0, p.1)

pub loop-stamp-preserved-then-stamp-values : goal.loop-stamp-preserved-then-stamp-values
loop-stamp-preserved-then-stamp-values c =
    let w = literal_word _ _ _ c.in_ok-literal.ensures in
    let space : byte_at c.args.text.now c.loop-stamp.end ≡ 32 = sym c.byte.ensures ∙ c.if-byte-ne32.false in
    elim c.if-variables-literal.branch [
      | then-variables-literal b ↦ reading_high c.loop-stamp.invariant _ (sym w.read) space w.there c.if-literal-eq0.false b.if-variables-literal.true
      | else-variables-literal b ↦ reading_twice c.loop-stamp.invariant _ (sym w.read) space w.there c.if-literal-eq0.false (leb-true _ _ (sym b.value-is ∙ c.if-stamp-values.true))
    ]

pub loop-stamp-smaller : goal.loop-stamp-smaller
loop-stamp-smaller c =
    let p = word_past _ _ _ (literal_word _ _ _ c.in_ok-literal.ensures) in omega (arith, p.0, p.1)

pub loop-stamp-preserved : goal.loop-stamp-preserved
loop-stamp-preserved c =
    let w = literal_word _ _ _ c.in_ok-literal.ensures in
    let space : byte_at c.args.text.now c.loop-stamp.end ≡ 32 = sym c.byte.ensures ∙ c.if-byte-ne32.false in
    let minus = c.in_ok-literal.literal.minus in
    elim c.if-variables-literal.branch [
      | then-variables-literal b ↦ absurd (apart (sym (lt-ltb _ _ b.if-variables-literal.true) ∙ sym b.value-is ∙ c.if-stamp-values.false))
      | else-variables-literal b ↦
          rw c.of.ensures
          (reading_more c.loop-stamp.invariant _ (sym w.read) space w.there c.if-literal-eq0.false b.if-variables-literal.false
          (leb-false _ _ (sym b.value-is ∙ c.if-stamp-values.false)) (sign_low minus))
    ]
