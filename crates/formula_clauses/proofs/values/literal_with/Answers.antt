-- Of the 2n literals n have the value, so the number is reached before the end. Assumes nothing.
use Rattle.std.proofs.Common.{◌≡◌, ℕ, ◌-◌, ◌*◌, sym, ap, ◌∙◌, arith, eq-eqb, ne_eqb}
use Rattle.rows.specs.Rows.{bit}
use Rattle.formula.specs.Values.{count_below, has_value}
use Rattle.formula.specs.Values.Laws.{count_none, count_yes, count_no, half_count}
use Rattle.formula_clauses.specs.Word.{word_bit}
use Rattle.formula_clauses.proofs.values.literal_with.Goals.{then-word-n-eq1+else-rest-eq0, else-word-n-eq1}
use Rattle.formula_clauses.proofs.values.literal_with.Goals as goal

pub loop-v-init : goal.loop-v-init
loop-v-init c = let a = c.args in omega (arith, count_none (has_value a.row.n a.row.k a.value))

pub returns-then-rest-eq0 : goal.returns-then-rest-eq0
returns-then-rest-eq0 c =
    let a = c.args in
    let l = c.loop-v in
    let tested : bit c.value_word-word.result (2 * a.row.n - 1 - l.v) ≡ has_value a.row.n a.row.k a.value l.v =
    ap (λ (x : ℕ). bit x (2 * a.row.n - 1 - l.v)) c.value_word-word.ensures ∙ word_bit a.row.n a.row.k l.v a.value (omega arith) a.row.there in
    record { low = omega arith; holds = sym tested ∙ eq-eqb _ 1 c.if-word-n-eq1.true; place = omega arith }

pub loop-v-preserved : goal.loop-v-preserved
loop-v-preserved c =
    let a = c.args in
    let l = c.loop-v in
    let tested : bit c.value_word-word.result (2 * a.row.n - 1 - l.v) ≡ has_value a.row.n a.row.k a.value l.v =
    ap (λ (x : ℕ). bit x (2 * a.row.n - 1 - l.v)) c.value_word-word.ensures ∙ word_bit a.row.n a.row.k l.v a.value (omega arith) a.row.there in
    elim c.if-word-n-eq1.branch [
      | then-word-n-eq1+else-rest-eq0 w ↦ omega (arith, count_yes (has_value a.row.n a.row.k a.value) l.v (sym tested ∙ eq-eqb _ 1 w.if-word-n-eq1.true))
      | else-word-n-eq1 w ↦ omega (arith, count_no (has_value a.row.n a.row.k a.value) l.v (sym tested ∙ ne_eqb _ 1 w.if-word-n-eq1.false))
    ]

pub unreachable-requires : goal.unreachable-requires
unreachable-requires c =
    let a = c.args in
    let e : c.loop-v.v ≡ 2 * a.row.n = omega arith in
    omega (arith, half_count a.row.n a.row.k a.value, c.loop-v.invariant, ap (count_below (has_value a.row.n a.row.k a.value)) e)
