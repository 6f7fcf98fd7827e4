-- The invariant is Scanning, over the literals that are left. Assumes nothing.
use Rattle.std.proofs.Common.{◌≡◌, ◌+◌, ◌∷◌, map, drop, get_or, ℤ, pos, to_z, of_z, w32, sym, ap, ◌∙◌, subst, rules, drop_of_length-le}
use Rattle.cnf.specs.declared.Literal.{Literal}
use Rattle.lrat.specs.declared.Found.{Found}
use Rattle.lrat.specs.Bytes.{literal_from}
use Rattle.lrat.proofs.BytesScan.{Scanning, scan_end, scan_more}
use Rattle.lrat_check.proofs.ClauseLaws.{literal_is, literals_drop}
use Rattle.lrat_check.proofs.clause.evaluate_original.Goals as goal

pub loop-literal-preserved : goal.loop-literal-preserved
loop-literal-preserved c =
    let x : ℤ = get_or c.args.literals.now c.loop-literal.literal-index (pos 0) in
    let back : to_z w32 (of_z w32 x) ≡ x = search rules in
    subst (λ (f : Found). Scanning c.args.values.stamp.byte c.args.values.bytes.now (map literal_from c.args.literals.now) f (map literal_from (drop (c.loop-literal.literal-index + 1) c.args.literals.now)))
    (sym c.with-found.ensures)
    (scan_more c.loop-literal.invariant _
    (literals_drop _ _ c.loop-literal-test.true ∙ ap (λ (l : Literal). l ∷ map literal_from (drop (c.loop-literal.literal-index + 1) c.args.literals.now)) (literal_is _ _ _ _ c.unsigned_abs.ensures.value c.is_negative.ensures back)))

pub returns : goal.returns
returns c = scan_end c.loop-literal.invariant (ap (map literal_from) (drop_of_length-le c.args.literals.now c.loop-literal-test.false))
