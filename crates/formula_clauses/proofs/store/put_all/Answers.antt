-- One literal more is one literal written on; at the end all entries are written. Assumes nothing.
use Rattle.std.proofs.Common.{◌≡◌, refl, ◌<◌, List, length, get_or, take, sym, ap, ◌∙◌, arith, length-take, take_all}
use Rattle.std.proofs.lemmas.List.{take_more}
use mir.Syntax.{w32}
use mir.Facts.{to_z-of_z}
use borrow.Author.Rules.{sfits_of}
use Rattle.prelude.specs.Written.{written}
use Rattle.prelude.specs.Written.Laws.{written_none}
use Rattle.cnf.specs.declared.Literal.{Literal}
use Rattle.formula_clauses.specs.Store.{signs}
use Rattle.formula_clauses.specs.Store.Laws.{written_all, signs_length, signs_last}
use Rattle.formula_clauses.proofs.store.put_all.Goals as goal

pub loop-i-init : goal.loop-i-init
loop-i-init c = sym (written_none _ _)

pub loop-i-preserved : goal.loop-i-preserved
loop-i-preserved c =
    let these = c.args.these.now in
    let i = c.loop-i.i in
    let h : i < length these = omega (arith, c.requires.1, c.loop-i-test.true) in
    let l : length (take i these) ≡ i = simp length-take (omega arith) in
    signs_last _ _ _ i (take i these) (get_or these i _) _ (sym l) c.loop-i-test.true
    (to_z-of_z {w = w32} (sfits_of {w = w32} c.signed.type_inv) ∙ c.signed.ensures) c.loop-i.invariant refl
    ∙ ap (λ (x : List Literal). written c.args.entries.now 0 (signs x)) (sym (take_more these i _ h))

pub returns : goal.returns
returns c =
    let these = c.args.these.now in
    let e = take_all c.loop-i.i these (omega (arith, c.requires.1)) in
    c.loop-i.invariant ∙ ap (λ (x : List Literal). written c.args.entries.now 0 (signs x)) e
    ∙ written_all _ _ (signs_length these ∙ c.requires.1)
