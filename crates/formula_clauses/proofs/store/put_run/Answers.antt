-- One literal more is one literal written on; at the end all entries are written. Assumes nothing.
use Rattle.std.proofs.Common.{◌≡◌, refl, ℕ, ◌+◌, ◌≤◌, ◌<◌, length, sym, ap, ◌∙◌, subst, arith}
use mathlib.Core.List.{List}
use mir.Syntax.{w32}
use mir.Facts.{to_z-of_z}
use borrow.Author.Rules.{sfits_of}
use Rattle.prelude.specs.Written.{written}
use Rattle.prelude.specs.Written.Laws.{written_none}
use Rattle.cnf.specs.Cnf.{pos, signed_of}
use Rattle.cnf.specs.declared.Literal.{Literal}
use Rattle.formula.specs.Clause.{run}
use Rattle.formula.specs.Count.{variables_most}
use Rattle.formula.proofs.ClauseLaws.{run_none, run_more, run_length_lem, low_at}
use Rattle.formula_clauses.specs.Store.{signs}
use Rattle.formula_clauses.specs.Store.Laws.{written_all, signs_length, signs_last}
use Rattle.formula_clauses.proofs.store.put_run.Goals.{After-entry-1}
use Rattle.formula_clauses.proofs.store.put_run.Goals as goal

-- the next variable is one of a request
next : (c : After-entry-1) → c.args.first + c.loop-i.i ≤ variables_most
next c = low_at c.args.first (length c.args.entries.now) c.loop-i.i c.requires c.loop-i-test.true

pub loop-i-init : goal.loop-i-init
loop-i-init c = rw run_none (sym (written_none _ _))

pub overflow_cast-i : goal.overflow_cast-i
overflow_cast-i c = let l = next c in omega arith

pub overflow_add-first : goal.overflow_add-first
overflow_add-first c = let l = next c in omega arith

pub signed-requires : goal.signed-requires
signed-requires c =
    let l = next (goal.at.signed-requires c).After-entry-1 in
    subst (λ (x : Literal). x.variable < 1000000) (sym c.positive.ensures) (omega arith)

pub loop-i-preserved : goal.loop-i-preserved
loop-i-preserved c =
    let first = c.args.first in
    let i = c.loop-i.i in
    signs_last _ _ _ i (run first i) (pos (first + i)) _ (sym (run_length_lem first i)) c.loop-i-test.true
    (to_z-of_z {w = w32} (sfits_of {w = w32} c.signed.type_inv) ∙ c.signed.ensures ∙ ap signed_of c.positive.ensures) c.loop-i.invariant refl
    ∙ ap (λ (x : List Literal). written c.args.entries.now 0 (signs x)) (sym (run_more first i))

pub returns : goal.returns
returns c =
    let n = length c.args.entries.now in
    let i : c.loop-i.i ≡ n = omega arith in
    c.loop-i.invariant ∙ ap (λ (k : ℕ). written c.args.entries.now 0 (signs (run c.args.first k))) i
    ∙ written_all _ _ (signs_length (run c.args.first n) ∙ run_length_lem c.args.first n)
