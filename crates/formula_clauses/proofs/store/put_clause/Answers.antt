-- The literals of each form of clause are the clause's literals; a run has as many as there are entries. Assumes nothing.
use Rattle.std.proofs.Common.{◌≡◌, length, sym, ap, ◌∙◌, subst}
use Rattle.formula.specs.Clause.{run, Low, literals_of}
use Rattle.formula.proofs.ClauseLaws.{run_length_lem}
use Rattle.formula_clauses.specs.Store.{signs}
use Rattle.formula_clauses.proofs.store.put_clause.Goals.{After-put_run-arg-1}
use Rattle.formula_clauses.proofs.store.put_clause.Goals as goal

-- the run is the clause
is_run : (c : After-put_run-arg-1) → run c.in-Run.first (length c.args.entries.now) ≡ literals_of c.args.c
is_run c =
    let e = ap literals_of c.in-Run.is in
    let l : c.in-Run.field-1 ≡ length c.args.entries.now = sym (run_length_lem c.in-Run.first c.in-Run.field-1) ∙ sym (ap length e) ∙ c.requires.1 in
    sym (e ∙ ap (run c.in-Run.first) l)

pub put_run-requires : goal.put_run-requires
put_run-requires c = subst Low (sym (is_run c)) c.requires.0

pub returns-in-Run : goal.returns-in-Run
returns-in-Run c = c.put_run.ensures ∙ ap signs (is_run (goal.at.returns-in-Run c).After-put_run-arg-1)
