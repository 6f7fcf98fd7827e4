-- A run has as many literals as variables. Assumes nothing.
use Rattle.std.proofs.Common.{sym, ap, ◌∙◌, length}
use Rattle.formula.specs.Clause.{literals_of}
use Rattle.formula.proofs.ClauseLaws.{run_length_lem}
use Rattle.formula_clauses.proofs.store.clause_size.Goals as goal

pub returns-in-Run : goal.returns-in-Run
returns-in-Run c = sym (run_length_lem c.in-Run.field-0 c.in-Run.count) ∙ ap (λ x. length (literals_of x)) (sym c.in-Run.is)
