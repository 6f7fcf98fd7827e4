-- "none" means that the request's formula is unsatisfiable, and that every network that does the job has more than r switches.
-- Assumes nothing.
use Rattle.std.proofs.Math.Path.{◌≡◌}
use Rattle.std.specs.Prelude.{refl, List, ℕ, length, Ok, Err}
use Rattle.std.proofs.Common.{◌∙◌, eq-eqb, ne_eqb}
use Rattle.std.proofs.Math.Logic.{⊎_elim}
use Rattle.prelude.specs.Tests.{eq?}
use Rattle.cnf.specs.Cnf.{Satisfiable}
use Rattle.request.specs.declared.Request.{Request}
use Rattle.network.specs.Least.{MoreThan}
use Rattle.formula_clauses.specs.Store.{stored_formula, stored_variables, store_refusal}
use Rattle.formula_clauses.specs.Store.Laws.{none_taken}
use Rattle.lrat.proofs.CheckLaws.{lines_number}
use Rattle.lrat.proofs.CheckSound.{none_sound}
use Rattle.lrat.specs.Outcome.{Outcome, outcome_number}
use Rattle.refusal.specs.Refusal.Laws.{number_some}
use Rattle.lrat.proofs.OutcomeLaws.{none_code}
use Rattle.encoding.proofs.Least.{unsat_least}
use Rattle.lrat_check.specs.Refutation.{Lent, refusal_before, lines_for, check_number, check_answer}

-- an outcome with the number 0 is "none"
outcome_zero : (o : Outcome) → outcome_number o ≡ 0 → o ≡ Ok tt
outcome_zero (Ok x) e = refl
outcome_zero (Err x) e = absurd (number_some x e)

module _ (q : Request) (text : List ℕ) (s : Lent) where
  -- where a check ends in "none", nothing was refused before the lines, and they ended in the code 1
  none_lines : (check_answer q text s).outcome ≡ Ok tt → (refusal_before q (length text) s ≡ 0) × ((lines_for q text s.added).code ≡ 1)
  unfolding check_answer
  none_lines e =
      ⊎_elim
      (λ (z : refusal_before q (length text) s ≡ 0).
      (z, none_code (lines_for q text s.added).code (rw (eq-eqb (refusal_before q (length text) s) 0 z) at e)))
      (λ (d : refusal_before q (length text) s ≡ 0 → ⊥).
      let f = (rw (ne_eqb (refusal_before q (length text) s) 0 d) at e) in (cc))
      (eq? (refusal_before q (length text) s) 0)

  pub none_unsatisfiable : (check_answer q text s).outcome ≡ Ok tt → Satisfiable (stored_formula q) → ⊥
  unfolding lines_for
  none_unsatisfiable e = none_sound (stored_formula q) text (stored_variables q) s.added (none_lines e).1

  -- the store refused nothing
  before_store : refusal_before q (length text) s ≡ 0 → store_refusal q (length s.literals) (length s.pairs) ≡ 0
  unfolding refusal_before
  before_store e =
      ⊎_elim (λ (z : store_refusal q (length s.literals) (length s.pairs) ≡ 0). z)
      (λ (d : store_refusal q (length s.literals) (length s.pairs) ≡ 0 → ⊥).
      rw (ne_eqb (store_refusal q (length s.literals) (length s.pairs)) 0 d) at e)
      (eq? (store_refusal q (length s.literals) (length s.pairs)) 0)

  -- every network of any number of switches that does the job has more than r
  pub none_more : (check_answer q text s).outcome ≡ Ok tt → MoreThan q
  none_more e =
      unsat_least q (none_taken _ _ _ _ _ (before_store (none_lines e).0)).request
      (none_unsatisfiable e)

  -- so the number 0 is that of "none" alone
  pub number_none : check_number q text s ≡ 0 → (check_answer q text s).outcome ≡ Ok tt
  unfolding check_answer check_number lines_for
  number_none e =
      ⊎_elim
      (λ (z : refusal_before q (length text) s ≡ 0).
      rw (eq-eqb (refusal_before q (length text) s) 0 z)
      (outcome_zero _ (lines_number (stored_formula q) text (stored_variables q) s.added ∙ rw (eq-eqb (refusal_before q (length text) s) 0 z) at e)))
      (λ (d : refusal_before q (length text) s ≡ 0 → ⊥). absurd (d (rw (ne_eqb (refusal_before q (length text) s) 0 d) at e)))
      (eq? (refusal_before q (length text) s) 0)
