-- A formula by the numbers of its clauses. Assumes nothing.
use Rattle.std.specs.Prelude.{[], ◌∷◌, ℕ, zero, suc, ◌<◌, T, length, get_or}
use Rattle.std.proofs.Common.{arith}
use Rattle.cnf.specs.Cnf.{Formula, Assignment, clause_holds, Sat}

-- it holds where each clause does
pub sat_all : (α : Assignment) (f : Formula) → ((k : ℕ) → k < length f → T (clause_holds α (get_or f k []))) → Sat α f
sat_all α [] h = tt
sat_all α (c ∷ f) h = (h 0 (omega arith), sat_all α f (λ k l. h (suc k) (omega arith)))

-- and each clause does where it holds
pub sat_at : (α : Assignment) (f : Formula) → Sat α f → (k : ℕ) → k < length f → T (clause_holds α (get_or f k []))
sat_at α [] h k l = absurd (omega arith)
sat_at α (c ∷ f) h zero l = h.0
sat_at α (c ∷ f) h (suc k) l = sat_at α f h.1 k (omega arith)
