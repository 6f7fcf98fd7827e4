-- The clauses of groups 1 and 2 as the program gives them have low variables. Assumes nothing.
use Rattle.std.proofs.Common.{◌≡◌, ℕ, ◌≤◌, ◌<◌, subst, sym, ⊎_elim}
use Rattle.prelude.specs.Tests.{le?}
use Rattle.request.specs.declared.Request.{Request}
use Rattle.request.specs.Numbers.{Good}
use Rattle.formula.specs.Clause.{Low, literals_of}
use Rattle.formula.specs.Count.{network_count}
use Rattle.formula.specs.declared.Clause.{Clause}
use Rattle.formula.proofs.NumberLaws.{clause_low}
use Rattle.formula_clauses.specs.Block.{network_clause}
use Rattle.formula_clauses.specs.Block.Laws.{network_number, network_past}

pub network_low : (q : Request) (k : ℕ) → Good q → Low (network_clause q k)
network_low q k g =
    ⊎_elim (λ (h : network_count q.n q.r ≤ k). subst Low (network_past q k g h) tt)
    (λ (h : k < network_count q.n q.r). subst Low (sym (network_number q g k h)) (clause_low q k))
    (le? (network_count q.n q.r) k)

pub low_of : (q : Request) (k : ℕ) (c : Clause) → Good q → literals_of c ≡ network_clause q k → Low (literals_of c)
low_of q k c g e = subst Low (sym e) (network_low q k g)
