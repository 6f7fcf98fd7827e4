-- The least number of switches: where no network of c switches does the job, each that does has more, whatever its size; and so
-- where the clauses for r switches cannot be satisfied. Where k is least, those for r can exactly when r is k or more. Assumes nothing.
use Rattle.std.specs.Prelude.{◌≡◌, ◌↔◌, ℕ, zero, suc, ◌+◌, ◌-◌, ◌≤◌, ◌<◌}
use Rattle.std.proofs.Common.{⊎_elim, arith}
use Rattle.prelude.specs.Tests.{le?}
use Rattle.cnf.specs.Cnf.{Satisfiable}
use Rattle.request.specs.declared.Request.{Request}
use Rattle.request.specs.Numbers.{with_switches, refusal_of}
use Rattle.request.proofs.NumbersLaws.{refusal_good}
use Rattle.network.specs.declared.Network.{Network}
use Rattle.network.specs.Networks.{Net, switches, Formed, Does}
use Rattle.network.proofs.NetworksLaws.{does_with}
use Rattle.network.specs.Value.{listed}
use Rattle.network.specs.Least.{LeastFor, MoreThan}
use Rattle.network.proofs.LeastLaws.{least_switches}
use Rattle.formula.specs.Formula.{formula_of}
use Rattle.encoding.specs.Grow.{one_more}
use Rattle.encoding.specs.Encoding.{encoding}

-- any number of switches more
more : (q : Request) → 0 < q.n → (d : ℕ) (w : Net) → Formed q w → Does q w
    → (v : Net) × (switches v ≡ d + switches w) × Formed q v × Does q v
more q inputs zero w form does = (w, omega arith, form, does)
more q inputs (suc d) w form does =
    let v = more q inputs d w form does in
    let u = one_more q inputs v.0 v.2 v.3 in
    (u.0, omega (arith, u.1, v.1), u.2, u.3)

-- where no network of c switches does the job, one that does has more than c
pub least : (q : Request) → 0 < q.n → (c : ℕ) → ((w : Net) → switches w ≡ c → Formed q w → Does q w → ⊥)
    → (v : Net) → Formed q v → Does q v → c < switches v
least q inputs c none v form does =
    ⊎_elim
    (λ (h : switches v ≤ c).
    let w = more q inputs (c - switches v) v form does in
    absurd (none w.0 (omega (arith, w.1)) w.2 w.3))
    (λ (h : c < switches v). h)
    (le? (switches v) c)

-- where a request's clauses cannot be satisfied, a network that does its job has more than r switches
pub unsat_least : (q : Request) → refusal_of q ≡ 0 → (Satisfiable (formula_of q) → ⊥) → MoreThan q
unsat_least q good none =
    least q (refusal_good q good).n_low q.r (λ w size form does. none ((encoding q).1 (w, size, form, does)))

-- where a network is least, with k switches, the clauses for r switches are satisfiable exactly when r is k or more
pub least_satisfiable : (q : Request) (w : Network) → LeastFor q w → (r : ℕ) → refusal_of (with_switches q r) ≡ 0
    → Satisfiable (formula_of (with_switches q r)) ↔ (q.r ≤ r)
least_satisfiable q w l r good =
    let m = encoding (with_switches q r) in (
      λ s. let v = m.0 s in let h = l.least v.0 v.2 ((does_with q r v.0).0 v.3) in omega (arith, v.1),
      λ h.
          let k = least_switches q w l in
          let v = more q (refusal_good (with_switches q r) good).n_low (r - q.r) (listed q.r w) l.form l.does in
          m.1 (v.0, (let e = v.1 in omega arith), v.2, (does_with q r v.0).1 v.3),
    )
