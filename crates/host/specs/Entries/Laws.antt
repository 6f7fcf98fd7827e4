-- The entries' numbers: V, C and T, and the code of each verdict. Assumes nothing.
use Rattle.std.specs.Prelude.{◌≡◌, refl, [], ◌∷◌, ℕ, Ok, Err}
use Rattle.std.proofs.Common.{sym, ap, ◌∙◌, arith, eq-eqb, ne_eqb}
use Rattle.refusal.specs.declared.Refusal.{Refusal}
use Rattle.refusal.specs.Refusal.{number, number_of}
use Rattle.refusal.specs.Refusal.Laws.{number_some}
use Rattle.request.specs.declared.Request.{Request}
use Rattle.request.specs.Numbers.{refusal_of}
use Rattle.formula.specs.Count.{counts_of, sizes_of}
use Rattle.formula.proofs.CountLaws.{clause_count_lem, literal_count_lem, sizes_taken, sizes_refusal}
use Rattle.formula.specs.declared.Sizes.{Sizes}
use Rattle.settle.specs.declared.Verdict.{Verdict}
use Rattle.settle.specs.declared.Verdict.TheVariants.{Least, Works, Fails}
use Rattle.settle.specs.Settle.{Settling, IsLeast, said_values, verdict_values}
use Rattle.host.specs.Entries.{size_numbers, verdict_code}

-- V, C and T of a request that is taken
pub sizes_numbers : (q : Request) (x : Sizes) → Ok x ≡ sizes_of q
    → (0 ≡ refusal_of q) × (size_numbers q ≡ x.variables ∷ x.clauses ∷ x.literals ∷ [])
unfolding size_numbers
sizes_numbers q x e =
    let r : 0 ≡ refusal_of q = ap (number_of {A = Sizes}) e ∙ sizes_refusal q in
    let t : Ok x ≡ Ok (counts_of q) = e ∙ sizes_taken q (sym r) in
    let f : x ≡ counts_of q = cc in
    let v = ap (λ (y : Sizes). y.variables) f in
    let c = ap (λ (y : Sizes). y.clauses) f in
    let l = ap (λ (y : Sizes). y.literals) f in
    (r, rw (eq-eqb (refusal_of q) 0 (sym r), clause_count_lem q, literal_count_lem q, v, c, l))

-- and none of one that is refused
pub sizes_none : (q : Request) (f : Refusal) → Err f ≡ sizes_of q → (number f ≡ refusal_of q) × (size_numbers q ≡ [])
unfolding size_numbers
sizes_none q f e =
    let r : number f ≡ refusal_of q = ap (number_of {A = Sizes}) e ∙ sizes_refusal q in
    (r, rw (ne_eqb (refusal_of q) 0 (λ z. number_some f (r ∙ z))))

-- only the verdict "least" has the code 0
code_said : (k : ℕ) (v : Verdict) → verdict_code (said_values k v) ≡ 0 → v ≡ Least
code_said k Least e = refl
code_said k (Works x) e = absurd (omega arith)
code_said k (Fails row) e = absurd (omega arith)

-- and of all that settling answers only "least"
pub code_least : (k : ℕ) (r : Settling) → verdict_code (verdict_values k r) ≡ 0 → IsLeast r
code_least k (Ok x) e = code_said k x.verdict e
code_least k (Err x) e = absurd (omega arith)
