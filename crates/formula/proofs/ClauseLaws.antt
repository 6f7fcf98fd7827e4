-- Laws of a run of positive literals, and of the form of a clause. Assumes nothing.
use Rattle.std.specs.Prelude.{◌≡◌, refl, List, [], ◌∷◌, ◌++◌, ℕ, zero, suc, ◌+◌, ◌≤◌, ◌<◌, T, length, get_or}
use Rattle.std.proofs.Common.{sym, ap, ◌∙◌, subst, zero-add, add-zero, arith}
use Rattle.prelude.specs.Tests.{cond-true}
use Rattle.prelude.specs.Lists.Laws.{each_out}
use Rattle.prelude.specs.Blocks.{each}
use Rattle.prelude.specs.Blocks.Laws.{each_more, singles_length, singles_at}
use Rattle.cnf.specs.Cnf.{pos, neg}
use Rattle.cnf.specs.declared.Literal.{Literal}
use Rattle.formula.specs.declared.Clause.{Clause}
use Rattle.formula.specs.declared.Clause.TheVariants.{Run, One, Two, Three}
use Rattle.formula.specs.Clause.{run, Low, literals_of, few, packed, Packed}
use Rattle.formula.specs.Count.{variables_most}

-- no variables
pub run_none : (first : ℕ) → run first 0 ≡ []
unfolding run each
run_none first = refl

-- one variable
pub run_one : (first : ℕ) → run first 1 ≡ pos first ∷ []
unfolding run each
run_one first = ap (λ (x : ℕ). pos x ∷ []) (add-zero first)

-- one variable more
pub run_more : (first i : ℕ) → run first (i + 1) ≡ run first i ++ (pos (first + i) ∷ [])
unfolding run
run_more first i =
    each_more i (λ v. pos (first + (0 + v)) ∷ []) ∙ ap (λ (x : ℕ). run first i ++ (pos (first + x) ∷ [])) (zero-add i)

-- as many literals as variables
pub run_length_lem : (first count : ℕ) → length (run first count) ≡ count
unfolding run
run_length_lem first count = singles_length count (λ v. pos (first + (0 + v)))

-- literal i
pub run_at : (first count i : ℕ) (d : Literal) → i < count → get_or (run first count) i d ≡ pos (first + i)
unfolding run
run_at first count i d h = singles_at count i (λ v. pos (first + (0 + v))) d h ∙ ap (λ (x : ℕ). pos (first + x)) (zero-add i)

-- its variables are those from the first on
pub low_at : (first count i : ℕ) → Low (run first count) → i < count → first + i ≤ variables_most
low_at first count i h l =
    subst (λ (x : Literal). x.variable ≤ variables_most) (run_at first count i (pos 0) l)
    (each_out (λ (x : Literal). x.variable ≤ variables_most) (run first count) (pos 0) h i (omega (arith, run_length_lem first count)))

-- a literal that is negative
pub negative_is : {x : Literal} {v : ℕ} → x ≡ neg v → T x.negative
negative_is e = subst (λ (x : Literal). T x.negative) (sym e) tt

-- a run of some variables has its form, by its length and its first literal
packed_run : (c : List Literal) (first n : ℕ) (d : Literal) → length c ≡ suc n → get_or c 0 d ≡ pos first → Run first (suc n) ≡ packed c
unfolding packed
packed_run [] first n d l e = absurd (omega arith)
packed_run (x ∷ c) first n d l e = rw (e, ← l)

-- a clause is its literals, packed
pub packed_is : (x : Clause) → Packed x → x ≡ packed (literals_of x)
unfolding packed few
packed_is (Run first zero) h = rw (h refl, run_none)
packed_is (Run first (suc n)) h =
    packed_run (run first (suc n)) first n (pos 0) (run_length_lem first (suc n))
    (run_at first (suc n) 0 (pos 0) (omega arith) ∙ ap pos (add-zero first))
packed_is (One x) h = sym (cond-true x.negative _ _ h)
packed_is (Two x y) h = sym (cond-true x.negative _ _ h)
packed_is (Three x y z) h = sym (cond-true x.negative _ _ h)

-- what a clause is, from its literals by two names
pub form_of : {x : Clause} {c d : List Literal} → (literals_of x ≡ c) × Packed x → c ≡ d → (literals_of x ≡ d) × (x ≡ packed d)
form_of {x} h e = (h.0 ∙ e, packed_is x h.1 ∙ ap packed (h.0 ∙ e))

-- what the empty clause is
pub form_none : {c : List Literal} → [] ≡ c → (literals_of (Run 0 0) ≡ c) × (Run 0 0 ≡ packed c)
form_none e = form_of (run_none 0, λ _. refl) e
