-- Laws of decoding: the least number that passes a test, and an array filled from its start. Assumes nothing.
use Rattle.std.specs.Prelude.{◌≡◌, Bool, true, false, not, List, [], ◌∷◌, ◌++◌, ℕ, suc, ◌+◌, ◌-◌, ◌*◌, ◌≤◌, ◌<◌, T, get_or, set, replicate}
use Rattle.std.proofs.Math.Path.{sym}
use Rattle.std.proofs.Common.{ap, ap₂, ◌∙◌, subst, append_assoc, add-one}
use native.Mathlib.Omega.{arith}
use Rattle.std.proofs.lemmas.List.{set_at}
use Rattle.prelude.specs.Tests.{T_of}
use Rattle.prelude.specs.Lists.{tab}
use Rattle.prelude.specs.Lists.Laws.{length_tab, get_d_tab, tab_more, first_is, first_none}
use Rattle.formula.specs.Formula.{terminals, L}
use Rattle.answer.specs.Decode.{lowest, literal_for}
use Rattle.answer.specs.Values.{assigned}

-- an entry of the numbers below c
pub entry : (c i : ℕ) → i < c → get_or (tab 0 c (λ i. i)) i 0 ≡ i
entry c i h = get_d_tab 0 c (λ i. i) i 0 h ∙ (let z : 0 + i ≡ i = omega arith in z)

-- the least number that passes a test, by index
pub lowest_is : (p : ℕ → Bool) (c i : ℕ) → i < c → T (p i) → ((j : ℕ) → j < i → T (not (p j))) → lowest p c ≡ i
unfolding lowest
lowest_is p c i h t f =
    let e = length_tab 0 c (λ i. i) in
    first_is p (tab 0 c (λ i. i)) 0 i (omega arith) (subst (λ (x : ℕ). T (p x)) (sym (entry c i h)) t)
    (λ j g. subst (λ (x : ℕ). T (not (p x))) (sym (entry c j (omega arith))) (f j g))

-- no number below c passes it
pub lowest_none : (p : ℕ → Bool) (c : ℕ) → ((j : ℕ) → j < c → T (not (p j))) → lowest p c ≡ c
unfolding lowest
lowest_none p c f =
    let e = length_tab 0 c (λ i. i) in
    first_none p (tab 0 c (λ i. i)) 0 (λ j g. subst (λ (x : ℕ). T (not (p x))) (sym (entry c j (omega arith))) (f j (omega arith))) ∙ e

-- an array filled from its start, one entry further
pub fill_more : (f : ℕ → ℕ) (c s : ℕ) → s < c
    → set (tab 0 s f ++ replicate (c - s) 0) s (f s) ≡ tab 0 (s + 1) f ++ replicate (c - (s + 1)) 0
fill_more f c s h =
    let e : c - s ≡ suc (c - (s + 1)) = omega arith in
    ap (λ (k : ℕ). set (tab 0 s f ++ replicate k 0) s (f s)) e ∙ set_at (tab 0 s f) 0 (replicate (c - (s + 1)) 0) (f s) s (length_tab 0 s f)
    ∙ sym (append_assoc (tab 0 s f) (f s ∷ []) (replicate (c - (s + 1)) 0))
    ∙ ap (λ (l : List ℕ). l ++ replicate (c - (s + 1)) 0)
    (ap (λ (k : ℕ). tab 0 s f ++ (f k ∷ [])) (let z : s ≡ 0 + s = omega arith in z) ∙ sym (tab_more 0 s f) ∙ ap (λ (k : ℕ). tab 0 k f) (sym (add-one s)))

-- the same of a value that is known to be the entry
pub fill_next : (f : ℕ → ℕ) (c s x : ℕ) {l : List ℕ} → s < c → l ≡ tab 0 s f ++ replicate (c - s) 0 → x ≡ f s
    → set l s x ≡ tab 0 (s + 1) f ++ replicate (c - (s + 1)) 0
fill_next f c s x h e g = ap₂ (λ (l : List ℕ) (y : ℕ). set l s y) e g ∙ fill_more f c s h

-- filled as far as it goes
pub fill_end : (f : ℕ → ℕ) (c s k : ℕ) {l : List ℕ} → s ≡ k → l ≡ tab 0 s f ++ replicate (c - s) 0 → l ≡ tab 0 k f ++ replicate (c - k) 0
fill_end f c s k e h = h ∙ ap (λ (j : ℕ). tab 0 j f ++ replicate (c - j) 0) e

module _ (n r : ℕ) (values : List ℕ) (s : ℕ) where
  -- the test of one literal, by its variable's number
  chosen_test : (v x : ℕ) (b : Bool) → x ≡ L n (terminals r) s v → b ≡ assigned values x → b ≡ assigned values (L n (terminals r) s v)
  chosen_test v x b e f = f ∙ ap (assigned values) e

  -- a literal found, after those before it are not
  pub literal_found : (v x : ℕ) (b : Bool) → v < 2 * n → x ≡ L n (terminals r) s v → b ≡ assigned values x → b ≡ true
      → ((j : ℕ) → j < v → T (not (assigned values (L n (terminals r) s j)))) → v ≡ literal_for n r (assigned values) s
  unfolding literal_for
  literal_found v x b h e f t g =
      sym (lowest_is (λ v. assigned values (L n (terminals r) s v)) (2 * n) v h (T_of (assigned values (L n (terminals r) s v)) (sym (chosen_test v x b e f) ∙ t)) g)

  -- one that is not
  pub literal_not : (v x : ℕ) (b : Bool) → x ≡ L n (terminals r) s v → b ≡ assigned values x → b ≡ false → T (not (assigned values (L n (terminals r) s v)))
  literal_not v x b e f t = T_of (not (assigned values (L n (terminals r) s v))) (ap not (sym (chosen_test v x b e f) ∙ t))

  pub literal_none : (v : ℕ) → 2 * n ≤ v → v ≤ 2 * n → ((j : ℕ) → j < v → T (not (assigned values (L n (terminals r) s j)))) → v ≡ literal_for n r (assigned values) s
  unfolding literal_for
  literal_none v h k g =
      let e : v ≡ 2 * n = omega arith in
      e ∙ sym (lowest_none (λ v. assigned values (L n (terminals r) s v)) (2 * n) (λ j l. g j (omega arith)))
