-- Bool tests: what each says, both ways. `T b` is the proposition that the test b holds. Assumes nothing.
use Rattle.std.specs.Prelude.{◌≡◌, refl, Bool, true, false, not, ◌&&◌, ◌||◌, cond, ◌⊎◌, ◌≢◌, ℕ, ◌≤◌, ◌<◌, T, eqb, leb}
use Rattle.std.proofs.Common.{sym, subst, inl, inr, T_not, eqb→eq, leb→le}
use Rattle.std.proofs.Math.Dec.{not_T, eqb_refl, nleb→lt}

-- a test holds, or its negation does
pub T-cases : (b : Bool) → T b ⊎ T (not b)
T-cases true = inl tt
T-cases false = inr tt

-- a test that holds is true
pub T-eq : (b : Bool) → T b → b ≡ true
T-eq true t = refl
T-eq false t = absurd t

-- a test that is true holds
pub T_of : (b : Bool) → b ≡ true → T b
T_of b e = subst T (sym e) tt

-- a test whose negation holds is false
pub F-eq : (b : Bool) → T (not b) → b ≡ false
F-eq true t = absurd t
F-eq false t = refl

-- a test that cannot be true is false
pub not_true_false : (b : Bool) → (b ≡ true → ⊥) → b ≡ false
not_true_false true h = absurd (h refl)
not_true_false false h = refl

-- two tests that imply each other are equal
pub tests_eq : (b c : Bool) → (T b → T c) → (T c → T b) → b ≡ c
tests_eq true true f g = refl
tests_eq true false f g = absurd (f tt)
tests_eq false true f g = absurd (g tt)
tests_eq false false f g = refl

-- a conjunction from its two parts
pub and_in : (a b : Bool) → T a → T b → T (a && b)
and_in true b p q = q
and_in false b p q = p

-- the first part of a conjunction
pub and_l : (a b : Bool) → T (a && b) → T a
and_l true b p = tt
and_l false b p = p

-- the second part of a conjunction
pub and_r : (a b : Bool) → T (a && b) → T b
and_r true b p = p
and_r false b p = absurd p

-- a disjunction from its first part
pub or_l : (a b : Bool) → T a → T (a || b)
or_l true b p = tt
or_l false b p = absurd p

-- a disjunction from its second part
pub or_r : (a b : Bool) → T b → T (a || b)
or_r true b p = tt
or_r false b p = p

-- a disjunction taken apart
pub or_cases : (a b : Bool) → T (a || b) → T a ⊎ T b
or_cases true b p = inl tt
or_cases false b p = inr p

-- equal numbers pass the test of equality
pub eq→eqb : (m n : ℕ) → m ≡ n → T (eqb m n)
eq→eqb m n e = subst (λ (k : ℕ). T (eqb m k)) e (eqb_refl m)

-- numbers that fail the test of equality differ
pub neqb→ne : (m n : ℕ) → T (not (eqb m n)) → m ≢ n
neqb→ne m n t e = T_not (eqb m n) t (eq→eqb m n e)

-- numbers that differ fail the test of equality
pub ne→neqb : (m n : ℕ) → m ≢ n → T (not (eqb m n))
ne→neqb m n h = not_T (eqb m n) (λ t. h (eqb→eq m n t))

-- two numbers are equal or not
pub eq? : (m n : ℕ) → (m ≡ n) ⊎ (m ≢ n)
eq? m n = go (T-cases (eqb m n))
  where
    go : T (eqb m n) ⊎ T (not (eqb m n)) → (m ≡ n) ⊎ (m ≢ n)
    go (inl t) = inl (eqb→eq m n t)
    go (inr t) = inr (neqb→ne m n t)

-- of two numbers one is at most the other
pub le? : (m n : ℕ) → (m ≤ n) ⊎ (n < m)
le? m n = go (T-cases (leb m n))
  where
    go : T (leb m n) ⊎ T (not (leb m n)) → (m ≤ n) ⊎ (n < m)
    go (inl t) = inl (leb→le m n t)
    go (inr t) = inr (nleb→lt m n t)

-- the first of two values, where the test holds
pub cond-true {ℓ} : {A : Type ℓ} (t : Bool) (a b : A) → T t → cond t a b ≡ a
cond-true true a b h = refl
cond-true false a b h = absurd h

-- the second of two values, where it does not
pub cond-false {ℓ} : {A : Type ℓ} (t : Bool) (a b : A) → T (not t) → cond t a b ≡ b
cond-false true a b h = absurd h
cond-false false a b h = refl
