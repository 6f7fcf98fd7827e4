-- Laws of an on row's clauses: how many, how many literals, and which stands at a number. Assumes nothing.
use Rattle.std.specs.Prelude.{◌≡◌, refl, Bool, true, false, not, cond, ◌⊎◌, ◌≢◌}
use Rattle.std.proofs.Math.Path.{sym, ap, ap₂}
use Rattle.std.proofs.Common.{◌∙◌, subst, inl, inr, ⊎_elim, mul_assoc, mul-one, zero-mul, add-mul, one-mul, length-append}
use mathlib.Core.List.{List, [], ◌∷◌, ◌++◌}
use Prim.Native.Nat.{ℕ, zero, suc, ◌+◌, ◌-◌, ◌*◌, ◌/◌, ◌%◌, ◌≤◌, ◌<◌}
use Rattle.std.proofs.Math.Nat.{mul_comm}
use native.Mathlib.Omega.{arith}
use Rattle.std.proofs.Math.Dec.{eqb}
use Rattle.std.proofs.Math.ListN.{length, get_or, get_or-append}
use Rattle.prelude.specs.Tests.{T-eq, eq→eqb, ne→neqb, le?, cond-true, cond-false}
use Rattle.prelude.specs.Lists.Laws.{get_d_right}
use Rattle.prelude.specs.Blocks.{each, for, flatten}
use Rattle.prelude.specs.Blocks.Laws.{remainder_low, digits_low, each_div, for_last, each_same, each_length, singles_length, singles_at, flatten_append, flatten_one, flatten_length}
use Rattle.cnf.specs.Cnf.{pos, neg, Clause, Formula}
use Rattle.rows.specs.Rows.{literal_on}
use Rattle.network.specs.Networks.{source, sink, switch_of, other}
use Rattle.formula.specs.Clause.{run}
use Rattle.formula.specs.Count.{on_row_count, on_row_literals}
use Rattle.formula.specs.Values.{count_below, NthIs, has_value}
use Rattle.formula.specs.Values.Laws.{half_count, chosen_length_lem, chosen_at_lem}
use Rattle.formula.specs.Formula.{terminals, X, L, W, Z, some_step, closed_step, first_step, link_step, last_step, on_row}

-- entries except those at which a test holds
module _ {A : Type 0} (q : ℕ → Bool) (x : ℕ → A) where
  abbrev pub unless : ℕ → List A
  unless i = cond (q i) [] (x i ∷ [])

  unless_is : (c : ℕ) → each c unless ≡ each c (λ i. cond (not (q i)) (x i ∷ []) [])
  unless_is c = each_same c unless (λ i. cond (not (q i)) (x i ∷ []) []) (λ i l. swap (q i) (x i ∷ []))
    where
      swap : (b : Bool) (a : List A) → cond b [] a ≡ cond (not b) a []
      swap true a = refl
      swap false a = refl

  -- how many
  pub unless_length : (c : ℕ) → length (each c unless) ≡ count_below (λ i. not (q i)) c
  unless_length c = ap length (unless_is c) ∙ chosen_length_lem (λ i. not (q i)) 1 (λ i. x i ∷ []) (λ i. refl) c ∙ mul-one _

  -- which
  pub unless_at : (c j v : ℕ) (d : A) → NthIs (λ i. not (q i)) c j v → get_or (each c unless) j d ≡ x v
  unless_at c j v d z =
      let e : j ≡ j * 1 + 0 = omega arith in
      ap₂ (λ (l : List A) (k : ℕ). get_or l k d) (unless_is c) e
      ∙ chosen_at_lem (λ i. not (q i)) 1 (λ i. x i ∷ []) (λ i. refl) c j v 0 d z (omega arith)

-- entries of entries, of one length each
pub unless_literals : {A : Type 0} (q : ℕ → Bool) (x : ℕ → List A) (b c : ℕ) → ((i : ℕ) → length (x i) ≡ b)
    → length (flatten (each c (unless q x))) ≡ count_below (λ i. not (q i)) c * b
unfolding each flatten count_below
unless_literals q x b zero h = sym (zero-mul b)
unless_literals q x b (suc c) h =
    ap length (flatten_append (each c (unless q x)) (unless q x c)) ∙ length-append (flatten (each c (unless q x))) (flatten (unless q x c))
    ∙ ap₂ (λ (a e : ℕ). a + e) (unless_literals q x b c h) (one (q c))
    ∙ sym (add-mul (count_below (λ i. not (q i)) c) (cond (not (q c)) 1 0) b)
  where
    one : (t : Bool) → length (flatten (cond t [] (x c ∷ []))) ≡ cond (not t) 1 0 * b
    one true = sym (zero-mul b)
    one false = ap length (flatten_one (x c)) ∙ h c ∙ sym (one-mul b)

-- each number but x, counted from 1: how many of the first v, before x
count_before : (x v : ℕ) → v < x → count_below (λ i. not (eqb (1 + i) x)) v ≡ v
unfolding count_below
count_before x zero l = refl
count_before x (suc v) l =
    let e = count_before x v (omega arith) in
    let o = cond-true {A = ℕ} (not (eqb (1 + v) x)) 1 0 (ne→neqb (1 + v) x (omega arith)) in
    omega arith

-- and from x on
count_past : (x v : ℕ) → 1 ≤ x → x ≤ v → count_below (λ i. not (eqb (1 + i) x)) v + 1 ≡ v
unfolding count_below
count_past x zero h l = absurd (omega arith)
count_past x (suc v) h l =
    ⊎_elim
    (λ (k : x ≤ v).
    let e = count_past x v h k in
    let o = cond-true {A = ℕ} (not (eqb (1 + v) x)) 1 0 (ne→neqb (1 + v) x (omega arith)) in
    omega arith)
    (λ (k : v < x).
    let e = count_before x v k in
    let z : eqb (1 + v) x ≡ true = T-eq (eqb (1 + v) x) (eq→eqb (1 + v) x (omega arith)) in
    let o = ap (λ (b : Bool). cond {A = ℕ} (not b) 1 0) z in
    omega arith)
    (le? x v)

-- g has the number i, from 0, among 1 .. c but x
pub record Follows (c x i g : ℕ) : Type 0 where
  pub high : g ≤ c
  pub apart : x ≢ g
  pub nth : NthIs (λ i. not (eqb (1 + i) x)) c i (g - 1)
  pub from : 1 + (g - 1) ≡ g

-- it is i + 1 before x, and i + 2 from x on
pub follows : (c x i g : ℕ) → 1 ≤ x → x ≤ c → i + 1 < c → ((i + 1 < x) × (g ≡ i + 1)) ⊎ ((x ≤ i + 1) × (g ≡ i + 1 + 1)) → Follows c x i g
follows c x i g h k l (inl (b, e)) =
    let z : i ≡ g - 1 = omega arith in
    record {
      high = omega arith;
      apart = λ a. omega arith;
      nth =
          subst (NthIs (λ i. not (eqb (1 + i) x)) c i) z
          (record { low = omega arith; holds = T-eq _ (ne→neqb (1 + i) x (omega arith)); place = sym (count_before x i (omega arith)) });
      from = omega arith;
    }
follows c x i g h k l (inr (b, e)) =
    let z : i + 1 ≡ g - 1 = omega arith in
    let o = count_past x (i + 1) h b in
    record {
      high = omega arith;
      apart = λ a. omega arith;
      nth =
          subst (NthIs (λ i. not (eqb (1 + i) x)) c i) z
          (record { low = omega arith; holds = T-eq _ (ne→neqb (1 + (i + 1)) x (omega arith)); place = omega arith });
      from = omega arith;
    }

-- "W(t,1)..W(t,2r) Z(t)" is a run of variables
pub some_clause : (r B t : ℕ) → for 1 (2 * r) (λ e. pos (W r B t e) ∷ []) ++ (pos (Z r B t) ∷ []) ≡ run (W r B t 1) (2 * r + 1)
unfolding run W
some_clause r B t =
    for_last (2 * r) (λ e. pos (W r B t e) ∷ [])
    ∙ each_same (2 * r + 1) _ _ (λ i l. let e : B + (t - 1) * (2 * r + 1) + (1 + i) ≡ B + (t - 1) * (2 * r + 1) + 1 + (0 + i) = omega arith in
    ap (λ (x : ℕ). pos x ∷ []) e)

-- how many clauses, how many literals, and which clause stands at a number
pub some_length : (r m B : ℕ) → length (some_step r m B) ≡ m
unfolding some_step
some_length r m B = singles_length m _

pub some_literals : (r m B : ℕ) → length (flatten (some_step r m B)) ≡ m * (2 * r + 1)
unfolding some_step run
some_literals r m B =
    flatten_length m (2 * r + 1) _ (λ i l. ap length (flatten_one _ ∙ some_clause r B (1 + i)) ∙ singles_length (2 * r + 1) _)

pub some_at_lem : (r m B i : ℕ) → i < m → get_or (some_step r m B) i [] ≡ run (W r B (i + 1) 1) (2 * r + 1)
unfolding some_step
some_at_lem r m B i l =
    let e : 1 + i ≡ i + 1 = omega arith in
    singles_at m i _ [] l ∙ some_clause r B (1 + i) ∙ ap (λ (t : ℕ). run (W r B t 1) (2 * r + 1)) e

-- no literal that is 0 on row k
abbrev pub closed_clause : ℕ → ℕ → ℕ → ℕ → ℕ → ℕ → Clause
closed_clause n r B t e v = neg (W r B t e) ∷ neg (L n (terminals r) (switch_of e) v) ∷ []

module _ (n r m B k : ℕ) where
  -- the clauses of one step and one end
  abbrev pub closed_end : ℕ → ℕ → Formula
  closed_end t e = for 0 (2 * n) (λ v. cond (literal_on n k v) [] (closed_clause n r B t e v ∷ []))

  -- from 0 on is from the first on
  pub zero_start : (t e : ℕ) → closed_end t e ≡ each (2 * n) (unless (literal_on n k) (closed_clause n r B t e))
  zero_start t e = each_same (2 * n) _ _ (λ i l. let z : 0 + i ≡ i = omega arith in ap (unless (literal_on n k) (closed_clause n r B t e)) z)

  closed_end_length : (t e : ℕ) → length (closed_end t e) ≡ n
  closed_end_length t e =
      ap length (zero_start t e) ∙ unless_length (literal_on n k) (closed_clause n r B t e) (2 * n) ∙ half_count n k false

  closed_step_length : (t : ℕ) → length (for 1 (2 * r) (closed_end t)) ≡ 2 * r * n
  closed_step_length t = each_length (2 * r) n _ (λ i l. closed_end_length t (1 + i))

  -- how many clauses, how many literals, and which clause stands at a number
  pub closed_length : length (closed_step n r m B (literal_on n k)) ≡ m * (2 * r * n)
  unfolding closed_step
  closed_length = each_length m (2 * r * n) _ (λ i l. closed_step_length (1 + i))

  pub closed_literals : length (flatten (closed_step n r m B (literal_on n k))) ≡ 2 * (m * (2 * r * n))
  unfolding closed_step
  closed_literals =
      flatten_length m (2 * r * (n * 2)) _ (λ t a. flatten_length (2 * r) (n * 2) _ (λ e b.
      ap (λ (F : Formula). length (flatten F)) (zero_start (1 + t) (1 + e)) ∙ unless_literals (literal_on n k) (closed_clause n r B (1 + t) (1 + e)) 2 (2 * n) (λ v. refl)
      ∙ ap (λ (x : ℕ). x * 2) (half_count n k false)))
      ∙ ap (λ (x : ℕ). m * x) (sym (mul_assoc (2 * r) n 2)) ∙ sym (mul_assoc m (2 * r * n) 2) ∙ mul_comm (m * (2 * r * n)) 2

  pub closed_at : (j v : ℕ) → j < m * (2 * r * n) → NthIs (has_value n k false) (2 * n) (j % (2 * r * n) % n) v
      → get_or (closed_step n r m B (literal_on n k)) j []
      ≡ closed_clause n r B (j / (2 * r * n) + 1) (j % (2 * r * n) / n + 1) v
  unfolding closed_step
  closed_at j v l z =
      let t : ℕ = j / (2 * r * n) in
      let i : ℕ = j % (2 * r * n) in
      let et : 1 + t ≡ t + 1 = omega arith in
      let ee : 1 + i / n ≡ i / n + 1 = omega arith in
      each_div m (2 * r * n) j _ [] (λ x h. closed_step_length (1 + x)) l
      ∙ each_div (2 * r) n i _ [] (λ x h. closed_end_length (1 + t) (1 + x)) (remainder_low m (2 * r * n) j l)
      ∙ ap (λ (F : Formula). get_or F (i % n) []) (zero_start (1 + t) (1 + i / n))
      ∙ unless_at (literal_on n k) (closed_clause n r B (1 + t) (1 + i / n)) (2 * n) (i % n) v [] z
      ∙ ap₂ (λ (x y : ℕ). closed_clause n r B x y v) et ee

-- the first step starts on the source's net
abbrev pub first_clause : ℕ → ℕ → ℕ → Clause
first_clause r B e = neg (W r B 1 e) ∷ pos (X (terminals r) source e) ∷ []

-- the stop is one end more
pub first_is : (r B : ℕ) → first_step r B ≡ for 1 (2 * r + 1) (λ e. first_clause r B e ∷ [])
unfolding first_step
first_is r B = for_last (2 * r) (λ e. first_clause r B e ∷ [])

-- how many clauses, how many literals, and which clause stands at a number
pub first_length : (r B : ℕ) → length (first_step r B) ≡ 2 * r + 1
first_length r B = ap length (first_is r B) ∙ singles_length (2 * r + 1) _

pub first_literals : (r B : ℕ) → length (flatten (first_step r B)) ≡ 2 * (2 * r + 1)
first_literals r B =
    ap (λ (F : Formula). length (flatten F)) (first_is r B) ∙ flatten_length (2 * r + 1) 2 _ (λ i l. ap length (flatten_one (first_clause r B (1 + i))))
    ∙ mul_comm (2 * r + 1) 2

pub first_at : (r B j : ℕ) → j < 2 * r + 1 → get_or (first_step r B) j [] ≡ first_clause r B (j + 1)
first_at r B j l =
    let e : 1 + j ≡ j + 1 = omega arith in
    ap (λ (F : Formula). get_or F j []) (first_is r B) ∙ singles_at (2 * r + 1) j _ [] l ∙ ap (first_clause r B) e

-- a step follows the one before on one net; g is an end, or 2r + 1 for the stop
abbrev pub link_clause : ℕ → ℕ → ℕ → ℕ → ℕ → Clause
link_clause r B t e g = neg (W r B t e) ∷ neg (W r B (t + 1) g) ∷ pos (X (terminals r) (other e) g) ∷ []

module _ (r m B : ℕ) where
  -- the clauses of one step and one end
  abbrev pub link_end : ℕ → ℕ → Formula
  link_end t e = for 1 (2 * r) (λ g. cond (eqb g (other e)) [] (link_clause r B t e g ∷ [])) ++ (link_clause r B t e (2 * r + 1) ∷ [])

  -- the stop is one end more
  pub link_end_is : (t e : ℕ) → 1 ≤ e → e ≤ 2 * r
      → link_end t e ≡ each (2 * r + 1) (unless (λ i. eqb (1 + i) (other e)) (λ i. link_clause r B t e (1 + i)))
  link_end_is t e h l =
      ap (λ (F : Formula). for 1 (2 * r) (λ g. cond (eqb g (other e)) [] (link_clause r B t e g ∷ [])) ++ F)
      (sym (cond-false (eqb (2 * r + 1) (other e)) [] (link_clause r B t e (2 * r + 1) ∷ []) (ne→neqb (2 * r + 1) (other e) (omega arith))))
      ∙ for_last (2 * r) (λ g. cond (eqb g (other e)) [] (link_clause r B t e g ∷ []))

  -- each end but e', and the stop
  link_count : (e : ℕ) → 1 ≤ e → e ≤ 2 * r → count_below (λ i. not (eqb (1 + i) (other e))) (2 * r + 1) ≡ 2 * r
  link_count e h l = let o = count_past (other e) (2 * r + 1) (omega arith) (omega arith) in omega arith

  link_end_length : (t e : ℕ) → 1 ≤ e → e ≤ 2 * r → length (link_end t e) ≡ 2 * r
  link_end_length t e h l = ap length (link_end_is t e h l) ∙ unless_length (λ i. eqb (1 + i) (other e)) (λ i. link_clause r B t e (1 + i)) (2 * r + 1) ∙ link_count e h l

  link_step_length : (t : ℕ) → length (for 1 (2 * r) (link_end t)) ≡ 2 * r * (2 * r)
  link_step_length t = each_length (2 * r) (2 * r) _ (λ i l. link_end_length t (1 + i) (omega arith) (omega arith))

  -- how many clauses, and how many literals
  pub link_length_lem : length (link_step r m B) ≡ (m - 1) * (2 * r * (2 * r))
  unfolding link_step
  link_length_lem = each_length (m - 1) (2 * r * (2 * r)) _ (λ i l. link_step_length (1 + i))

  pub link_literals : length (flatten (link_step r m B)) ≡ 3 * ((m - 1) * (2 * r * (2 * r)))
  unfolding link_step
  link_literals =
      flatten_length (m - 1) (2 * r * (2 * r * 3)) _ (λ t a. flatten_length (2 * r) (2 * r * 3) _ (λ e b.
      ap (λ (F : Formula). length (flatten F)) (link_end_is (1 + t) (1 + e) (omega arith) (omega arith))
      ∙ unless_literals (λ i. eqb (1 + i) (other (1 + e))) (λ i. link_clause r B (1 + t) (1 + e) (1 + i)) 3 (2 * r + 1) (λ i. refl)
      ∙ ap (λ (x : ℕ). x * 3) (link_count (1 + e) (omega arith) (omega arith))))
      ∙ ap (λ (x : ℕ). (m - 1) * x) (sym (mul_assoc (2 * r) (2 * r) 3)) ∙ sym (mul_assoc (m - 1) (2 * r * (2 * r)) 3)
      ∙ mul_comm ((m - 1) * (2 * r * (2 * r))) 3

  -- which end follows, by the place and a test
  pub link_follows : (j end g : ℕ) → j < (m - 1) * (2 * r * (2 * r)) → end ≡ other (j % (2 * r * (2 * r)) / (2 * r) + 1)
      → ((j % (2 * r * (2 * r)) % (2 * r) + 1 < end) × (g ≡ j % (2 * r * (2 * r)) % (2 * r) + 1))
      ⊎ ((end ≤ j % (2 * r * (2 * r)) % (2 * r) + 1) × (g ≡ j % (2 * r * (2 * r)) % (2 * r) + 1 + 1))
      → Follows (2 * r + 1) (other (j % (2 * r * (2 * r)) / (2 * r) + 1)) (j % (2 * r * (2 * r)) % (2 * r)) g
  link_follows j end g l o s =
      let d = digits_low (m - 1) (2 * r) (2 * r) j l in
      subst (λ (x : ℕ). Follows (2 * r + 1) x (j % (2 * r * (2 * r)) % (2 * r)) g) o
      (follows (2 * r + 1) end (j % (2 * r * (2 * r)) % (2 * r)) g (omega arith) (omega arith) (omega arith) s)

  -- which clause stands at a number
  pub link_at : (j g : ℕ) → j < (m - 1) * (2 * r * (2 * r))
      → Follows (2 * r + 1) (other (j % (2 * r * (2 * r)) / (2 * r) + 1)) (j % (2 * r * (2 * r)) % (2 * r)) g
      → get_or (link_step r m B) j [] ≡ link_clause r B (j / (2 * r * (2 * r)) + 1) (j % (2 * r * (2 * r)) / (2 * r) + 1) g
  unfolding link_step
  link_at j g l z =
      let t : ℕ = j / (2 * r * (2 * r)) in
      let i : ℕ = j % (2 * r * (2 * r)) in
      let d = digits_low (m - 1) (2 * r) (2 * r) j l in
      let et : 1 + t ≡ t + 1 = omega arith in
      let ee : 1 + i / (2 * r) ≡ i / (2 * r) + 1 = omega arith in
      each_div (m - 1) (2 * r * (2 * r)) j _ [] (λ x h. link_step_length (1 + x)) l
      ∙ each_div (2 * r) (2 * r) i _ [] (λ x h. link_end_length (1 + t) (1 + x) (omega arith) (omega arith)) (remainder_low (m - 1) (2 * r * (2 * r)) j l)
      ∙ ap₂ (λ (x y : ℕ). get_or (link_end x y) (i % (2 * r)) []) et ee
      ∙ ap (λ (F : Formula). get_or F (i % (2 * r)) []) (link_end_is (t + 1) (i / (2 * r) + 1) (omega arith) (omega arith))
      ∙ unless_at (λ x. eqb (1 + x) (other (i / (2 * r) + 1))) (λ x. link_clause r B (t + 1) (i / (2 * r) + 1) (1 + x)) (2 * r + 1) (i % (2 * r)) (g - 1) [] z.nth
      ∙ ap (link_clause r B (t + 1) (i / (2 * r) + 1)) z.from

-- the last step ends on the sink's net
abbrev pub last_clause : ℕ → ℕ → ℕ → ℕ → Clause
last_clause r m B e = neg (W r B m e) ∷ pos (X (terminals r) (other e) (sink r)) ∷ []

-- how many clauses, how many literals, and which clause stands at a number
pub last_length : (r m B : ℕ) → length (last_step r m B) ≡ 2 * r
unfolding last_step
last_length r m B = singles_length (2 * r) _

pub last_literals : (r m B : ℕ) → length (flatten (last_step r m B)) ≡ 2 * (2 * r)
unfolding last_step
last_literals r m B = flatten_length (2 * r) 2 _ (λ i l. ap length (flatten_one (last_clause r m B (1 + i)))) ∙ mul_comm (2 * r) 2

pub last_at : (r m B j : ℕ) → j < 2 * r → get_or (last_step r m B) j [] ≡ last_clause r m B (j + 1)
unfolding last_step
last_at r m B j l =
    let e : 1 + j ≡ j + 1 = omega arith in
    singles_at (2 * r) j _ [] l ∙ ap (last_clause r m B) e

-- "M = 0"
pub clauses_none : (n r m : ℕ) → m ≡ 0 → on_row_count n r m ≡ 1
unfolding on_row_count
clauses_none n r m e = cond-true (eqb m 0) _ _ (eq→eqb m 0 e)

pub literals_none : (n r m : ℕ) → m ≡ 0 → on_row_literals n r m ≡ 1
unfolding on_row_literals
literals_none n r m e = cond-true (eqb m 0) _ _ (eq→eqb m 0 e)

-- "Otherwise"
pub clauses_some : (n r m : ℕ) → 1 ≤ m → on_row_count n r m ≡ m + m * (2 * r * n) + (2 * r + 1) + (m - 1) * (2 * r * (2 * r)) + 2 * r
unfolding on_row_count
clauses_some n r m h = cond-false (eqb m 0) _ _ (ne→neqb m 0 (omega arith))

pub literals_some : (n r m : ℕ) → 1 ≤ m
    → on_row_literals n r m ≡ m * (2 * r + 1) + 2 * (m * (2 * r * n)) + 2 * (2 * r + 1) + 3 * ((m - 1) * (2 * r * (2 * r))) + 2 * (2 * r)
unfolding on_row_literals
literals_some n r m h = cond-false (eqb m 0) _ _ (ne→neqb m 0 (omega arith))

module _ (n r m B k : ℕ) where
  -- the row where M is 0, and where it is not
  row_none : m ≡ 0 → on_row n r m B (literal_on n k) ≡ (pos (X (terminals r) source (sink r)) ∷ []) ∷ []
  unfolding on_row
  row_none e = cond-true (eqb m 0) _ _ (eq→eqb m 0 e)

  row_some : 1 ≤ m
      → on_row n r m B (literal_on n k)
      ≡ some_step r m B ++ (closed_step n r m B (literal_on n k) ++ (first_step r B ++ (link_step r m B ++ last_step r m B)))
  unfolding on_row
  row_some h = cond-false (eqb m 0) _ _ (ne→neqb m 0 (omega arith))

  -- how many clauses
  pub on_row_length : length (on_row n r m B (literal_on n k)) ≡ on_row_count n r m
  on_row_length =
      ⊎_elim
      (λ (h : m ≤ 0). let e : m ≡ 0 = omega arith in ap length (row_none e) ∙ sym (clauses_none n r m e))
      (λ (h : 0 < m).
      let a = some_length r m B in
      let b = closed_length n r m B k in
      let c = first_length r B in
      let d = link_length_lem r m B in
      let e = last_length r m B in
      let s : length (some_step r m B ++ (closed_step n r m B (literal_on n k) ++ (first_step r B ++ (link_step r m B ++ last_step r m B))))
      ≡ m + m * (2 * r * n) + (2 * r + 1) + (m - 1) * (2 * r * (2 * r)) + 2 * r = simp length-append (omega arith) in
      ap length (row_some h) ∙ s ∙ sym (clauses_some n r m h))
      (le? m 0)

  -- how many literals
  pub on_row_literals_lem : length (flatten (on_row n r m B (literal_on n k))) ≡ on_row_literals n r m
  on_row_literals_lem =
      ⊎_elim
      (λ (h : m ≤ 0).
      let e : m ≡ 0 = omega arith in
      ap (λ (F : Formula). length (flatten F)) (row_none e) ∙ ap length (flatten_one (pos (X (terminals r) source (sink r)) ∷ [])) ∙ sym (literals_none n r m e))
      (λ (h : 0 < m).
      let a = some_literals r m B in
      let b = closed_literals n r m B k in
      let c = first_literals r B in
      let d = link_literals r m B in
      let e = last_literals r m B in
      let s : length (flatten (some_step r m B ++ (closed_step n r m B (literal_on n k) ++ (first_step r B ++ (link_step r m B ++ last_step r m B)))))
      ≡ m * (2 * r + 1) + 2 * (m * (2 * r * n)) + 2 * (2 * r + 1) + 3 * ((m - 1) * (2 * r * (2 * r))) + 2 * (2 * r) =
      simp (flatten_append, length-append) (omega arith) in
      ap (λ (F : Formula). length (flatten F)) (row_some h) ∙ s ∙ sym (literals_some n r m h))
      (le? m 0)

  -- the one clause where M is 0
  pub row_none_at : (j : ℕ) → m ≡ 0 → j < on_row_count n r m → get_or (on_row n r m B (literal_on n k)) j [] ≡ pos (X (terminals r) source (sink r)) ∷ []
  row_none_at j e l =
      let c = clauses_none n r m e in
      let z : j ≡ 0 = omega arith in
      ap₂ (λ (F : Formula) (i : ℕ). get_or F i []) (row_none e) z

  module _ (up : 1 ≤ m) where
    -- the row past its first part, its first two, its first three
    past_some : (j : ℕ) → m ≤ j
        → get_or (on_row n r m B (literal_on n k)) j []
        ≡ get_or (closed_step n r m B (literal_on n k) ++ (first_step r B ++ (link_step r m B ++ last_step r m B))) (j - m) []
    past_some j l =
        let e = some_length r m B in
        ap (λ (F : Formula). get_or F j []) (row_some up) ∙ get_d_right (some_step r m B) _ j [] (omega arith)
        ∙ ap (λ (i : ℕ). get_or (closed_step n r m B (literal_on n k) ++ (first_step r B ++ (link_step r m B ++ last_step r m B))) (j - i) []) e

    past_closed : (j : ℕ) → m ≤ j → m * (2 * r * n) ≤ j - m
        → get_or (on_row n r m B (literal_on n k)) j [] ≡ get_or (first_step r B ++ (link_step r m B ++ last_step r m B)) (j - m - m * (2 * r * n)) []
    past_closed j l l2 =
        let e = closed_length n r m B k in
        past_some j l ∙ get_d_right (closed_step n r m B (literal_on n k)) _ (j - m) [] (omega arith)
        ∙ ap (λ (i : ℕ). get_or (first_step r B ++ (link_step r m B ++ last_step r m B)) (j - m - i) []) e

    past_first : (j : ℕ) → m ≤ j → m * (2 * r * n) ≤ j - m → 2 * r + 1 ≤ j - m - m * (2 * r * n)
        → get_or (on_row n r m B (literal_on n k)) j [] ≡ get_or (link_step r m B ++ last_step r m B) (j - m - m * (2 * r * n) - (2 * r + 1)) []
    past_first j l l2 l3 =
        let e = first_length r B in
        past_closed j l l2 ∙ get_d_right (first_step r B) _ (j - m - m * (2 * r * n)) [] (omega arith)
        ∙ ap (λ (i : ℕ). get_or (link_step r m B ++ last_step r m B) (j - m - m * (2 * r * n) - i) []) e

    -- the row's clause j, in each of its five parts
    pub row_some_at : (j : ℕ) → j < m → get_or (on_row n r m B (literal_on n k)) j [] ≡ get_or (some_step r m B) j []
    row_some_at j l =
        let e = some_length r m B in
        ap (λ (F : Formula). get_or F j []) (row_some up) ∙ get_or-append (some_step r m B) _ [] j (omega arith)

    pub row_closed_at : (j : ℕ) → m ≤ j → j - m < m * (2 * r * n)
        → get_or (on_row n r m B (literal_on n k)) j [] ≡ get_or (closed_step n r m B (literal_on n k)) (j - m) []
    row_closed_at j l h =
        let e = closed_length n r m B k in
        past_some j l ∙ get_or-append (closed_step n r m B (literal_on n k)) _ [] (j - m) (omega arith)

    pub row_first_at : (j : ℕ) → m ≤ j → m * (2 * r * n) ≤ j - m → j - m - m * (2 * r * n) < 2 * r + 1
        → get_or (on_row n r m B (literal_on n k)) j [] ≡ get_or (first_step r B) (j - m - m * (2 * r * n)) []
    row_first_at j l l2 h =
        let e = first_length r B in
        past_closed j l l2 ∙ get_or-append (first_step r B) _ [] (j - m - m * (2 * r * n)) (omega arith)

    pub row_link_at : (j : ℕ) → m ≤ j → m * (2 * r * n) ≤ j - m → 2 * r + 1 ≤ j - m - m * (2 * r * n)
        → j - m - m * (2 * r * n) - (2 * r + 1) < (m - 1) * (2 * r * (2 * r))
        → get_or (on_row n r m B (literal_on n k)) j [] ≡ get_or (link_step r m B) (j - m - m * (2 * r * n) - (2 * r + 1)) []
    row_link_at j l l2 l3 h =
        let e = link_length_lem r m B in
        past_first j l l2 l3 ∙ get_or-append (link_step r m B) _ [] (j - m - m * (2 * r * n) - (2 * r + 1)) (omega arith)

    pub row_last_at : (j : ℕ) → m ≤ j → m * (2 * r * n) ≤ j - m → 2 * r + 1 ≤ j - m - m * (2 * r * n)
        → (m - 1) * (2 * r * (2 * r)) ≤ j - m - m * (2 * r * n) - (2 * r + 1)
        → get_or (on_row n r m B (literal_on n k)) j []
        ≡ get_or (last_step r m B) (j - m - m * (2 * r * n) - (2 * r + 1) - (m - 1) * (2 * r * (2 * r))) []
    row_last_at j l l2 l3 l4 =
        let e = link_length_lem r m B in
        past_first j l l2 l3 ∙ get_d_right (link_step r m B) _ (j - m - m * (2 * r * n) - (2 * r + 1)) [] (omega arith)
        ∙ ap (λ (i : ℕ). get_or (last_step r m B) (j - m - m * (2 * r * n) - (2 * r + 1) - i) []) e
