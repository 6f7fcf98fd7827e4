-- A clause under the bytes, one literal at a time. Assumes nothing.
use Rattle.std.specs.Prelude.{◌≡◌, refl, Bool, true, false, List, [], ◌∷◌, ℕ, zero, suc, ◌+◌, ◌-◌, ◌≤◌, ◌<◌, eqb, ℤ, length, get_or}
use Rattle.std.proofs.Math.Path.{sym, ap}
use Rattle.std.proofs.Common.{◌∙◌, subst, arith}
use Rattle.std.proofs.Math.Option.{Option, none, some}
use Rattle.std.proofs.Math.IntN as Z
use Rattle.std.specs.Int.{from_bool}
use Rattle.prelude.specs.Signed.{is_negative, variable}
use Rattle.cnf.specs.Cnf.{Clause}
use Rattle.cnf.specs.declared.Literal.{Literal}
use Rattle.lrat.specs.declared.Found.{Found}
use Rattle.lrat.specs.declared.Found.TheVariants.{AllFalse, Unset, Other}
use Rattle.lrat.specs.Rules.{literal_value, minus_of, before, found}
use Rattle.lrat.specs.Words.{literal, literal_of}
use Rattle.lrat.specs.Bytes.{values_in, DuringLine, found_in, Below, literal_from, word_of, store_from}
use Rattle.lrat.specs.Bytes.Scan.{joined, with_literal}
use Rattle.lrat.specs.Bytes.Laws.{value_unset, value_false, value_true}
use Rattle.numeral.specs.Number.{Read}

-- ---- the minus of a literal as a number, and back
pub sign_back : (b : Bool) → eqb (minus_of b) 1 ≡ b
sign_back true = refl
sign_back false = refl

pub minus_most : (b : Bool) → minus_of b ≤ 1
minus_most true = omega arith
minus_most false = omega arith

pub byte_minus : (b : Bool) → from_bool b ≡ minus_of b
byte_minus true = refl
byte_minus false = refl

-- ---- what was found so far, and the rest
joined_end : (f : Found) → joined f AllFalse ≡ f
joined_end AllFalse = refl
joined_end (Unset v m) = refl
joined_end Other = refl

joined_other : (f : Found) → joined f Other ≡ Other
joined_other AllFalse = refl
joined_other (Unset v m) = refl
joined_other Other = refl

joined_before : (f : Found) (o : Option Bool) (l : Literal) (g : Found) → joined f (before o l g) ≡ joined (joined f (before o l AllFalse)) g
joined_before AllFalse none l AllFalse = refl
joined_before AllFalse none l (Unset w k) = refl
joined_before AllFalse none l Other = refl
joined_before (Unset v m) none l AllFalse = refl
joined_before (Unset v m) none l (Unset w k) = refl
joined_before (Unset v m) none l Other = refl
joined_before Other none l g = refl
joined_before AllFalse (some false) l g = refl
joined_before (Unset v m) (some false) l g = refl
joined_before Other (some false) l g = refl
joined_before AllFalse (some true) l g = refl
joined_before (Unset v m) (some true) l g = refl
joined_before Other (some true) l g = refl

module _ (g : ℕ) (vs : List ℕ) (f : Found) (v : ℕ) (m : Bool) where
  abbrev here : Literal
  here = record { variable = v; negative = m }

  value_back : literal_value (values_in g vs) (literal (minus_of m) v) ≡ literal_value (values_in g vs) here
  value_back = ap (λ (b : Bool). literal_value (values_in g vs) (record { variable = v; negative = b })) (sign_back m)

  -- its byte is that of a false literal
  pub with_false : get_or vs v 0 ≡ g + minus_of m → f ≡ with_literal g vs f here
  unfolding with_literal
  with_false e = sym (ap (λ (o : Option Bool). joined f (before o here AllFalse)) (sym value_back ∙ value_false g vs (minus_of m) v (minus_most m) e) ∙ joined_end f)

  -- that of an unset one
  with_unset : get_or vs v 0 < g → with_literal g vs f here ≡ joined f (Unset v m)
  unfolding with_literal
  with_unset h = ap (λ (o : Option Bool). joined f (before o here AllFalse)) (sym value_back ∙ value_unset g vs (minus_of m) v h)

  pub with_first : get_or vs v 0 < g → f ≡ AllFalse → Unset v m ≡ with_literal g vs f here
  with_first h e = sym (with_unset h ∙ ap (λ (x : Found). joined x (Unset v m)) e)

  pub with_second : get_or vs v 0 < g → (f ≡ AllFalse → ⊥) → Other ≡ with_literal g vs f here
  with_second h d = sym (with_unset h ∙ second f d)
    where
      second : (x : Found) → (x ≡ AllFalse → ⊥) → joined x (Unset v m) ≡ Other
      second AllFalse n = absurd (n refl)
      second (Unset w k) n = refl
      second Other n = refl

  -- that of a true one
  pub with_true : (get_or vs v 0 ≡ g + minus_of m → ⊥) → g ≤ get_or vs v 0 → DuringLine g vs → Other ≡ with_literal g vs f here
  unfolding with_literal
  with_true d h during =
      sym (ap (λ (o : Option Bool). joined f (before o here AllFalse)) (sym value_back ∙ value_true g vs (minus_of m) v (minus_most m) d h (during.most v))
      ∙ joined_other f)

-- ---- a scan under way: what was found of the whole clause by what was found so far and its rest
pub record Scanning (g : ℕ) (vs : List ℕ) (whole : Clause) (so : Found) (rest : Clause) : Type 0 where
  pub so_far : found (values_in g vs) whole ≡ joined so (found (values_in g vs) rest)
  pub below : Below (length vs) rest

pub scan_start : {g : ℕ} {vs : List ℕ} {c : Clause} → Below (length vs) c → Scanning g vs c AllFalse c
scan_start b = record { so_far = refl; below = b }

module _ {g : ℕ} {vs : List ℕ} {whole : Clause} {so : Found} {rest : Clause} (s : Scanning g vs whole so rest) where
  pub scan_end : rest ≡ [] → so ≡ found_in g vs whole
  unfolding found_in
  scan_end e = sym (s.so_far ∙ ap (λ (r : Clause). joined so (found (values_in g vs) r)) e ∙ joined_end so)

  module _ (l : Literal) {ls : Clause} (step : rest ≡ l ∷ ls) where
    below_rest : Below (length vs) (l ∷ ls)
    below_rest = subst (Below (length vs)) step s.below

    pub scan_var : l.variable < length vs
    scan_var = below_rest.0.1

    pub scan_more : Scanning g vs whole (with_literal g vs so l) ls
    unfolding with_literal
    scan_more =
        record {
          so_far = s.so_far ∙ ap (λ (r : Clause). joined so (found (values_in g vs) r)) step
              ∙ joined_before so (literal_value (values_in g vs) l) l (found (values_in g vs) ls);
          below = below_rest.1;
        }

    -- nothing after it changes this
    pub scan_other : Other ≡ with_literal g vs so l → Other ≡ found_in g vs whole
    unfolding found_in with_literal
    scan_other e = sym (scan_more.so_far ∙ ap (λ (f : Found). joined f (found (values_in g vs) ls)) (sym e))

    -- a literal has a variable
    pub scan_named : l.variable ≡ 0 → ⊥
    scan_named e = omega (arith, below_rest.0.0)

    -- its byte is that of a false literal
    pub scan_false : get_or vs l.variable 0 ≡ g + minus_of l.negative → Scanning g vs whole so ls
    scan_false e = subst (λ (f : Found). Scanning g vs whole f ls) (sym (with_false g vs so l.variable l.negative e)) scan_more

    -- that of a true one
    pub scan_true : (get_or vs l.variable 0 ≡ g + minus_of l.negative → ⊥) → g ≤ get_or vs l.variable 0 → DuringLine g vs → Other ≡ found_in g vs whole
    scan_true d h during = scan_other (with_true g vs so l.variable l.negative d h during)

    -- that of an unset one
    pub scan_second : get_or vs l.variable 0 < g → (so ≡ AllFalse → ⊥) → Other ≡ found_in g vs whole
    scan_second h d = scan_other (with_second g vs so l.variable l.negative h d)

    pub scan_first : get_or vs l.variable 0 < g → so ≡ AllFalse → Scanning g vs whole (Unset l.variable l.negative) ls
    scan_first h e = subst (λ (f : Found). Scanning g vs whole f ls) (sym (with_first g vs so l.variable l.negative h e)) scan_more

-- ---- the store's literals, one by one
literal_from_lem : (x : ℤ) → literal_from x ≡ literal (minus_of (is_negative x)) (variable x)
literal_from_lem x = ap (λ (b : Bool). let l : Literal = record { variable = variable x; negative = b } in l) (sym (sign_back (is_negative x)))

store_first : (k : ℕ) (lits : List ℤ) (i : ℕ) → 0 < k
    → store_from k lits i ≡ literal_of (word_of (get_or lits i (Z.pos 0))) ∷ store_from (k - 1) lits (i + 1)
unfolding store_from
store_first zero lits i h = absurd (omega arith)
store_first (suc k) lits i h =
    ap (λ (l : Literal). l ∷ store_from k lits (i + 1)) (literal_from_lem (get_or lits i (Z.pos 0)))
    ∙ ap (λ (n : ℕ). literal_of (word_of (get_or lits i (Z.pos 0))) ∷ store_from n lits (i + 1)) (let z : k ≡ suc k - 1 = omega arith in z)

module _ (n : ℕ) (lits : List ℤ) (from i : ℕ) (w : Read) (is : w ≡ word_of (get_or lits (from + i) (Z.pos 0))) where
  pub store_more : i < n → store_from (n - i) lits (from + i) ≡ literal_of w ∷ store_from (n - (i + 1)) lits (from + (i + 1))
  store_more h =
      store_first (n - i) lits (from + i) (omega arith)
      ∙ (let a : n - i - 1 ≡ n - (i + 1) = omega arith in let b : from + i + 1 ≡ from + (i + 1) = omega arith in
      rw (a, b) (ap (λ (v : Read). literal_of v ∷ store_from (n - (i + 1)) lits (from + (i + 1))) (sym is)))

  pub store_sign : w.minus ≤ 1
  store_sign = rw is (minus_most (is_negative (get_or lits (from + i) (Z.pos 0))))

pub store_end : (n : ℕ) (lits : List ℤ) (from i : ℕ) → n ≤ i → store_from (n - i) lits (from + i) ≡ []
unfolding store_from
store_end n lits from i h = rw (let z : n - i ≡ 0 = omega arith in z)

pub store_start : (n : ℕ) (lits : List ℤ) (from : ℕ) → store_from n lits from ≡ store_from (n - 0) lits (from + 0)
store_start n lits from = let a : n ≡ n - 0 = omega arith in let b : from ≡ from + 0 = omega arith in rw (← a, ← b)
