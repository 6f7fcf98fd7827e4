-- What the store's promise gives the check: a filled store holds the formula. Assumes nothing.
use Rattle.std.specs.Prelude.{◌≡◌, refl, Bool, true, false, ℕ, zero, suc, ◌+◌, ◌*◌, ◌≤◌, ◌<◌, ℤ, get_or, take, drop}
use Rattle.std.proofs.Common.{sym, ◌∙◌, subst, add-one}
use Rattle.std.proofs.Math.Path.{ap}
use mathlib.Core.List.{List, [], ◌∷◌, map}
use native.Mathlib.Omega.{arith}
use Rattle.std.proofs.Math.IntN as Z
use Rattle.std.proofs.Math.ListN.{length}
use Rattle.std.proofs.Math.Seq.{ext_get_or}
use Rattle.prelude.specs.Lists.{Each}
use Rattle.prelude.specs.Lists.Laws.{length_tab, get_d_tab, each_out, each_then}
use Rattle.prelude.specs.Blocks.{flatten, pairs_from}
use Rattle.prelude.specs.Blocks.Laws.{flatten_room, pairs_length}
use Rattle.prelude.specs.Written.{written}
use Rattle.prelude.specs.Written.Laws.{written_length}
use Rattle.cnf.specs.Cnf.{Clause, Formula, signed_of}
use Rattle.cnf.specs.declared.Literal.{Literal}
use Rattle.formula_clauses.specs.Store.{signs}
use Rattle.formula_clauses.specs.Store.Laws.{signs_length, stored_offset, stored_length, stored_read}
use Rattle.lrat.specs.Bytes.{Inside, Below, literal_from, store_from, stored_clause, formula_in}
use Rattle.lrat.specs.State.{OriginalsInStore}

-- ---- literals read from the store are the part that take and drop give
drop_first : (l : List ℤ) (i : ℕ) → i < length l → drop i l ≡ get_or l i (Z.pos 0) ∷ drop (suc i) l
drop_first [] i h = absurd (omega arith)
drop_first (x ∷ l) zero h = refl
drop_first (x ∷ l) (suc i) h = drop_first l i (omega arith)

pub store_part : (n : ℕ) (l : List ℤ) (i : ℕ) → i + n ≤ length l → store_from n l i ≡ map literal_from (take n (drop i l))
unfolding store_from
store_part zero l i h = refl
store_part (suc n) l i h =
    ap (λ (c : Clause). literal_from (get_or l i (Z.pos 0)) ∷ c)
    (store_part n l (i + 1) (omega arith) ∙ ap (λ (k : ℕ). map literal_from (take n (drop k l))) (add-one i))
    ∙ sym (ap (λ (x : List ℤ). map literal_from (take (suc n) x)) (drop_first l i (omega arith)))

-- a literal that is stored is read back
read_back : (l : Literal) → 1 ≤ l.variable → literal_from (signed_of l) ≡ l
read_back l h = go l.variable l.negative h
  where
    go : (v : ℕ) (b : Bool) → 1 ≤ v → literal_from (signed_of (record { variable = v; negative = b })) ≡ record { variable = v; negative = b }
    go zero b h = absurd (omega arith)
    go (suc v) true h = refl
    go (suc v) false h = refl

read_all : (c : Clause) → Each (λ (l : Literal). 1 ≤ l.variable) c → map literal_from (signs c) ≡ c
read_all [] e = refl
read_all (l ∷ c) e = rw (read_back l e.0, read_all c e.1)

-- ---- a store that holds F: its literals and pairs, whatever stood there before
module _ (F : Formula) (variables : ℕ) (in_range : Each (Each (λ l. (1 ≤ l.variable) × (l.variable ≤ variables))) F) (old : List ℤ) (pairs : List ℕ)
    (room : length (flatten F) ≤ length old) (places : 2 * length F ≤ length pairs) where
  abbrev literals_now : List ℤ
  literals_now = written old 0 (signs (flatten F))

  abbrev pairs_now : List ℕ
  pairs_now = written pairs 0 (pairs_from 0 F)

  literals_long : length literals_now ≡ length old
  literals_long = written_length old 0 (signs (flatten F)) (let n = signs_length (flatten F) in omega arith)

  pairs_long : length pairs_now ≡ length pairs
  pairs_long = written_length pairs 0 (pairs_from 0 F) (let n = pairs_length 0 F in omega arith)

  clause_in : (k : ℕ) → k < length F → Each (λ l. (1 ≤ l.variable) × (l.variable ≤ variables)) (get_or F k [])
  clause_in k h = each_out (λ c. Each (λ l. (1 ≤ l.variable) × (l.variable ≤ variables)) c) F [] in_range k h

  pair_inside : (k : ℕ) → k < length F → get_or pairs_now (2 * k) 0 + get_or pairs_now (2 * k + 1) 0 ≤ length literals_now
  pair_inside k h =
      let a = stored_offset F k h pairs in
      let b = stored_length F k h pairs in
      let r = flatten_room F k h in
      let n = literals_long in
      omega arith

  -- pair k names clause k
  stored_is : (k : ℕ) → k < length F → stored_clause literals_now pairs_now k ≡ get_or F k []
  unfolding stored_clause
  stored_is k h =
      store_part (get_or pairs_now (2 * k + 1) 0) literals_now (get_or pairs_now (2 * k) 0) (pair_inside k h)
      ∙ rw (stored_offset F k h pairs, stored_length F k h pairs)
      (ap (map literal_from) (stored_read F k h old)
      ∙ read_all (get_or F k []) (each_then _ _ (get_or F k []) (λ l p. p.0) (clause_in k h)))

  -- so the store holds the formula
  pub formula_in_is : formula_in (length F) literals_now pairs_now ≡ F
  unfolding formula_in
  formula_in_is =
      ext_get_or [] _ _ (length_tab 0 (length F) (stored_clause literals_now pairs_now)) (λ i l.
      let h : i < length F = (let n = length_tab 0 (length F) (stored_clause literals_now pairs_now) in omega arith) in
      get_d_tab 0 (length F) (stored_clause literals_now pairs_now) i [] h
      ∙ ap (stored_clause literals_now pairs_now) (let z : 0 + i ≡ i = omega arith in z) ∙ stored_is i h)

  -- and each clause lies inside, its variables from 1 to top
  pub originals_in_store : OriginalsInStore (length F) literals_now pairs_now (variables + 1)
  originals_in_store =
      record {
        long = let n = pairs_long in omega arith;
        inside = pair_inside;
        below = λ k h. subst (Below (variables + 1)) (sym (stored_is k h))
            (each_then _ (Inside (variables + 1)) (get_or F k []) (λ l p. (omega (arith, p.0), omega (arith, p.1))) (clause_in k h));
      }
