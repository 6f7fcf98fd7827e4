-- An assignment that stands for a network: X is the equality of two labels, L of a switch's literal and a number. The clauses of
-- groups 1 and 2 hold of it; and where they hold of an assignment, it stands for the network decoded from it. Assumes nothing.
use Rattle.std.specs.Prelude.{◌≡◌, [], ◌∷◌, ◌≢◌, ℕ, ◌+◌, ◌-◌, ◌*◌, ◌<◌, T, eqb}
use Rattle.std.proofs.Common.{sym, ◌∙◌, subst, arith, eqb→eq}
use Rattle.std.proofs.Math.Dec.{eqb_refl}
use Rattle.prelude.specs.Tests.{eq→eqb}
use Rattle.prelude.specs.Blocks.{for}
use Rattle.cnf.specs.Cnf.{neg, Formula, Assignment, Sat}
use Rattle.cnf.specs.Cnf.Parts.{for_in, some_in, imp2_in, no2_in}
use Rattle.request.specs.declared.Request.{Request}
use Rattle.network.specs.Networks.{Net, literal_at, label_at}
use Rattle.network.specs.Value.{listed}
use Rattle.formula.specs.Formula.{terminals, X, L, triple, transitivity, choice, choices}
use Rattle.answer.specs.Decode.{decoded}
use Rattle.answer.specs.Decode.Meaning.{decoded_formed}
use Rattle.answer.proofs.ReadingMeaning.{same_test, literal_test}

-- α stands for the network w of r switches over n inputs
pub record Stands (n r : ℕ) (w : Net) (α : Assignment) : Type 0 where
  pub joined : (i j : ℕ) → i < terminals r → j < terminals r → i ≢ j → α (X (terminals r) i j) ≡ eqb (label_at w i) (label_at w j)
  pub chosen : (s v : ℕ) → s < r → v < 2 * n → α (L n (terminals r) s v) ≡ eqb (literal_at w s) v
  pub low : (s : ℕ) → s < r → literal_at w s < 2 * n

module _ (n r : ℕ) (w : Net) (α : Assignment) (stands : Stands n r w α) where
  -- X is true where two labels are equal
  pub joined_in : (i j : ℕ) → i < terminals r → j < terminals r → i ≢ j → label_at w i ≡ label_at w j → T (α (X (terminals r) i j))
  joined_in i j a b d e = subst T (sym (stands.joined i j a b d)) (eq→eqb _ _ e)

  -- and there alone
  pub joined_out : (i j : ℕ) → i < terminals r → j < terminals r → i ≢ j → T (α (X (terminals r) i j)) → label_at w i ≡ label_at w j
  joined_out i j a b d t = eqb→eq _ _ (subst T (stands.joined i j a b d) t)

  -- L is true of a switch's literal
  pub chosen_in : (s : ℕ) → s < r → T (α (L n (terminals r) s (literal_at w s)))
  chosen_in s h = subst T (sym (stands.chosen s (literal_at w s) h (stands.low s h))) (eqb_refl (literal_at w s))

  -- and of no other
  pub chosen_out : (s v : ℕ) → s < r → v < 2 * n → T (α (L n (terminals r) s v)) → literal_at w s ≡ v
  chosen_out s v h l t = eqb→eq (literal_at w s) v (subst T (stands.chosen s v h l) t)

  -- equality of labels is an equivalence: the clauses of i<j<k
  triple_holds : (i j k : ℕ) → i < j → j < k → k < terminals r → Sat α (triple (terminals r) i j k)
  triple_holds i j k a b c =
      let ij = joined_out i j (omega arith) (omega arith) (omega arith) in
      let jk = joined_out j k (omega arith) (omega arith) (omega arith) in
      let ik = joined_out i k (omega arith) (omega arith) (omega arith) in (
        imp2_in (α (X (terminals r) i j)) (α (X (terminals r) j k)) (α (X (terminals r) i k)) (λ x y.
            joined_in i k (omega arith) (omega arith) (omega arith) (ij x ∙ jk y)),
        (
          imp2_in (α (X (terminals r) i j)) (α (X (terminals r) i k)) (α (X (terminals r) j k)) (λ x y.
              joined_in j k (omega arith) (omega arith) (omega arith) (sym (ij x) ∙ ik y)),
          (
            imp2_in (α (X (terminals r) i k)) (α (X (terminals r) j k)) (α (X (terminals r) i j)) (λ x y.
                joined_in i j (omega arith) (omega arith) (omega arith) (ik x ∙ sym (jk y))),
            tt,
          ),
        ),
      )

  -- for each k above j
  abbrev triples_at : ℕ → ℕ → Formula
  triples_at i j = for (j + 1) (terminals r - (j + 1)) (triple (terminals r) i j)

  -- for each j above i
  abbrev triples_from : ℕ → Formula
  triples_from i = for (i + 1) (terminals r - (i + 1)) (triples_at i)

  -- group 1 holds
  pub nets_hold : Sat α (transitivity (terminals r))
  unfolding transitivity
  nets_hold =
      for_in α 0 (terminals r) triples_from (λ i _ a. for_in α (i + 1) (terminals r - (i + 1)) (triples_at i) (λ j b _.
      for_in α (j + 1) (terminals r - (j + 1)) (triple (terminals r) i j) (λ k c d.
      triple_holds i j k (omega arith) (omega arith) (omega arith))))

  -- "(−L(s,v) −L(s,w))"
  abbrev not_both : ℕ → ℕ → ℕ → Formula
  not_both s v u = (neg (L n (terminals r) s v) ∷ neg (L n (terminals r) s u) ∷ []) ∷ []

  -- for each w above v
  abbrev not_both_from : ℕ → ℕ → Formula
  not_both_from s v = for (v + 1) (2 * n - (v + 1)) (not_both s v)

  -- a switch has one literal
  choice_holds : (s : ℕ) → s < r → Sat α (choice n (terminals r) s)
  unfolding choice
  choice_holds s h = (
    some_in α 0 (2 * n) (L n (terminals r) s) (literal_at w s) (omega arith) (omega (arith, stands.low s h)) (chosen_in s h),
    for_in α 0 (2 * n) (not_both_from s) (λ v _ a. for_in α (v + 1) (2 * n - (v + 1)) (not_both s v) (λ u b c. (
      no2_in (α (L n (terminals r) s v)) (α (L n (terminals r) s u)) (λ x y.
          let e : literal_at w s ≡ v = chosen_out s v h (omega arith) x in
          let f : literal_at w s ≡ u = chosen_out s u h (omega arith) y in
          omega arith),
      tt,
    ))),
  )

  -- group 2 holds
  pub picks_hold : Sat α (choices n (terminals r) r)
  unfolding choices
  picks_hold = for_in α 0 r (choice n (terminals r)) (λ s _ h. choice_holds s (omega arith))

-- where groups 1 and 2 hold, an assignment stands for the network decoded from it
pub decoded_stands : (q : Request) (α : Assignment) → Sat α (transitivity (terminals q.r)) → Sat α (choices q.n (terminals q.r) q.r)
    → Stands q.n q.r (listed q.r (decoded q.n q.r α)) α
decoded_stands q α nets picks =
    record {
      joined = same_test q α nets picks;
      chosen = literal_test q α nets picks;
      low = (decoded_formed q.n q.r α nets picks).literals_low;
    }
