-- The decoded network is what the values describe: where the clauses of groups 1 and 2 hold, X is an equality of labels, L an equality
-- of literals, and the network has the form. Assumes nothing.
use Rattle.std.specs.Prelude.{◌≡◌, Bool, not, ◌||◌, ◌⊎◌, ℕ, ◌+◌, ◌-◌, ◌*◌, ◌≤◌, ◌<◌, T, eqb, ltb, length, replicate}
use Rattle.std.proofs.Common.{sym, ap, ◌∙◌, subst, inl, inr, ⊎_elim, arith, T_not, eqb→eq, lt→ltb, take_at}
use Rattle.std.proofs.Math.Path.{ap₂}
use mathlib.Core.List.{List, [], ◌∷◌}
use Rattle.std.proofs.Math.Dec.{eqb_refl}
use Rattle.std.proofs.Math.Arith.{le→nltb}
use Rattle.prelude.specs.Tests.{tests_eq, or_l, or_r, or_cases, eq→eqb, eq?, le?, cond-true, cond-false}
use Rattle.prelude.specs.Lists.{tab}
use Rattle.prelude.specs.Lists.Laws.{length_tab, get_d_tab, first_before, first_holds}
use Rattle.prelude.specs.Blocks.{for}
use Rattle.cnf.specs.Cnf.{neg, Assignment, Sat}
use Rattle.cnf.specs.Cnf.Parts.{for_out, some_out, imp2, no2}
use Rattle.formula.specs.Formula.{terminals, pair_number, X, L, triple, transitivity, choice, choices}
use Rattle.network.specs.Networks.{Net, FormedAs, literal_at, label_at}
use Rattle.network.specs.Value.{terminals_most, listed}
use Rattle.request.specs.Numbers.{switches_most}
use Rattle.answer.specs.Decode.{lowest, literal_for, label_for, decoded}
use Rattle.answer.specs.Decode.Laws.{entry}

-- the order of two numbers
abbrev Order : ℕ → ℕ → Type 0
Order i j = (i < j) ⊎ ((i ≡ j) ⊎ (j < i))

-- any two are in one
order : (i j : ℕ) → Order i j
order i j =
    ⊎_elim (λ (l : i ≤ j). ⊎_elim (λ (g : j ≤ i). inr (inl (omega arith))) (λ (g : i < j). inl g) (le? j i)) (λ (l : j < i). inr (inr l)) (le? i j)

-- the lowest number is at most any that passes, and passes itself
pub lowest_found : (p : ℕ → Bool) (c i : ℕ) → i < c → T (p i) → T (p (lowest p c)) × (lowest p c ≤ i)
unfolding lowest
lowest_found p c i h t =
    ⊎_elim (λ (l : lowest p c ≤ i). (subst (λ (k : ℕ). T (p k)) (entry c (lowest p c) (omega arith)) (first_holds p (tab 0 c (λ i. i)) 0 (omega (arith, length_tab 0 c (λ i. i)))), l))
    (λ (l : i < lowest p c). absurd (T_not (p i) (subst (λ (k : ℕ). T (not (p k))) (entry c i h) (first_before p (tab 0 c (λ i. i)) 0 i l)) t))
    (le? (lowest p c) i)

-- X(j,i) is X(i,j)
pub X-sym : (N i j : ℕ) → X N i j ≡ X N j i
unfolding X
X-sym N i j = go (order i j)
  where
    go : Order i j → X N i j ≡ X N j i
    go (inl h) =
        cond-true (ltb i j) (pair_number N i j) (pair_number N j i) (lt→ltb i j h)
        ∙ sym (cond-false (ltb j i) (pair_number N j i) (pair_number N i j) (le→nltb j i (omega arith)))
    go (inr (inl e)) = ap (λ (k : ℕ). X N k j) e ∙ ap (X N j) (sym e)
    go (inr (inr h)) =
        cond-false (ltb i j) (pair_number N i j) (pair_number N j i) (le→nltb i j (omega arith))
        ∙ sym (cond-true (ltb j i) (pair_number N j i) (pair_number N i j) (lt→ltb j i h))

-- the test that the label of j is found by: i is j, or joined to it
abbrev pub meets : ℕ → Assignment → ℕ → ℕ → Bool
meets r α i j = eqb i j || α (X (terminals r) i j)

module _ (r : ℕ) (α : Assignment) where
  -- a label is at or below its terminal
  pub label_low : (i : ℕ) → label_for r α i ≤ i
  unfolding label_for
  label_low i = (lowest_found (λ j. meets r α j i) (i + 1) i (omega arith) (or_l (eqb i i) (α (X (terminals r) i i)) (eqb_refl i))).1

  -- and meets it
  pub label_meets : (i : ℕ) → T (meets r α (label_for r α i) i)
  unfolding label_for
  label_meets i = (lowest_found (λ j. meets r α j i) (i + 1) i (omega arith) (or_l (eqb i i) (α (X (terminals r) i i)) (eqb_refl i))).0

  -- and at or below each terminal that meets it
  pub label_least : (i j : ℕ) → j ≤ i → T (meets r α j i) → label_for r α i ≤ j
  unfolding label_for
  label_least i j h t = (lowest_found (λ j. meets r α j i) (i + 1) j (omega arith) t).1

  -- X read the other way round
  joined_back : (i j : ℕ) → T (α (X (terminals r) i j)) → T (α (X (terminals r) j i))
  joined_back i j t = subst (λ (k : ℕ). T (α k)) (X-sym (terminals r) i j) t

  -- to meet is symmetric
  meets_back : (i j : ℕ) → T (meets r α i j) → T (meets r α j i)
  meets_back i j t =
      ⊎_elim (λ (e : T (eqb i j)). or_l (eqb j i) (α (X (terminals r) j i)) (eq→eqb j i (sym (eqb→eq i j e))))
      (λ (x : T (α (X (terminals r) i j))). or_r (eqb j i) (α (X (terminals r) j i)) (joined_back i j x))
      (or_cases (eqb i j) (α (X (terminals r) i j)) t)

-- Group 1: to meet is an equivalence, so the labels are equal exactly where X is true
module _ (r : ℕ) (α : Assignment) (sat : Sat α (transitivity (terminals r))) where
  -- the three clauses of i<j<k
  three : (i j k : ℕ) → i < j → j < k → k < terminals r → Sat α (triple (terminals r) i j k)
  unfolding transitivity
  three i j k a b c =
      for_out α (j + 1) (terminals r - (j + 1)) (λ k. triple (terminals r) i j k)
      (for_out α (i + 1) (terminals r - (i + 1)) (λ j. for (j + 1) (terminals r - (j + 1)) (λ k. triple (terminals r) i j k))
      (for_out α 0 (terminals r) (λ i. for (i + 1) (terminals r - (i + 1)) (λ j. for (j + 1) (terminals r - (j + 1)) (λ k. triple (terminals r) i j k))) sat i (omega arith) (omega arith))
      j (omega arith) (omega arith))
      k (omega arith) (omega arith)

  -- the first, second and third of them
  through : (i j k : ℕ) → i < j → j < k → k < terminals r → T (α (X (terminals r) i j)) → T (α (X (terminals r) j k)) → T (α (X (terminals r) i k))
  through i j k a b c = imp2 (α (X (terminals r) i j)) (α (X (terminals r) j k)) (α (X (terminals r) i k)) (three i j k a b c).0

  above : (i j k : ℕ) → i < j → j < k → k < terminals r → T (α (X (terminals r) i j)) → T (α (X (terminals r) i k)) → T (α (X (terminals r) j k))
  above i j k a b c = imp2 (α (X (terminals r) i j)) (α (X (terminals r) i k)) (α (X (terminals r) j k)) (three i j k a b c).1.0

  below : (i j k : ℕ) → i < j → j < k → k < terminals r → T (α (X (terminals r) i k)) → T (α (X (terminals r) j k)) → T (α (X (terminals r) i j))
  below i j k a b c = imp2 (α (X (terminals r) i k)) (α (X (terminals r) j k)) (α (X (terminals r) i j)) (three i j k a b c).1.1.0

  -- X is transitive, in each order of three terminals
  joined_through : (i j k : ℕ) → i < terminals r → j < terminals r → k < terminals r → (i ≡ k → ⊥) → T (α (X (terminals r) i j)) → T (α (X (terminals r) j k))
      → Order i j → Order j k → Order i k → T (α (X (terminals r) i k))
  joined_through i j k a b c d x y (inr (inl e)) o p = subst (λ (z : ℕ). T (α (X (terminals r) z k))) (sym e) y
  joined_through i j k a b c d x y (inl g) (inr (inl e)) p = subst (λ (z : ℕ). T (α (X (terminals r) i z))) e x
  joined_through i j k a b c d x y (inl g) (inl h) p = through i j k g h c x y
  joined_through i j k a b c d x y (inl g) (inr (inr h)) (inl l) = below i k j l h b x (joined_back r α j k y)
  joined_through i j k a b c d x y (inl g) (inr (inr h)) (inr (inl e)) = absurd (d e)
  joined_through i j k a b c d x y (inl g) (inr (inr h)) (inr (inr l)) = joined_back r α k i (below k i j l g b (joined_back r α j k y) x)
  joined_through i j k a b c d x y (inr (inr g)) (inr (inl e)) p = subst (λ (z : ℕ). T (α (X (terminals r) i z))) e x
  joined_through i j k a b c d x y (inr (inr g)) (inr (inr h)) p =
      joined_back r α k i (through k j i h g a (joined_back r α j k y) (joined_back r α i j x))
  joined_through i j k a b c d x y (inr (inr g)) (inl h) (inl l) = above j i k g l c (joined_back r α i j x) y
  joined_through i j k a b c d x y (inr (inr g)) (inl h) (inr (inl e)) = absurd (d e)
  joined_through i j k a b c d x y (inr (inr g)) (inl h) (inr (inr l)) = joined_back r α k i (above j k i h l a y (joined_back r α i j x))

  -- to meet is transitive
  pub meets_through : (i j k : ℕ) → i < terminals r → j < terminals r → k < terminals r → T (meets r α i j) → T (meets r α j k) → T (meets r α i k)
  meets_through i j k a b c s t =
      ⊎_elim (λ (e : T (eqb i j)). subst (λ (z : ℕ). T (meets r α z k)) (sym (eqb→eq i j e)) t)
      (λ (x : T (α (X (terminals r) i j))).
      ⊎_elim (λ (e : T (eqb j k)). subst (λ (z : ℕ). T (meets r α i z)) (eqb→eq j k e) s)
      (λ (y : T (α (X (terminals r) j k))).
      ⊎_elim (λ (e : i ≡ k). or_l (eqb i k) (α (X (terminals r) i k)) (eq→eqb i k e))
      (λ (d : i ≡ k → ⊥). or_r (eqb i k) (α (X (terminals r) i k)) (joined_through i j k a b c d x y (order i j) (order j k) (order i k)))
      (eq? i k))
      (or_cases (eqb j k) (α (X (terminals r) j k)) t))
      (or_cases (eqb i j) (α (X (terminals r) i j)) s)

  -- the labels of two that meet, one way
  label_at_most : (i j : ℕ) → i < terminals r → j < terminals r → T (meets r α i j) → label_for r α j ≤ label_for r α i
  label_at_most i j a b t =
      let low : label_for r α i ≤ i = label_low r α i in
      let own : label_for r α j ≤ j = label_low r α j in
      ⊎_elim (λ (l : label_for r α i ≤ j). label_least r α j (label_for r α i) l (meets_through (label_for r α i) i j (omega arith) a b (label_meets r α i) t))
      (λ (l : j < label_for r α i). omega arith)
      (le? (label_for r α i) j)

  -- terminals that meet have the same label
  label_same : (i j : ℕ) → i < terminals r → j < terminals r → T (meets r α i j) → label_for r α i ≡ label_for r α j
  label_same i j a b t =
      let le : label_for r α j ≤ label_for r α i = label_at_most i j a b t in
      let ge : label_for r α i ≤ label_for r α j = label_at_most j i b a (meets_back r α i j t) in
      omega arith

  -- terminals of the same label meet
  same_label : (i j : ℕ) → i < terminals r → j < terminals r → label_for r α i ≡ label_for r α j → T (meets r α i j)
  same_label i j a b e =
      let low : label_for r α i ≤ i = label_low r α i in
      meets_through i (label_for r α i) j a (omega arith) b (meets_back r α (label_for r α i) i (label_meets r α i))
      (subst (λ (k : ℕ). T (meets r α k j)) (sym e) (label_meets r α j))

  -- two terminals share a label exactly where X joins them
  pub label_joined : (i j : ℕ) → i < terminals r → j < terminals r → (i ≡ j → ⊥) → α (X (terminals r) i j) ≡ eqb (label_for r α i) (label_for r α j)
  label_joined i j a b d =
      tests_eq (α (X (terminals r) i j)) (eqb (label_for r α i) (label_for r α j))
      (λ t. eq→eqb (label_for r α i) (label_for r α j) (label_same i j a b (or_r (eqb i j) (α (X (terminals r) i j)) t)))
      (λ t.
      ⊎_elim (λ (e : T (eqb i j)). absurd (d (eqb→eq i j e))) (λ (x : T (α (X (terminals r) i j))). x)
      (or_cases (eqb i j) (α (X (terminals r) i j)) (same_label i j a b (eqb→eq (label_for r α i) (label_for r α j) t))))

  -- a label is its own label
  pub label_own : (i : ℕ) → i < terminals r → label_for r α (label_for r α i) ≡ label_for r α i
  label_own i h =
      let low : label_for r α i ≤ i = label_low r α i in
      label_same (label_for r α i) i (omega arith) h (label_meets r α i)

-- Group 2: exactly one L of a switch is true
module _ (n r : ℕ) (α : Assignment) (sat : Sat α (choices n (terminals r) r)) where
  -- the clauses of one switch
  chosen : (s : ℕ) → s < r → Sat α (choice n (terminals r) s)
  unfolding choices
  chosen s h = for_out α 0 r (choice n (terminals r)) sat s (omega arith) (omega arith)

  -- the L of the literal is true
  literal_some : (s : ℕ) → s < r → T (α (L n (terminals r) s (literal_for n r α s))) × (literal_for n r α s < 2 * n)
  unfolding choice literal_for
  literal_some s h =
      let w = some_out α (2 * n) (λ v. L n (terminals r) s (0 + v)) (chosen s h).0 in
      let f = lowest_found (λ v. α (L n (terminals r) s v)) (2 * n) (0 + w.0) (omega arith) w.2 in
      (f.0, omega arith)

  -- no two L of a switch are
  literal_two : (s v w : ℕ) → s < r → v < w → w < 2 * n → T (α (L n (terminals r) s v)) → T (α (L n (terminals r) s w)) → ⊥
  unfolding choice
  literal_two s v w h a b =
      no2 (α (L n (terminals r) s v)) (α (L n (terminals r) s w))
      (for_out α (v + 1) (2 * n - (v + 1)) (λ w. (neg (L n (terminals r) s v) ∷ neg (L n (terminals r) s w) ∷ []) ∷ [])
      (for_out α 0 (2 * n) (λ v. for (v + 1) (2 * n - (v + 1)) (λ w. (neg (L n (terminals r) s v) ∷ neg (L n (terminals r) s w) ∷ []) ∷ [])) (chosen s h).1 v (omega arith) (omega arith))
      w (omega arith) (omega arith)).0

  -- a literal is below 2n
  pub literal_low : (s : ℕ) → s < r → literal_for n r α s < 2 * n
  literal_low s h = (literal_some s h).1

  -- a switch has the literal whose L is true
  pub literal_is : (s v : ℕ) → s < r → v < 2 * n → α (L n (terminals r) s v) ≡ eqb (literal_for n r α s) v
  literal_is s v h l =
      tests_eq (α (L n (terminals r) s v)) (eqb (literal_for n r α s) v) (λ t. eq→eqb (literal_for n r α s) v (go t (order (literal_for n r α s) v)))
      (λ t. subst (λ (k : ℕ). T (α (L n (terminals r) s k))) (eqb→eq (literal_for n r α s) v t) (literal_some s h).0)
    where
      go : T (α (L n (terminals r) s v)) → Order (literal_for n r α s) v → literal_for n r α s ≡ v
      go t (inl g) = absurd (literal_two s (literal_for n r α s) v h g l (literal_some s h).0 t)
      go t (inr (inl e)) = e
      go t (inr (inr g)) = absurd (literal_two s v (literal_for n r α s) h g (literal_some s h).1 t (literal_some s h).0)

module _ (n r : ℕ) (α : Assignment) where
  -- the lists of the decoded network
  pub decoded_listed : listed r (decoded n r α)
      ≡ record { literals = tab 0 r (literal_for n r α); labels = tab 0 (terminals r) (label_for r α) }
  unfolding listed decoded
  decoded_listed =
      ap₂ (λ (x y : List ℕ). record { literals = x; labels = y })
      (take_at (tab 0 r (literal_for n r α)) (replicate (switches_most - r) 0) r (length_tab 0 r (literal_for n r α)))
      (take_at (tab 0 (terminals r) (label_for r α)) (replicate (terminals_most - terminals r) 0) (terminals r)
      (length_tab 0 (terminals r) (label_for r α)))

  -- and their entries
  pub decoded_literal : (s : ℕ) → s < r → literal_at (listed r (decoded n r α)) s ≡ literal_for n r α s
  decoded_literal s h =
      ap (λ (w : Net). literal_at w s) decoded_listed ∙ get_d_tab 0 r (literal_for n r α) s 0 h ∙ ap (literal_for n r α) (let z : 0 + s ≡ s = omega arith in z)

  pub decoded_label : (i : ℕ) → i < terminals r → label_at (listed r (decoded n r α)) i ≡ label_for r α i
  decoded_label i h =
      ap (λ (w : Net). label_at w i) decoded_listed ∙ get_d_tab 0 (terminals r) (label_for r α) i 0 h
      ∙ ap (label_for r α) (let z : 0 + i ≡ i = omega arith in z)

-- the decoded network has the form
pub decoded_formed : (n r : ℕ) (α : Assignment) → Sat α (transitivity (terminals r)) → Sat α (choices n (terminals r) r) → FormedAs n r (listed r (decoded n r α))
decoded_formed n r α joins picks =
    record {
      literals_long = ap (λ (w : Net). length w.literals) (decoded_listed n r α) ∙ length_tab 0 r (literal_for n r α);
      labels_long = ap (λ (w : Net). length w.labels) (decoded_listed n r α) ∙ length_tab 0 (terminals r) (label_for r α);
      literals_low = λ s h. subst (λ (x : ℕ). x < 2 * n) (sym (decoded_literal n r α s h)) (literal_low n r α picks s h);
      labels_low = λ i h. subst (λ (x : ℕ). x ≤ i) (sym (decoded_label n r α i h)) (label_low r α i);
      labels_own = λ i h.
          let low : label_for r α i ≤ i = label_low r α i in
          ap (label_at (listed r (decoded n r α))) (decoded_label n r α i h) ∙ decoded_label n r α (label_for r α i) (omega arith)
          ∙ label_own r α joins i h ∙ sym (decoded_label n r α i h);
    }
