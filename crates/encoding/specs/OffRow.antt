-- An off row: its clauses hold of some values of S exactly when no walk of closed switches joins the source and the sink.
-- Assumes nothing.
use Rattle.std.specs.Prelude.{◌≡◌, Bool, true, cond, List, [], ◌∷◌, eqb}
use Rattle.std.proofs.Math.Path.{sym, ap}
use Rattle.std.proofs.Common.{◌∙◌, subst, ⊎_elim}
use Rattle.std.proofs.Math.Bool.{false, not}
use Prim.Native.Nat.{ℕ, ◌+◌, ◌-◌, ◌*◌, ◌≤◌, ◌<◌}
use native.Mathlib.Omega.{arith}
use Rattle.std.proofs.Math.Dec.{T, eqb_refl}
use Rattle.prelude.specs.Tests.{T_of, T-eq, F-eq, ne→neqb, eq?, le?, or_l}
use Rattle.prelude.specs.Blocks.{for}
use Rattle.cnf.specs.Cnf.{Formula, Assignment, Sat}
use Rattle.cnf.specs.Cnf.Parts.{Sat-split, for_out, Sat-join, for_in, cond_in, then_out, one_out, same_out, same_in}
use Rattle.rows.specs.Rows.{Row}
use Rattle.rows.specs.declared.Kind.TheVariants.{Off}
use Rattle.network.specs.Networks.{Net, source, sink, switch_of, other, literal_at, label_at, closed_on, Walk, DoneIf}
use Rattle.network.specs.Check.{part}
use Rattle.network.proofs.MeaningLaws.{part_label, part_switch, part_walk}
use Rattle.formula.specs.Formula.{terminals, X, L, S, same_side, net_sides, switch_sides, off_row}
use Rattle.encoding.specs.Stands.{Stands, joined_in, joined_out, chosen_in, chosen_out}

-- what an off row's clauses say of the sides, the values of S
pub record Sides (r : ℕ) (shut : ℕ → Bool) (label : ℕ → ℕ) (side : ℕ → Bool) : Type 0 where
  pub at_source : side source ≡ false
  pub at_sink : side (sink r) ≡ true
  pub on_net : (i j : ℕ) → i < terminals r → j < terminals r → label i ≡ label j → side i ≡ side j
  pub on_switch : (s : ℕ) → s < r → T (shut s) → side (2 * s + 1) ≡ side (2 * s + 2)

-- the other side than the source's: another part once the ends of each closed switch are merged
unfoldable pub side_of : ℕ → (ℕ → Bool) → (ℕ → ℕ) → ℕ → Bool
side_of r shut label i = not (eqb (part shut label r i) (part shut label r source))

module _ (r : ℕ) (shut : ℕ → Bool) (label : ℕ → ℕ) where
  -- a walk stays on one side
  walk_side : (side : ℕ → Bool) → Sides r shut label side → (es : List ℕ) (a b : ℕ) → a < terminals r → b < terminals r
      → Walk r shut label a es b → side a ≡ side b
  walk_side side h [] a b p u w = h.on_net a b p u w
  walk_side side h (e ∷ es) a b p u w =
      let low : 1 ≤ e = w.1.low in
      let high : e ≤ 2 * r = w.1.high in
      h.on_net a e p (omega arith) w.0 ∙ over low high ∙ walk_side side h es (other e) b (omega arith) u w.2
    where
      over : 1 ≤ e → e ≤ 2 * r → side e ≡ side (other e)
      over low high =
          let first : ℕ = 2 * switch_of e + 1 in
          let second : ℕ = 2 * switch_of e + 2 in
          let ends : side first ≡ side second = h.on_switch (switch_of e) (omega arith) w.1.closed in
          ⊎_elim
          (λ (z : e ≡ first). ap side z ∙ ends ∙ ap side (let v : second ≡ other e = omega arith in v))
          (λ z. ap side (let v : e ≡ second = omega arith in v) ∙ sym ends ∙ ap side (let v : first ≡ other e = omega arith in v))
          (eq? e first)

  -- so none joins the source and the sink
  sides_none : (side : ℕ → Bool) → Sides r shut label side → (es : List ℕ) → Walk r shut label source es (sink r) → ⊥
  sides_none side h es w =
      subst T (sym h.at_sink ∙ sym (walk_side side h es source (sink r) (omega arith) (omega arith) w) ∙ h.at_source) tt

  -- where none does, the parts are such sides, and so are values that are the same
  none_sides : (side : ℕ → Bool) → ((i : ℕ) → i < terminals r → side i ≡ side_of r shut label i)
      → ((es : List ℕ) → Walk r shut label source es (sink r) → ⊥) → Sides r shut label side
  unfolding side_of
  none_sides side is none =
      record {
        at_source = is source (omega arith) ∙ ap not (T-eq (eqb (p source) (p source)) (eqb_refl (p source)));
        at_sink = is (sink r) (omega arith)
            ∙ T-eq (not (eqb (p (sink r)) (p source))) (ne→neqb (p (sink r)) (p source) (λ e.
            let w = part_walk r shut label r source (sink r) (omega arith) (sym e) in none w.0 w.1));
        on_net = λ i j a b e. is i a ∙ ap other_part (part_label r shut label r i j e) ∙ sym (is j b);
        on_switch = λ s h t.
            is (2 * s + 1) (omega arith) ∙ ap other_part (part_switch r shut label r s h t) ∙ sym (is (2 * s + 2) (omega arith));
      }
    where
      p : ℕ → ℕ
      p = part shut label r

      other_part : ℕ → Bool
      other_part k = not (eqb k (part shut label r source))

-- ---- the clauses of an off row, with B variables before it
module _ (n r m : ℕ) (w : Net) (α : Assignment) (stands : Stands n r w α) (B : ℕ) (row : Row) where
  -- the values of S
  abbrev side : ℕ → Bool
  side i = α (S B i)

  -- what the clauses say of them
  abbrev Says : Type 0
  Says = Sides r (closed_on row w) (label_at w) side

  -- "(−x −a b), (−x a −b)" say that two terminals are on one side where x is true
  same_sides : (x i j : ℕ) → Sat α (same_side x (S B i) (S B j)) → T (α x) → side i ≡ side j
  same_sides x i j s = same_out (α x) (side i) (side j) s.0 s.1.0

  -- and hold where they are
  sides_same : (x i j : ℕ) → (T (α x) → side i ≡ side j) → Sat α (same_side x (S B i) (S B j))
  sides_same x i j h = let two = same_in (α x) (side i) (side j) h in (two.0, (two.1, tt))

  -- "(−X(i,j) −S(i) S(j)), (−X(i,j) S(i) −S(j))"
  abbrev net_at : ℕ → ℕ → Formula
  net_at i j = same_side (X (terminals r) i j) (S B i) (S B j)

  -- for each j above i
  abbrev nets_from : ℕ → Formula
  nets_from i = for (i + 1) (terminals r - (i + 1)) (net_at i)

  -- they say that the terminals of one net are on one side: i<j
  net_up : Sat α (net_sides (terminals r) B) → (i j : ℕ) → i < j → j < terminals r → label_at w i ≡ label_at w j → side i ≡ side j
  unfolding net_sides
  net_up s i j l u e =
      same_sides (X (terminals r) i j) i j
      (for_out α (i + 1) (terminals r - (i + 1)) (net_at i)
      (for_out α 0 (terminals r) nets_from s i (omega arith) (omega arith)) j (omega arith) (omega arith))
      (joined_in n r w α stands i j (omega arith) u (omega arith) e)

  -- any i and j
  net_out : Sat α (net_sides (terminals r) B) → (i j : ℕ) → i < terminals r → j < terminals r → label_at w i ≡ label_at w j → side i ≡ side j
  net_out s i j a b e =
      ⊎_elim
      (λ (l : i ≤ j).
      ⊎_elim (λ (z : i ≡ j). ap side z) (λ d. net_up s i j (omega arith) b e) (eq? i j))
      (λ (l : j < i). sym (net_up s j i l a (sym e)))
      (le? i j)

  -- and hold where they are
  net_hold : Says → Sat α (net_sides (terminals r) B)
  unfolding net_sides
  net_hold h =
      for_in α 0 (terminals r) nets_from (λ i _ a. for_in α (i + 1) (terminals r - (i + 1)) (net_at i) (λ j l b.
      sides_same (X (terminals r) i j) i j (λ x.
      h.on_net i j (omega arith) (omega arith) (joined_out n r w α stands i j (omega arith) (omega arith) (omega arith) x))))

  -- "(−L(s,v) −S(a) S(b)), (−L(s,v) S(a) −S(b))" for a v that is 1 on the row
  abbrev switch_at : ℕ → ℕ → Formula
  switch_at s v = cond (row.value v) (same_side (L n (terminals r) s v) (S B (2 * s + 1)) (S B (2 * s + 2))) []

  -- for each v
  abbrev switches_at : ℕ → Formula
  switches_at s = for 0 (2 * n) (switch_at s)

  -- they say that the ends of a closed switch are on one side
  switch_out : Sat α (switch_sides n (terminals r) r B row.value) → (s : ℕ) → s < r → T (closed_on row w s)
      → side (2 * s + 1) ≡ side (2 * s + 2)
  unfolding switch_sides
  switch_out f s h y =
      let v : ℕ = literal_at w s in
      let low : v < 2 * n = stands.low s h in
      let c : Sat α (switches_at s) = for_out α 0 r switches_at f s (omega arith) (omega arith) in
      let d : Sat α (switch_at s v) = for_out α 0 (2 * n) (switch_at s) c v (omega arith) (omega arith) in
      same_sides (L n (terminals r) s v) (2 * s + 1) (2 * s + 2) (then_out α (row.value v) _ _ d y) (chosen_in n r w α stands s h)

  -- and hold where they are
  switch_hold : Says → Sat α (switch_sides n (terminals r) r B row.value)
  unfolding switch_sides
  switch_hold h =
      for_in α 0 r switches_at (λ s _ a. for_in α 0 (2 * n) (switch_at s) (λ v _ b.
      let there : s < r = omega arith in
      cond_in α (row.value v) _ _ (λ y. sides_same (L n (terminals r) s v) (2 * s + 1) (2 * s + 2) (λ x.
      let is : literal_at w s ≡ v = chosen_out n r w α stands s v there (omega arith) x in
      h.on_switch s there (subst (λ (i : ℕ). T (row.value i)) (sym is) y)))
      (λ _. tt)))

  -- where an off row's clauses hold, no walk joins the source and the sink
  pub off_none : Sat α (off_row n (terminals r) r B row.value) → DoneIf Off r m (closed_on row w) (label_at w)
  unfolding off_row
  off_none s =
      let two = Sat-split α (net_sides (terminals r) B) (switch_sides n (terminals r) r B row.value) s.1.1 in
      sides_none r (closed_on row w) (label_at w) side
      record {
        at_source = F-eq (side source) (one_out (not (side source)) s.0);
        at_sink = T-eq (side (sink r)) (one_out (side (sink r)) s.1.0);
        on_net = net_out two.0;
        on_switch = switch_out two.1;
      }

  -- and they hold where none does and the values of S are the sides of the parts
  pub none_off : DoneIf Off r m (closed_on row w) (label_at w)
      → ((i : ℕ) → i < terminals r → side i ≡ side_of r (closed_on row w) (label_at w) i)
      → Sat α (off_row n (terminals r) r B row.value)
  unfolding off_row
  none_off none is =
      let h : Says = none_sides r (closed_on row w) (label_at w) side is none in (
        or_l (not (side source)) false (T_of (not (side source)) (ap not h.at_source)),
        (
          or_l (side (sink r)) false (T_of (side (sink r)) h.at_sink),
          Sat-join α (net_sides (terminals r) B) (switch_sides n (terminals r) r B row.value) (net_hold h) (switch_hold h),
        ),
      )
