-- "A dangling switch may be added": a network with one switch more, whose two ends are alone on their nets, does the same job.
-- The new switch is the last one, so the sink moves up by two terminals. Assumes nothing.
use Rattle.std.specs.Prelude.{◌≡◌, refl, cond, List, [], ◌∷◌, ◌++◌, ◌≢◌, T, leb, length, get_or}
use Rattle.std.proofs.Common.{sym, ◌∙◌, subst, le→leb}
use Rattle.std.proofs.Math.Path.{ap, ap₂}
use Rattle.std.proofs.Math.Logic.{⊎_elim}
use Prim.Native.Nat.{ℕ, zero, suc, ◌+◌, ◌*◌, ◌≤◌, ◌<◌}
use native.Mathlib.Omega.{arith}
use Rattle.std.proofs.Math.Arith.{lt→nleb}
use Rattle.std.proofs.Math.ListN.{length-append, get_or-eq_default}
use Rattle.prelude.specs.Tests.{le?, cond-true, cond-false}
use Rattle.prelude.specs.Lists.{tab}
use Rattle.prelude.specs.Lists.Laws.{length_tab, get_d_tab, each_then}
use Rattle.rows.specs.Rows.{Row, rows_of}
use Rattle.rows.specs.declared.Kind.{Kind}
use Rattle.rows.specs.declared.Kind.TheVariants.{On, Off, Free}
use Rattle.request.specs.declared.Request.{Request}
use Rattle.network.specs.Networks.{terminals, Net, source, sink, switch_of, other, literal_at, label_at, switches, FormedAs, Formed, closed_on, Walk, DoneIf, Done, DoesAll, Does}

-- the number that a terminal of r switches has after the new switch: the sink's is two more
unfoldable pub moved : ℕ → ℕ → ℕ
moved r t = cond (leb t (2 * r)) t (t + 2)

-- the label of each terminal: the old terminals keep their nets, the new ends 2r+1 and 2r+2 are alone
unfoldable pub grown_label : ℕ → (ℕ → ℕ) → ℕ → ℕ
grown_label r label t = cond (leb t (2 * r)) (label t) (cond (leb t (2 * r + 2)) t (moved r (label (sink r))))

-- the network with one switch more, of literal 0
unfoldable pub grown : Net → Net
grown w =
    record {
      literals = w.literals ++ (0 ∷ []);
      labels = tab 0 (2 * suc (switches w) + 2) (grown_label (switches w) (label_at w));
    }

-- a terminal that keeps its number
moved_low : (r t : ℕ) → t ≤ 2 * r → moved r t ≡ t
unfolding moved
moved_low r t h = cond-true (leb t (2 * r)) _ _ (le→leb t (2 * r) h)

-- the sink
moved_high : (r t : ℕ) → 2 * r < t → moved r t ≡ t + 2
unfolding moved
moved_high r t h = cond-false (leb t (2 * r)) _ _ (lt→nleb t (2 * r) h)

-- no two terminals get one number
moved_one : (r a b : ℕ) → moved r a ≡ moved r b → a ≡ b
moved_one r a b e =
    ⊎_elim
    (λ (h : a ≤ 2 * r).
    ⊎_elim (λ (k : b ≤ 2 * r). sym (moved_low r a h) ∙ e ∙ moved_low r b k)
    (λ (k : 2 * r < b). absurd (omega (arith, moved_low r a h, moved_high r b k))) (le? b (2 * r)))
    (λ (h : 2 * r < a).
    ⊎_elim (λ (k : b ≤ 2 * r). absurd (omega (arith, moved_high r a h, moved_low r b k)))
    (λ (k : 2 * r < b). omega (arith, moved_high r a h, moved_high r b k)) (le? b (2 * r)))
    (le? a (2 * r))

-- and none gets a new end's
moved_old : (r t e : ℕ) → 2 * r < e → e ≤ 2 * r + 2 → moved r t ≢ e
moved_old r t e l u z =
    ⊎_elim (λ (h : t ≤ 2 * r). omega (arith, moved_low r t h))
    (λ (h : 2 * r < t). omega (arith, moved_high r t h))
    (le? t (2 * r))

-- each stays within the terminals
moved_within : (r t : ℕ) → t < terminals r → moved r t < 2 * suc r + 2
moved_within r t h =
    ⊎_elim (λ (k : t ≤ 2 * r). omega (arith, moved_low r t k))
    (λ (k : 2 * r < t). omega (arith, moved_high r t k))
    (le? t (2 * r))

-- the label of an old terminal below the sink
label_low : (r : ℕ) (label : ℕ → ℕ) (t : ℕ) → t ≤ 2 * r → grown_label r label t ≡ label t
unfolding grown_label
label_low r label t h = cond-true (leb t (2 * r)) _ _ (le→leb t (2 * r) h)

-- of a new end
label_new : (r : ℕ) (label : ℕ → ℕ) (t : ℕ) → 2 * r < t → t ≤ 2 * r + 2 → grown_label r label t ≡ t
unfolding grown_label
label_new r label t l h =
    cond-false (leb t (2 * r)) _ _ (lt→nleb t (2 * r) l) ∙ cond-true (leb t (2 * r + 2)) _ _ (le→leb t (2 * r + 2) h)

-- of the sink
label_sink : (r : ℕ) (label : ℕ → ℕ) (t : ℕ) → 2 * r + 2 < t → grown_label r label t ≡ moved r (label (sink r))
unfolding grown_label
label_sink r label t h =
    cond-false (leb t (2 * r)) _ _ (lt→nleb t (2 * r) (omega arith))
    ∙ cond-false (leb t (2 * r + 2)) _ _ (lt→nleb t (2 * r + 2) h)

-- the literals are the same at any index
literal_same : (l : List ℕ) (s : ℕ) → get_or (l ++ (0 ∷ [])) s 0 ≡ get_or l s 0
literal_same [] zero = refl
literal_same [] (suc s) = refl
literal_same (x ∷ l) zero = refl
literal_same (x ∷ l) (suc s) = literal_same l s

module _ (n r : ℕ) (w : Net) (size : switches w ≡ r) (form : FormedAs n r w) where
  -- an old terminal's label moves as the terminals do
  label_moved : (t : ℕ) → t < terminals r → grown_label r (label_at w) (moved r t) ≡ moved r (label_at w t)
  label_moved t h =
      let low = form.labels_low t h in
      ⊎_elim
      (λ (k : t ≤ 2 * r).
      ap (grown_label r (label_at w)) (moved_low r t k) ∙ label_low r (label_at w) t k
      ∙ sym (moved_low r (label_at w t) (omega arith)))
      (λ (k : 2 * r < t).
      ap (grown_label r (label_at w)) (moved_high r t k) ∙ label_sink r (label_at w) (t + 2) (omega arith)
      ∙ ap (λ (x : ℕ). moved r (label_at w x)) (let z : sink r ≡ t = omega arith in z))
      (le? t (2 * r))

  -- the labels by index
  grown_label_lem : (t : ℕ) → t < 2 * suc r + 2 → label_at (grown w) t ≡ grown_label r (label_at w) t
  unfolding grown
  grown_label_lem t h =
      get_d_tab 0 (2 * suc (switches w) + 2) (grown_label (switches w) (label_at w)) t 0 (omega arith)
      ∙ ap₂ (λ (k x : ℕ). grown_label k (label_at w) x) size (let z : 0 + t ≡ t = omega arith in z)

  -- of an old terminal
  grown_moved : (t : ℕ) → t < terminals r → label_at (grown w) (moved r t) ≡ moved r (label_at w t)
  grown_moved t h = grown_label_lem (moved r t) (moved_within r t h) ∙ label_moved t h

  -- one switch more
  pub grown_switches : switches (grown w) ≡ suc r
  unfolding grown
  grown_switches = let e = length-append w.literals (0 ∷ []) in omega arith

  -- as many labels as terminals
  grown_long : length (grown w).labels ≡ 2 * suc r + 2
  unfolding grown
  grown_long =
      length_tab 0 (2 * suc (switches w) + 2) (grown_label (switches w) (label_at w)) ∙ ap (λ (k : ℕ). 2 * suc k + 2) size

  -- each literal is below 2n
  grown_low : 0 < n → (s : ℕ) → s < suc r → literal_at (grown w) s < 2 * n
  unfolding grown
  grown_low inputs s h =
      let e = literal_same w.literals s in
      ⊎_elim (λ (k : r ≤ s). let z = get_or-eq_default w.literals 0 {n = s} (omega arith) in omega arith)
      (λ (k : s < r). let l = form.literals_low s k in omega arith)
      (le? r s)

  -- each label at or below its terminal
  label_most : (t : ℕ) → t < 2 * suc r + 2 → grown_label r (label_at w) t ≤ t
  label_most t h =
      ⊎_elim (λ (k : t ≤ 2 * r). let l = form.labels_low t (omega arith) in omega (arith, label_low r (label_at w) t k))
      (λ (k : 2 * r < t).
      ⊎_elim (λ (j : t ≤ 2 * r + 2). omega (arith, label_new r (label_at w) t k j))
      (λ (j : 2 * r + 2 < t).
      let l = form.labels_low (sink r) (omega arith) in
      let e = label_sink r (label_at w) t j in
      ⊎_elim (λ (i : label_at w (sink r) ≤ 2 * r). omega (arith, moved_low r (label_at w (sink r)) i))
      (λ (i : 2 * r < label_at w (sink r)). omega (arith, moved_high r (label_at w (sink r)) i))
      (le? (label_at w (sink r)) (2 * r)))
      (le? t (2 * r + 2)))
      (le? t (2 * r))

  -- a label that is its own label
  abbrev Own : ℕ → Type 0
  Own t = label_at (grown w) (label_at (grown w) t) ≡ label_at (grown w) t

  -- an old terminal's is
  own_moved : (t : ℕ) → t < terminals r → Own (moved r t)
  own_moved t h =
      let l = form.labels_low t h in
      ap (label_at (grown w)) (grown_moved t h) ∙ grown_moved (label_at w t) (omega arith)
      ∙ ap (moved r) (form.labels_own t h) ∙ sym (grown_moved t h)

  -- and so is any
  own : (t : ℕ) → t < 2 * suc r + 2 → Own t
  own t h =
      ⊎_elim
      (λ (k : t ≤ 2 * r). subst Own (moved_low r t k) (own_moved t (omega arith)))
      (λ (k : 2 * r < t).
      ⊎_elim (λ (j : t ≤ 2 * r + 2). ap (label_at (grown w)) (grown_label_lem t h ∙ label_new r (label_at w) t k j))
      (λ (j : 2 * r + 2 < t).
      let last : sink r + 2 ≡ t = omega arith in
      subst Own (moved_high r (sink r) (omega arith) ∙ last) (own_moved (sink r) (omega arith)))
      (le? t (2 * r + 2)))
      (le? t (2 * r))

  -- the form
  pub grown_formed : 0 < n → FormedAs n (suc r) (grown w)
  grown_formed inputs =
      record {
        literals_long = grown_switches;
        labels_long = grown_long;
        literals_low = grown_low inputs;
        labels_low = λ t h. subst (λ (x : ℕ). x ≤ t) (sym (grown_label_lem t h)) (label_most t h);
        labels_own = own;
      }

  module _ (row : Row) where
    -- a switch is closed where it was
    closed_same : (s : ℕ) → closed_on row (grown w) s ≡ closed_on row w s
    unfolding grown
    closed_same s = ap row.value (literal_same w.literals s)

    -- walks of the grown network
    abbrev Grown : ℕ → List ℕ → ℕ → Type 0
    Grown = Walk (suc r) (closed_on row (grown w)) (label_at (grown w))

    -- and of the network
    abbrev Old : ℕ → List ℕ → ℕ → Type 0
    Old = Walk r (closed_on row w) (label_at w)

    -- terminals of one net stay on one net
    label_up : (a b : ℕ) → a < terminals r → b < terminals r → label_at w a ≡ label_at w b
        → label_at (grown w) (moved r a) ≡ label_at (grown w) (moved r b)
    label_up a b p u e = grown_moved a p ∙ ap (moved r) e ∙ sym (grown_moved b u)

    -- and were on one
    label_down : (a b : ℕ) → a < terminals r → b < terminals r → label_at (grown w) (moved r a) ≡ label_at (grown w) (moved r b)
        → label_at w a ≡ label_at w b
    label_down a b p u e = moved_one r (label_at w a) (label_at w b) (sym (grown_moved a p) ∙ e ∙ grown_moved b u)

    -- a walk of the network is one of the grown network
    walk_up : (es : List ℕ) (a b : ℕ) → a < terminals r → b < terminals r → Old a es b → Grown (moved r a) es (moved r b)
    walk_up [] a b p u x = label_up a b p u x
    walk_up (e ∷ es) a b p u x =
        let l : 1 ≤ e = x.1.low in
        let h : e ≤ 2 * r = x.1.high in (
          label_up a e p (omega arith) x.0 ∙ ap (label_at (grown w)) (moved_low r e h),
          record { low = l; high = omega arith; closed = subst T (sym (closed_same (switch_of e))) x.1.closed },
          subst (λ (k : ℕ). Grown k es (moved r b)) (moved_low r (other e) (omega arith))
              (walk_up es (other e) b (omega arith) u x.2),
        )

    -- and back: from an old terminal none enters the new switch
    walk_down : (es : List ℕ) (a b : ℕ) → a < terminals r → b < terminals r → Grown (moved r a) es (moved r b) → Old a es b
    walk_down [] a b p u x = label_down a b p u x
    walk_down (e ∷ es) a b p u x =
        let l : 1 ≤ e = x.1.low in
        let h : e ≤ 2 * suc r = x.1.high in
        ⊎_elim
        (λ (k : e ≤ 2 * r). (
          label_down a e p (omega arith) (x.0 ∙ ap (label_at (grown w)) (sym (moved_low r e k))),
          record { low = l; high = k; closed = subst T (closed_same (switch_of e)) x.1.closed },
          walk_down es (other e) b (omega arith) u
              (subst (λ (i : ℕ). Grown i es (moved r b)) (sym (moved_low r (other e) (omega arith))) x.2),
        ))
        (λ (k : 2 * r < e).
        absurd (moved_old r (label_at w a) e k (omega arith)
        (sym (grown_moved a p) ∙ x.0 ∙ grown_label_lem e (omega arith) ∙ label_new r (label_at w) e k (omega arith))))
        (le? e (2 * r))

    -- the source stays
    source_at : moved r source ≡ source
    source_at = moved_low r source (omega arith)

    -- the sink is again the last terminal
    sink_at : moved r (sink r) ≡ sink (suc r)
    sink_at = moved_high r (sink r) (omega arith) ∙ omega arith

    -- a row that is done stays done
    row_grown : (x : Kind) (m : ℕ) → DoneIf x r m (closed_on row w) (label_at w)
        → DoneIf x (suc r) m (closed_on row (grown w)) (label_at (grown w))
    row_grown On m d = (
      d.0,
      d.1,
      rw (← source_at, ← sink_at) (walk_up d.0 source (sink r) (omega arith) (omega arith) d.2),
    )
    row_grown Off m d = λ es x.
        d es (walk_down es source (sink r) (omega arith) (omega arith) (rw (source_at, sink_at) x))
    row_grown Free m d = tt

  -- and so does each of some rows
  pub grown_does : (m : ℕ) (rows : List Row) → DoesAll r m w rows → DoesAll (suc r) m (grown w) rows
  grown_does m rows d = each_then (Done r m w) (Done (suc r) m (grown w)) rows (λ row x. row_grown row row.kind m x) d

-- a network that does a request's job may have one switch more
pub one_more : (q : Request) → 0 < q.n → (w : Net) → Formed q w → Does q w
    → (v : Net) × (switches v ≡ suc (switches w)) × Formed q v × Does q v
one_more q inputs w form does =
    let more : switches (grown w) ≡ suc (switches w) = grown_switches q.n (switches w) w refl form in (
      grown w,
      more,
      subst (λ (k : ℕ). FormedAs q.n k (grown w)) (sym more) (grown_formed q.n (switches w) w refl form inputs),
      subst (λ (k : ℕ). DoesAll k q.m (grown w) (rows_of q)) (sym more)
          (grown_does q.n (switches w) w refl form q.m (rows_of q) does),
    )
