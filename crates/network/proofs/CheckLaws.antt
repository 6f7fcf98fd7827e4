-- Laws of the tests that checking a network makes: one for each answer of a test, that the two searches read only the r switches
-- and the 2r + 2 labels of a network, and one for each answer of checking. Assumes nothing.
use Rattle.std.specs.Prelude.{◌≡◌, leb, ltb, get_or, Some, None, Ok, Err}
use Rattle.refusal.specs.Refusal.{number}
use Rattle.refusal.specs.Refusal.Laws.{numbered_number, number_some}
use Rattle.refusal.specs.declared.Refusal.{Refusal}
use Rattle.refusal.specs.declared.Refusal.TheVariants.{NetworkForm}
use Rattle.std.proofs.Math.Path.{refl, sym, ap, ap₂, subst}
use Rattle.std.proofs.Common.{◌∙◌, add-one, lt→ltb, le→leb, ltb→lt, get_or-take}
use Rattle.std.proofs.Math.Bool.{Bool, true, false, not, ◌&&◌, ◌||◌}
use Prim.Native.Nat.{ℕ, zero, suc, ◌+◌, ◌*◌, ◌^◌, ◌≤◌, ◌<◌}
use native.Mathlib.Omega.{arith}
use borrow.Author.Tests.{eq-eqb, ne_eqb, lt-ltb, le-ltb, lt-leb}
use Rattle.std.proofs.Math.Dec.{T, eqb}
use Rattle.prelude.specs.Lists.{any_from, all_from}
use Rattle.prelude.specs.Lists.Laws.{any_in, any_out, any_same, all_in, all_out, first_is, first_none}
use Rattle.prelude.specs.Tests.{T-eq, T_of, not_true_false, and_in, and_l, and_r, eq→eqb}
use Rattle.request.specs.Numbers.{refusal_of}
use Rattle.rows.specs.Rows.{Row, kind_of, row_at, rows_of, literal_on}
use Rattle.rows.specs.declared.Kind.{Kind}
use Rattle.rows.specs.declared.Kind.TheVariants.{On, Off, Free}
use Rattle.rows.proofs.RowsLaws.{rows_length, rows_at}
use Rattle.request.specs.declared.Request.{Request}
use Rattle.network.specs.Networks.{terminals, source, sink, switch_of, other, closed_on, literal_at, label_at}
use Rattle.network.specs.Check.{label_in, at_sink, leads, touching, nearer, near, move, part, apart, right_if, row_right, literals_low, labels_lowest, fitting, first_wrong, rows_answer, checked_of}
use Rattle.network.specs.Value.{listed}
use Rattle.network.specs.declared.Network.{Network}

-- a false test makes a conjunction false, from either side
and_first : (a b : Bool) → a ≡ false → a && b ≡ false
and_first a b e = rw e

and_second : (a b : Bool) → b ≡ false → a && b ≡ false
and_second true b e = e
and_second false b e = refl

-- the test of the sink's net
pub sink_test : (r : ℕ) (label : ℕ → ℕ) (i : ℕ) → eqb (label i) (label (sink r)) ≡ at_sink r label i
unfolding at_sink
sink_test r label i = refl

module _ (r : ℕ) (shut : ℕ → Bool) (label : ℕ → ℕ) (p : ℕ → Bool) (i : ℕ) where
  -- an end on another net does not lead to a marked terminal
  pub leads_apart : (e : ℕ) → (label i ≡ label e → ⊥) → leads r shut label p i e ≡ false
  leads_apart e h = and_first _ _ (ne_eqb (label i) (label e) h)

  -- nor one of an open switch
  pub leads_open : (e : ℕ) → shut (switch_of e) ≡ false → leads r shut label p i e ≡ false
  leads_open e h = and_second (eqb (label i) (label e)) _ (and_first _ (p (other e)) h)

  -- nor one of a switch whose other end is not marked
  pub leads_unmarked : (e : ℕ) → p (other e) ≡ false → leads r shut label p i e ≡ false
  leads_unmarked e h = and_second (eqb (label i) (label e)) _ (and_second (shut (switch_of e)) _ h)

  -- an end that leads to a marked terminal
  pub touching_at : (e : ℕ) → 1 ≤ e → e ≤ 2 * r → label i ≡ label e → shut (switch_of e) ≡ true → p (other e) ≡ true
      → true ≡ touching r shut label p i
  unfolding touching
  touching_at e l u same closed marked =
      sym (T-eq (any_from 1 (2 * r) (leads r shut label p i))
      (any_in 1 (2 * r) (leads r shut label p i) e l (omega arith)
      (and_in (eqb (label i) (label e)) _ (eq→eqb (label i) (label e) same)
      (and_in (shut (switch_of e)) (p (other e)) (T_of _ closed) (T_of _ marked)))))

  -- no end that does
  pub touching_none : ((e : ℕ) → e < 2 * r + 1 → 1 ≤ e → leads r shut label p i e ≡ false) → false ≡ touching r shut label p i
  unfolding touching
  touching_none h =
      sym (not_true_false (any_from 1 (2 * r) (leads r shut label p i)) (λ t.
      let w = any_out 1 (2 * r) (leads r shut label p i) (T_of (any_from 1 (2 * r) (leads r shut label p i)) t) in
      subst T (h w.0 (omega arith) w.1) w.3))

  -- a terminal one closed switch away is nearer
  pub nearer_true : (t : Bool) → t ≡ touching r shut label p i → t ≡ true → true ≡ nearer r shut label p i
  unfolding nearer
  nearer_true t e f = sym (rw (← e, f) (or_true (p i)))
    where
      or_true : (b : Bool) → b || true ≡ true
      or_true true = refl
      or_true false = refl

  -- any other as before
  pub nearer_false : (t : Bool) → t ≡ touching r shut label p i → t ≡ false → p i ≡ nearer r shut label p i
  unfolding nearer
  nearer_false t e f = sym (rw (← e, f) (or_false (p i)))
    where
      or_false : (b : Bool) → b || false ≡ b
      or_false true = refl
      or_false false = refl

-- moves of equal parts
moves : {t t' : Bool} {p p' q q' x x' : ℕ} → t ≡ t' → p ≡ p' → q ≡ q' → x ≡ x' → move t p q x ≡ move t' p' q' x'
moves e f g h = cc

-- two networks of r switches that agree on the r switches and on the 2r + 2 labels
module _ (r : ℕ) (shut shut' : ℕ → Bool) (label label' : ℕ → ℕ)
    (switches : (s : ℕ) → s < r → shut s ≡ shut' s) (labels : (i : ℕ) → i < terminals r → label i ≡ label' i) where
  -- one step from marks that agree
  pub nearer_same : (p q : ℕ → Bool) → ((i : ℕ) → i < terminals r → p i ≡ q i) → (i : ℕ) → i < terminals r
      → nearer r shut label p i ≡ nearer r shut' label' q i
  unfolding nearer touching
  nearer_same p q h i l =
      ap₂ ◌||◌ (h i l)
      (any_same 1 (2 * r) (leads r shut label p i) (leads r shut' label' q i)
      (λ e a b. ap₂ ◌&&◌ (ap₂ eqb (labels i l) (labels e (omega arith)))
      (ap₂ ◌&&◌ (switches (switch_of e) (omega arith)) (h (other e) (omega arith)))))

  -- within t closed switches of the sink's net
  pub near_same : (t i : ℕ) → i < terminals r → near r shut label t i ≡ near r shut' label' t i
  unfolding near at_sink
  near_same zero i l = ap₂ eqb (labels i l) (labels (sink r) (omega arith))
  near_same (suc t) i l = nearer_same (near r shut label t) (near r shut' label' t) (λ j h. near_same t j h) i l

  -- parts after s switches
  pub part_same : (s i : ℕ) → s ≤ r → i < terminals r → part shut label s i ≡ part shut' label' s i
  unfolding part
  part_same zero i h l = labels i l
  part_same (suc s) i h l =
      moves (switches s (omega arith)) (part_same s (2 * s + 1) (omega arith) (omega arith))
      (part_same s (2 * s + 2) (omega arith) (omega arith)) (part_same s i (omega arith) l)

  -- the source and the sink in different parts
  pub apart_same : apart r shut label ≡ apart r shut' label'
  unfolding apart
  apart_same =
      ap₂ (λ (x y : ℕ). not (eqb x y)) (part_same r source (omega arith) (omega arith)) (part_same r (sink r) (omega arith) (omega arith))

module _ (r : ℕ) (shut : ℕ → Bool) (label : ℕ → ℕ) where
  -- no step yet
  pub near_zero : (i : ℕ) → at_sink r label i ≡ near r shut label 0 i
  unfolding near
  near_zero i = refl

  -- one step more of the search from the sink, over marks that are right
  pub near_more : (t : ℕ) (p : ℕ → Bool) → ((i : ℕ) → i < terminals r → p i ≡ near r shut label t i)
      → (i : ℕ) → i < terminals r → nearer r shut label p i ≡ near r shut label (t + 1) i
  unfolding near
  near_more t p h i l =
      nearer_same r shut shut label label (λ s k. refl) (λ j k. refl) p (near r shut label t) h i l
      ∙ ap (λ (n : ℕ). near r shut label n i) (sym (add-one t))

  -- the answer after all m steps
  pub near_all : (t m : ℕ) {x : Bool} → t ≡ m → x ≡ near r shut label t source → x ≡ near r shut label m source
  near_all t m e f = f ∙ ap (λ (n : ℕ). near r shut label n source) e

-- a part that is moved, and one that is not
pub move_equal : (p q x : ℕ) → x ≡ q → p ≡ move true p q x
move_equal p q x e = rw (eq-eqb x q e)

pub move_other : (p q x : ℕ) → (x ≡ q → ⊥) → x ≡ move true p q x
move_other p q x h = rw (ne_eqb x q h)

module _ (shut : ℕ → Bool) (label : ℕ → ℕ) where
  -- no switch merged yet
  pub part_zero : (i : ℕ) → label i ≡ part shut label 0 i
  unfolding part
  part_zero i = refl

  -- a closed switch merges its two ends
  pub part_closed : (s i p q x : ℕ) → shut s ≡ true → p ≡ part shut label s (2 * s + 1) → q ≡ part shut label s (2 * s + 2)
      → x ≡ part shut label s i → move true p q x ≡ part shut label (s + 1) i
  unfolding part
  part_closed s i p q x t e f g = moves (sym t) e f g ∙ ap (λ (n : ℕ). part shut label n i) (sym (add-one s))

  -- an open one none
  pub part_open : (s i : ℕ) → shut s ≡ false → part shut label s i ≡ part shut label (s + 1) i
  unfolding part
  part_open s i t = sym (ap (λ (n : ℕ). part shut label n i) (add-one s) ∙ rw t)

  -- the answer after all r switches
  pub apart_of : (r s x y : ℕ) → s ≡ r → x ≡ part shut label s source → y ≡ part shut label s (sink r) → not (eqb x y) ≡ apart r shut label
  unfolding apart
  apart_of r s x y e f g = rw (f, g, e)

-- the literals that pass the test are below 2n
pub low_literal : (n r : ℕ) (literal : ℕ → ℕ) → literals_low n r literal ≡ true → (s : ℕ) → s < r → literal s < 2 * n
unfolding literals_low
low_literal n r literal e s l =
    ltb→lt (literal s) (2 * n) (all_out 0 r (λ s. ltb (literal s) (2 * n)) (T_of _ e) s (omega arith) (omega arith))

-- a literal of 2n or more
pub literals_high : (n r : ℕ) (literal : ℕ → ℕ) (s : ℕ) → s < r → 2 * n ≤ literal s → false ≡ literals_low n r literal
literals_high n r literal s l h =
    sym (not_true_false (literals_low n r literal) (λ t. let x = low_literal n r literal t s l in omega arith))

-- no literal of 2n or more
pub literals_below : (n r : ℕ) (literal : ℕ → ℕ) → ((s : ℕ) → s < r → literal s < 2 * n) → true ≡ literals_low n r literal
unfolding literals_low
literals_below n r literal h =
    sym (T-eq (all_from 0 r (λ s. ltb (literal s) (2 * n)))
    (all_in 0 r (λ s. ltb (literal s) (2 * n)) (λ s l u. lt→ltb (literal s) (2 * n) (h s (omega arith)))))

module _ (r : ℕ) (label : ℕ → ℕ) where
  -- the test of one label
  lowest : ℕ → Bool
  lowest i = leb (label i) i && eqb (label (label i)) (label i)

  -- a label that is no lowest terminal of its net
  lowest_not : (i : ℕ) → i < terminals r → lowest i ≡ false → false ≡ labels_lowest r label
  unfolding labels_lowest lowest
  lowest_not i l h =
      sym (not_true_false (all_from 0 (terminals r) lowest) (λ t.
      subst T h (all_out 0 (terminals r) lowest (T_of (all_from 0 (terminals r) lowest) t) i (omega arith) (omega arith))))

  -- a label above its terminal
  pub label_above : (i : ℕ) → i < terminals r → i < label i → false ≡ labels_lowest r label
  unfolding lowest
  label_above i l h = lowest_not i l (and_first _ _ (lt-leb (label i) i h))

  -- a label that is a terminal of another net
  pub label_other : (i : ℕ) → i < terminals r → (label (label i) ≡ label i → ⊥) → false ≡ labels_lowest r label
  unfolding lowest
  label_other i l h = lowest_not i l (and_second (leb (label i) i) _ (ne_eqb (label (label i)) (label i) h))

  -- every label the lowest terminal of its net
  pub labels_right : ((i : ℕ) → i < terminals r → (label i ≤ i) × (label (label i) ≡ label i)) → true ≡ labels_lowest r label
  unfolding labels_lowest lowest
  labels_right h =
      sym (T-eq (all_from 0 (terminals r) lowest)
      (all_in 0 (terminals r) lowest (λ i l u.
      and_in (leb (label i) i) _ (le→leb (label i) i (h i (omega arith)).0) (eq→eqb (label (label i)) (label i) (h i (omega arith)).1))))

module _ (r : ℕ) (w : Network) where
  -- the literals and labels that are read
  pub listed_literal : (s : ℕ) → s < r → get_or w.literals s 0 ≡ literal_at (listed r w) s
  unfolding listed
  listed_literal s l = sym (get_or-take r w.literals s 0 l)

  pub listed_label : (i : ℕ) → i < terminals r → get_or w.labels i 0 ≡ label_at (listed r w) i
  unfolding listed
  listed_label i l = sym (get_or-take (terminals r) w.labels i 0 l)

-- a row of a network, from what the array of closed switches holds
module _ (q : Request) (w : Network) (k : ℕ) where
  -- by its kind
  right_by : {x : Kind} → x ≡ kind_of q k
      → right_if x q.r q.m (closed_on (row_at q k) (listed q.r w)) (label_at (listed q.r w)) ≡ row_right q.r q.m (listed q.r w) (row_at q k)
  right_by e = ap (λ (x : Kind). right_if x q.r q.m (closed_on (row_at q k) (listed q.r w)) (label_at (listed q.r w))) e

  -- a free row
  pub right_free : Free ≡ kind_of q k → true ≡ row_right q.r q.m (listed q.r w) (row_at q k)
  right_free e = right_by e

  module _ (shut : ℕ → Bool) (closed : (s : ℕ) → s < q.r → shut s ≡ literal_on q.n k (get_or w.literals s 0)) where
    -- the row's closed switches
    switches_same : (s : ℕ) → s < q.r → shut s ≡ closed_on (row_at q k) (listed q.r w) s
    switches_same s l = closed s l ∙ ap (literal_on q.n k) (listed_literal q.r w s l)

    -- an on row
    pub right_on : On ≡ kind_of q k → near q.r shut (label_in w.labels) q.m 0 ≡ row_right q.r q.m (listed q.r w) (row_at q k)
    right_on e =
        near_same q.r shut (closed_on (row_at q k) (listed q.r w)) (label_in w.labels) (label_at (listed q.r w)) switches_same
        (listed_label q.r w) q.m 0 (omega arith)
        ∙ right_by e

    -- an off row
    pub right_off : Off ≡ kind_of q k → apart q.r shut (label_in w.labels) ≡ row_right q.r q.m (listed q.r w) (row_at q k)
    right_off e =
        apart_same q.r shut (closed_on (row_at q k) (listed q.r w)) (label_in w.labels) (label_at (listed q.r w)) switches_same
        (listed_label q.r w)
        ∙ right_by e

module _ (q : Request) (w : Network) where
  -- a network that has the form: its literals
  pub fitting_literals : fitting q w ≡ true → (s : ℕ) → s < q.r → get_or w.literals s 0 < 2 * q.n
  unfolding fitting
  fitting_literals e =
      let literals : Bool = literals_low q.n q.r (label_in w.literals) in
      let labels : Bool = labels_lowest q.r (label_in w.labels) in
      let t = and_r (eqb w.r q.r) (literals && labels) (T_of _ e) in
      low_literal q.n q.r (label_in w.literals) (T-eq _ (and_l literals labels t))

  -- whether row k is right
  abbrev pub right_at : ℕ → Bool
  right_at k = row_right q.r q.m (listed q.r w) (row_at q k)

  -- row k as an element of the list of rows
  row_test : (k : ℕ) → k < 2 ^ q.n
      → right_at k ≡ row_right q.r q.m (listed q.r w) (get_or (rows_of q) k (row_at q 0))
  row_test k h =
      sym (ap (row_right q.r q.m (listed q.r w)) (rows_at q k (row_at q 0) h))

  -- the lowest wrong row
  pub rows_wrong : (k : ℕ) (b : Bool) → k < 2 ^ q.n → b ≡ right_at k → b ≡ false → ((j : ℕ) → j < k → right_at j ≡ true)
      → Some k ≡ rows_answer q w
  unfolding rows_answer first_wrong
  rows_wrong k b h g e f =
      let first : first_wrong q w ≡ k =
      first_is (λ (row : Row). not (row_right q.r q.m (listed q.r w) row)) (rows_of q) (row_at q 0) k
      (rw rows_length h) (T_of _ (ap not (sym (g ∙ row_test k h) ∙ e)))
      (λ j l. T_of _ (ap not (ap not (sym (row_test j (omega arith)) ∙ f j l)))) in
      sym (rw (first, lt-ltb k (2 ^ q.n) h))

  -- no wrong row
  pub rows_right : ((j : ℕ) → j < 2 ^ q.n → right_at j ≡ true) → None ≡ rows_answer q w
  unfolding rows_answer first_wrong
  rows_right f =
      let first : first_wrong q w ≡ 2 ^ q.n =
      first_none (λ (row : Row). not (row_right q.r q.m (listed q.r w) row)) (rows_of q) (row_at q 0)
      (λ j l. let h : j < 2 ^ q.n = rw rows_length at l in T_of _ (ap not (ap not (sym (row_test j h) ∙ f j h))))
      ∙ rows_length q in
      sym (rw (first, le-ltb (2 ^ q.n) (2 ^ q.n) (let z : 2 ^ q.n ≤ 2 ^ q.n = omega arith in z)))

  -- a request that is refused
  pub checked_refused : (e : Refusal) → number e ≡ refusal_of q → Err e ≡ checked_of q w
  unfolding checked_of
  checked_refused e h = sym (rw (← h, ne_eqb (number e) 0 (number_some e), numbered_number e))

  -- a network that has not the form
  pub form_not : refusal_of q ≡ 0 → fitting q w ≡ false → Err NetworkForm ≡ checked_of q w
  unfolding checked_of
  form_not g e = sym (rw (g, e))

  -- another number of switches
  pub checked_size : refusal_of q ≡ 0 → (w.r ≡ q.r → ⊥) → Err NetworkForm ≡ checked_of q w
  unfolding fitting
  checked_size g h = form_not g (and_first _ _ (ne_eqb w.r q.r h))

  -- a literal out of range
  pub checked_literals : refusal_of q ≡ 0 → (b : Bool) → b ≡ literals_low q.n q.r (label_in w.literals) → b ≡ false
      → Err NetworkForm ≡ checked_of q w
  unfolding fitting
  checked_literals g b h e = form_not g (and_second (eqb w.r q.r) _ (and_first _ _ (sym h ∙ e)))

  -- a label that is not the lowest terminal of its net
  pub checked_labels : refusal_of q ≡ 0 → (b : Bool) → b ≡ labels_lowest q.r (label_in w.labels) → b ≡ false
      → Err NetworkForm ≡ checked_of q w
  unfolding fitting
  checked_labels g b h e =
      form_not g (and_second (eqb w.r q.r) _ (and_second (literals_low q.n q.r (label_in w.literals)) _ (sym h ∙ e)))

  -- a network that has the form, by its three tests
  pub form_right : w.r ≡ q.r → (a : Bool) → a ≡ literals_low q.n q.r (label_in w.literals) → a ≡ true
      → (b : Bool) → b ≡ labels_lowest q.r (label_in w.labels) → b ≡ true → fitting q w ≡ true
  unfolding fitting
  form_right e a f g b h i = rw (eq-eqb w.r q.r e, ← f, g, ← h, i)

  -- it is answered by its rows
  pub checked_rows : refusal_of q ≡ 0 → fitting q w ≡ true → Ok (rows_answer q w) ≡ checked_of q w
  unfolding checked_of
  checked_rows g e = sym (rw (g, e))
