-- The tests that checking a network makes decide whether it does the job. An on row: the search from the sink finds a terminal
-- exactly when a walk that short leads there. An off row: two terminals are in one part exactly when a walk joins them.
-- Assumes nothing.
use Rattle.std.specs.Prelude.{◌≡◌, refl, Some, None, Ok, Err, true, false, ◌&&◌, cond, ◌⊎◌, eqb, leb, get_or}
use Rattle.std.proofs.Math.Path.{sym, ap, subst}
use Rattle.std.proofs.Common.{◌∙◌, inl, inr, le-ltb, ltb-false, le→leb}
use Rattle.std.proofs.Math.Bool.{Bool, not}
use mathlib.Core.List.{List, [], ◌∷◌, ◌++◌}
use Rattle.std.proofs.Math.Logic.{⊎_elim}
use Prim.Native.Nat.{ℕ, zero, suc, ◌+◌, ◌*◌, ◌^◌, ◌≤◌, ◌<◌}
use native.Mathlib.Omega.{arith}
use Rattle.std.proofs.Math.Dec.{T, T_not, not_T, ltb, eqb→eq, eqb_refl, ltb→lt, lt→ltb, leb→le}
use Rattle.std.proofs.Math.ListN.{length}
use Rattle.std.proofs.Math.Seq.{get_or-take, length-take-le}
use Rattle.prelude.specs.Tests.{T-cases, T_of, F-eq, and_in, and_l, and_r, or_l, or_r, or_cases, eq→eqb, ne→neqb, neqb→ne, eq?, cond-true, cond-false}
use Rattle.prelude.specs.Lists.{any_from, first_of}
use Rattle.prelude.specs.Lists.Laws.{any_out, any_in, all_out, all_in, first_is, first_none, first_before, first_holds, each_in, each_out}
use Rattle.refusal.specs.Refusal.{numbered}
use Rattle.refusal.specs.declared.Refusal.{Refusal}
use Rattle.refusal.specs.declared.Refusal.TheVariants.{NetworkForm}
use Rattle.request.specs.Numbers.{switches_most, Good, refusal_of}
use Rattle.request.proofs.NumbersLaws.{refusal_good, good_refusal}
use Rattle.rows.specs.Rows.{Row, row_at, rows_of}
use Rattle.rows.specs.declared.Kind.{Kind}
use Rattle.rows.specs.declared.Kind.TheVariants.{On, Off, Free}
use Rattle.rows.proofs.RowsLaws.{rows_length, rows_at}
use Rattle.request.specs.declared.Request.{Request}
use Rattle.network.specs.Networks.{terminals, Net, source, sink, switch_of, other, literal_at, label_at, closed_on, Walk, DoneIf, Done, DoesAll}
use Rattle.network.proofs.NetworksLaws.{walk_append}
use Rattle.network.specs.Check.{at_sink, leads, touching, nearer, near, move, part, apart, right_if, row_right, label_in, literals_low, labels_lowest, fitting, first_wrong, rows_answer, Checked, checked_of}
use Rattle.network.specs.Value.{terminals_most, listed}
use Rattle.network.specs.Meaning.{Accepted, LowestWrong, Means}
use Rattle.network.specs.declared.Network.{Network}

-- the two ends of a switch that is merged are in one part
move_ends : (t : Bool) (p q : ℕ) → T t → move t p q p ≡ move t p q q
move_ends true p q h = go (T-cases (eqb p q)) ∙ sym (cond-true (eqb q q) p q (eqb_refl q))
  where
    go : T (eqb p q) ⊎ T (not (eqb p q)) → cond (eqb p q) p p ≡ p
    go (inl t) = cond-true (eqb p q) p p t
    go (inr t) = cond-false (eqb p q) p p t
move_ends false p q h = absurd h

-- what is in one part after a merge was in one before, or the merge joined it
move_cases : (t : Bool) (p q x y : ℕ) → move t p q x ≡ move t p q y
    → (x ≡ y) ⊎ (T t × (((x ≡ q) × (p ≡ y)) ⊎ ((x ≡ p) × (y ≡ q))))
move_cases false p q x y e = inl e
move_cases true p q x y e = go (T-cases (eqb x q)) (T-cases (eqb y q))
  where
    go : T (eqb x q) ⊎ T (not (eqb x q)) → T (eqb y q) ⊎ T (not (eqb y q))
        → (x ≡ y) ⊎ (T true × (((x ≡ q) × (p ≡ y)) ⊎ ((x ≡ p) × (y ≡ q))))
    go (inl a) (inl b) = inl (eqb→eq x q a ∙ sym (eqb→eq y q b))
    go (inl a) (inr b) = inr (tt, inl (eqb→eq x q a, sym (cond-true (eqb x q) p x a) ∙ e ∙ cond-false (eqb y q) p y b))
    go (inr a) (inl b) = inr (tt, inr (sym (cond-false (eqb x q) p x a) ∙ e ∙ cond-true (eqb y q) p y b, eqb→eq y q b))
    go (inr a) (inr b) = inl (sym (cond-false (eqb x q) p x a) ∙ e ∙ cond-false (eqb y q) p y b)

module _ (r : ℕ) (shut : ℕ → Bool) (label : ℕ → ℕ) where
  -- terminals of one net are in one part
  pub part_label : (s i j : ℕ) → label i ≡ label j → part shut label s i ≡ part shut label s j
  unfolding part
  part_label zero i j p = p
  part_label (suc s) i j p = ap (move (shut s) (part shut label s (2 * s + 1)) (part shut label s (2 * s + 2))) (part_label s i j p)

  -- the ends of a closed switch are in one part
  pub part_switch : (s k : ℕ) → k < s → T (shut k) → part shut label s (2 * k + 1) ≡ part shut label s (2 * k + 2)
  unfolding part
  part_switch zero k h t = absurd (omega arith)
  part_switch (suc s) k h t =
      ⊎_elim
      (λ (e : k ≡ s). subst (λ (x : ℕ). part shut label (suc s) (2 * x + 1) ≡ part shut label (suc s) (2 * x + 2)) (sym e)
      (move_ends (shut s) (part shut label s (2 * s + 1)) (part shut label s (2 * s + 2)) (subst (λ (x : ℕ). T (shut x)) e t)))
      (λ e. ap (move (shut s) (part shut label s (2 * s + 1)) (part shut label s (2 * s + 2))) (part_switch s k (omega arith) t))
      (eq? k s)

  -- a walk stays in one part
  walk_part : (es : List ℕ) (a b : ℕ) → Walk r shut label a es b → part shut label r a ≡ part shut label r b
  walk_part [] a b w = part_label r a b w
  walk_part (e ∷ es) a b w = part_label r a e w.0 ∙ over ∙ walk_part es (other e) b w.2
    where
      low : 1 ≤ e
      low = w.1.low

      high : e ≤ 2 * r
      high = w.1.high

      ends : part shut label r (2 * switch_of e + 1) ≡ part shut label r (2 * switch_of e + 2)
      ends = part_switch r (switch_of e) (omega arith) w.1.closed

      over : part shut label r e ≡ part shut label r (other e)
      over =
          ⊎_elim
          (λ (z : e ≡ 2 * switch_of e + 1). ap (part shut label r) z ∙ ends ∙ ap (part shut label r) (let v : 2 * switch_of e + 2 ≡ other e = omega arith in v))
          (λ z. ap (part shut label r) (let v : e ≡ 2 * switch_of e + 2 = omega arith in v) ∙ sym ends ∙ ap (part shut label r) (let v : 2 * switch_of e + 1 ≡ other e = omega arith in v))
          (eq? e (2 * switch_of e + 1))

  -- a walk to an end a of switch s, over the switch, and on from its other end b
  cross : (s i j a b : ℕ) → 1 ≤ a → a ≤ 2 * r → switch_of a ≡ s → other a ≡ b → T (shut s)
      → (es : List ℕ) × Walk r shut label i es a → (es : List ℕ) × Walk r shut label b es j → (es : List ℕ) × Walk r shut label i es j
  cross s i j a b low high p q t x y = (
    x.0 ++ (a ∷ y.0),
    walk_append r shut label i x.0 a (a ∷ y.0) j x.1
        (refl, record { low = low; high = high; closed = subst (λ (k : ℕ). T (shut k)) (sym p) t }, subst (λ (k : ℕ). Walk r shut label k y.0 j) (sym q) y.1),
  )

  -- terminals in one part are joined by a walk
  pub part_walk : (s i j : ℕ) → s ≤ r → part shut label s i ≡ part shut label s j → (es : List ℕ) × Walk r shut label i es j
  unfolding part
  part_walk zero i j h e = ([], e)
  part_walk (suc s) i j h e =
      ⊎_elim (λ (p : part shut label s i ≡ part shut label s j). part_walk s i j (omega arith) p)
      (λ p.
      ⊎_elim
      (λ c. cross s i j (2 * s + 2) (2 * s + 1) (omega arith) (omega arith) (omega arith) (omega arith) p.0
      (part_walk s i (2 * s + 2) (omega arith) c.0) (part_walk s (2 * s + 1) j (omega arith) c.1))
      (λ c. cross s i j (2 * s + 1) (2 * s + 2) (omega arith) (omega arith) (omega arith) (omega arith) p.0
      (part_walk s i (2 * s + 1) (omega arith) c.0) (part_walk s (2 * s + 2) j (omega arith) (sym c.1)))
      p.1)
      (move_cases (shut s) (part shut label s (2 * s + 1)) (part shut label s (2 * s + 2)) (part shut label s i) (part shut label s j) e)

  -- what the search finds, a walk reaches
  near_walk : (t i : ℕ) → T (near r shut label t i) → (es : List ℕ) × (length es ≤ t) × Walk r shut label i es (sink r)
  unfolding near nearer touching at_sink
  near_walk zero i x = ([], omega arith, eqb→eq (label i) (label (sink r)) x)
  near_walk (suc t) i x =
      ⊎_elim (λ y. let w = near_walk t i y in (w.0, omega arith, w.2))
      (λ y.
      let e = any_out 1 (2 * r) (leads r shut label (near r shut label t) i) y in
      let p = and_r (eqb (label i) (label e.0)) (shut (switch_of e.0) && near r shut label t (other e.0)) e.3 in
      let w = near_walk t (other e.0) (and_r (shut (switch_of e.0)) (near r shut label t (other e.0)) p) in (
        e.0 ∷ w.0,
        omega arith,
        (
          eqb→eq (label i) (label e.0) (and_l (eqb (label i) (label e.0)) (shut (switch_of e.0) && near r shut label t (other e.0)) e.3),
          record { low = e.1; high = omega arith; closed = and_l (shut (switch_of e.0)) (near r shut label t (other e.0)) p },
          w.2,
        ),
      ))
      (or_cases (near r shut label t i) (any_from 1 (2 * r) (leads r shut label (near r shut label t) i)) x)

  -- what a walk reaches, the search finds
  walk_near : (t i : ℕ) (es : List ℕ) → length es ≤ t → Walk r shut label i es (sink r) → T (near r shut label t i)
  unfolding near nearer touching at_sink
  walk_near zero i [] h w = eq→eqb (label i) (label (sink r)) w
  walk_near (suc t) i [] h w = or_l (near r shut label t i) _ (walk_near t i [] (omega arith) w)
  walk_near zero i (e ∷ es) h w = absurd (omega arith)
  walk_near (suc t) i (e ∷ es) h w =
      or_r (near r shut label t i) (any_from 1 (2 * r) (leads r shut label (near r shut label t) i))
      (any_in 1 (2 * r) (leads r shut label (near r shut label t) i) e w.1.low (omega (arith, w.1.high))
      (and_in (eqb (label i) (label e)) (shut (switch_of e) && near r shut label t (other e)) (eq→eqb (label i) (label e) w.0)
      (and_in (shut (switch_of e)) (near r shut label t (other e)) w.1.closed (walk_near t (other e) es (omega arith) w.2))))

  -- a row that passes its test is done
  right_done : (b : Kind) (m : ℕ) → T (right_if b r m shut label) → DoneIf b r m shut label
  unfolding apart
  right_done On m t = near_walk m source t
  right_done Off m t = λ es w. neqb→ne _ _ t (walk_part es source (sink r) w)
  right_done Free m t = tt

  -- and a row that is done passes it
  done_right : (b : Kind) (m : ℕ) → DoneIf b r m shut label → T (right_if b r m shut label)
  unfolding apart
  done_right On m d = walk_near m source d.0 d.1 d.2
  done_right Off m d = ne→neqb _ _ (λ e. let w = part_walk r source (sink r) (omega arith) e in d w.0 w.1)
  done_right Free m d = tt

-- a test twice negated
not_not : (b : Bool) → T (not (not b)) → T b
not_not true t = tt
not_not false t = t

not_not_in : (b : Bool) → T b → T (not (not b))
not_not_in true t = tt
not_not_in false t = t

-- the answer by its three tests, and back
abbrev answer : (a b c : Bool) (k x : ℕ) → Checked
answer a b c k x = cond a (cond b (Ok (cond c (Some k) None)) (Err NetworkForm)) (Err (numbered x))

does_view : (a b c : Bool) (k x : ℕ) → answer a b c k x ≡ Ok None → T a × T b × T (not c)
does_view false b c k x e = cc
does_view true false c k x e = cc
does_view true true true k x e = cc
does_view true true false k x e = (tt, tt, tt)

does_back : (a b c : Bool) (k x : ℕ) → T a → T b → T (not c) → answer a b c k x ≡ Ok None
does_back false b c k x p q s = absurd p
does_back true false c k x p q s = absurd q
does_back true true true k x p q s = absurd s
does_back true true false k x p q s = refl

wrong_view : (a b c : Bool) (k x j : ℕ) → answer a b c k x ≡ Ok (Some j) → T a × T b × T c × (k ≡ j)
wrong_view false b c k x j e = cc
wrong_view true false c k x j e = cc
wrong_view true true true k x j e = (tt, tt, tt, (cc))
wrong_view true true false k x j e = cc

wrong_back : (a b c : Bool) (k x j : ℕ) → T a → T b → T c → k ≡ j → answer a b c k x ≡ Ok (Some j)
wrong_back false b c k x j p q s e = absurd p
wrong_back true false c k x j p q s e = absurd q
wrong_back true true true k x j p q s e = ap (λ (n : ℕ). Ok (Some n)) e
wrong_back true true false k x j p q s e = absurd s

refused_view : (a b c : Bool) (k x : ℕ) (r : Refusal) → answer a b c k x ≡ Err r → T a → T b → ⊥
refused_view false b c k x r e p q = p
refused_view true false c k x r e p q = q
refused_view true true c k x r e p q = cc

refused_back : (a b c : Bool) (k x : ℕ) → (T a → T b → ⊥) → (r : Refusal) × (answer a b c k x ≡ Err r)
refused_back false b c k x n = (numbered x, refl)
refused_back true false c k x n = (NetworkForm, refl)
refused_back true true c k x n = absurd (n tt tt)

module _ (q : Request) (w : Network) where
  -- the network's lists
  abbrev net : Net
  net = listed q.r w

  -- their entries are the arrays'
  literal_is : (s : ℕ) → s < q.r → literal_at net s ≡ label_in w.literals s
  unfolding listed
  literal_is s h = get_or-take q.r w.literals s 0 h

  label_is : (i : ℕ) → i < terminals q.r → label_at net i ≡ label_in w.labels i
  unfolding listed
  label_is i h = get_or-take (terminals q.r) w.labels i 0 h

  abbrev sized : Bool
  sized = eqb w.r q.r

  abbrev lows : Bool
  lows = literals_low q.n q.r (label_in w.literals)

  abbrev lowests : Bool
  lowests = labels_lowest q.r (label_in w.labels)

  -- the test of one label
  abbrev lowest : ℕ → Bool
  lowest i = leb (label_in w.labels i) i && eqb (label_in w.labels (label_in w.labels i)) (label_in w.labels i)

  -- a network that passes the test of the form has it
  fitting_accepted : length w.literals ≡ switches_most → length w.labels ≡ terminals_most
      → Good q → T (fitting q w) → Accepted q w
  unfolding fitting listed literals_low labels_lowest
  fitting_accepted l7 l16 good t =
      let t2 = and_r sized (lows && lowests) t in
      let low : (s : ℕ) → s < q.r → label_in w.literals s < 2 * q.n =
      λ s h. ltb→lt _ _ (all_out 0 q.r (λ s. ltb (label_in w.literals s) (2 * q.n)) (and_l lows lowests t2) s (omega arith) (omega arith)) in
      let own : (i : ℕ) → i < terminals q.r → T (lowest i) =
      λ i h. all_out 0 (terminals q.r) lowest (and_r lows lowests t2) i (omega arith) (omega arith) in
      let down : (i : ℕ) → i < terminals q.r → label_in w.labels i ≤ i =
      λ i h. leb→le _ _ (and_l (leb (label_in w.labels i) i) (eqb (label_in w.labels (label_in w.labels i)) (label_in w.labels i)) (own i h)) in
      let high = good.r_high in
      record {
        good = good;
        size = eqb→eq w.r q.r (and_l sized (lows && lowests) t);
        form = record {
          literals_long = length-take-le q.r w.literals (omega arith);
          labels_long = length-take-le (terminals q.r) w.labels (omega arith);
          literals_low = λ s h. rw (literal_is s h) (low s h);
          labels_low = λ i h. rw (label_is i h) (down i h);
          labels_own = λ i h.
              let d = down i h in
              ap (label_at net) (label_is i h) ∙ label_is (label_in w.labels i) (omega arith)
              ∙ eqb→eq _ _ (and_r (leb (label_in w.labels i) i) (eqb (label_in w.labels (label_in w.labels i)) (label_in w.labels i)) (own i h))
              ∙ sym (label_is i h);
        };
      }

  -- and a network that has it passes the test
  accepted_fitting : Accepted q w → T (fitting q w)
  unfolding fitting literals_low labels_lowest
  accepted_fitting a =
      let f = a.form in
      let down : (i : ℕ) → i < terminals q.r → label_in w.labels i ≤ i =
      λ i h. subst (λ (x : ℕ). x ≤ i) (label_is i h) (f.labels_low i h) in
      and_in sized (lows && lowests) (eq→eqb w.r q.r a.size)
      (and_in lows lowests
      (all_in 0 q.r (λ s. ltb (label_in w.literals s) (2 * q.n)) (λ s _ h.
      let g : s < q.r = omega arith in
      lt→ltb _ _ (subst (λ (x : ℕ). x < 2 * q.n) (literal_is s g) (f.literals_low s g))))
      (all_in 0 (terminals q.r) lowest (λ i _ h.
      let g : i < terminals q.r = omega arith in
      let d = down i g in
      and_in (leb (label_in w.labels i) i) (eqb (label_in w.labels (label_in w.labels i)) (label_in w.labels i)) (le→leb _ _ d)
      (eq→eqb _ _ (sym (label_is (label_in w.labels i) (omega arith)) ∙ ap (label_at net) (sym (label_is i g)) ∙ f.labels_own i g ∙ label_is i g)))))

  abbrev rows : List Row
  rows = rows_of q

  abbrev row : ℕ → Row
  row k = row_at q k

  -- the test that a row is wrong
  abbrev wrong_row : Row → Bool
  wrong_row x = not (row_right q.r q.m net x)

  done_of : (x : Row) → T (not (wrong_row x)) → Done q.r q.m net x
  done_of x t = right_done q.r (closed_on x net) (label_at net) x.kind q.m (not_not (row_right q.r q.m net x) t)

  of_done : (x : Row) → Done q.r q.m net x → T (not (wrong_row x))
  of_done x d = not_not_in (row_right q.r q.m net x) (done_right q.r (closed_on x net) (label_at net) x.kind q.m d)

  -- each row before the first wrong one is done
  before_done : (j : ℕ) → j < first_wrong q w → Done q.r q.m net (get_or rows j (row 0))
  unfolding first_wrong
  before_done j h = done_of (get_or rows j (row 0)) (first_before wrong_row rows (row 0) j h)

  -- no wrong row: the network does the job
  none_does : T (not (ltb (first_wrong q w) (2 ^ q.n))) → DoesAll q.r q.m net rows
  none_does t =
      let h : 2 ^ q.n ≤ first_wrong q w = ltb-false (first_wrong q w) (2 ^ q.n) (F-eq (ltb (first_wrong q w) (2 ^ q.n)) t) in
      let e = rows_length q in
      each_in (Done q.r q.m net) rows (row 0) (λ j g. before_done j (omega arith))

  does_none : DoesAll q.r q.m net rows → T (not (ltb (first_wrong q w) (2 ^ q.n)))
  unfolding first_wrong
  does_none d =
      let e : first_of wrong_row rows ≡ length rows =
      first_none wrong_row rows (row 0) (λ j g. of_done (get_or rows j (row 0)) (each_out (Done q.r q.m net) rows (row 0) d j g)) in
      let l = rows_length q in
      T_of (not (ltb (first_of wrong_row rows) (2 ^ q.n))) (ap not (le-ltb (first_of wrong_row rows) (2 ^ q.n) (omega arith)))

  -- a first wrong row is the lowest wrong one
  first_lowest : T (ltb (first_wrong q w) (2 ^ q.n)) → LowestWrong q w (first_wrong q w)
  unfolding first_wrong
  first_lowest t =
      let f : ℕ = first_of wrong_row rows in
      let h : f < 2 ^ q.n = ltb→lt f (2 ^ q.n) t in
      let l = rows_length q in
      record {
        row = h;
        wrong = λ d. T_not (wrong_row (row f)) (of_done (row f) d)
            (subst (λ (x : Row). T (wrong_row x)) (rows_at q f (row 0) h) (first_holds wrong_row rows (row 0) (omega arith)));
        lower = λ j g. subst (Done q.r q.m net) (rows_at q j (row 0) (omega arith)) (before_done j g);
      }

  -- and the lowest wrong row is the first
  lowest_first : (k : ℕ) → LowestWrong q w k → first_wrong q w ≡ k
  unfolding first_wrong
  lowest_first k x =
      let h = x.row in
      let l = rows_length q in
      first_is wrong_row rows (row 0) k (omega arith)
      (subst (λ (y : Row). T (wrong_row y)) (sym (rows_at q k (row 0) h))
      (not_T (row_right q.r q.m net (row k)) (λ t. x.wrong (right_done q.r (closed_on (row k) net) (label_at net) (row k).kind q.m t))))
      (λ j g. subst (λ (y : Row). T (not (wrong_row y))) (sym (rows_at q j (row 0) (omega arith))) (of_done (row j) (x.lower j g)))

  abbrev unrefused : Bool
  unrefused = eqb (refusal_of q) 0

  good_of : T unrefused → Good q
  good_of t = refusal_good q (eqb→eq (refusal_of q) 0 t)

  -- what each answer means, for the arrays of a network
  pub checked_means : length w.literals ≡ switches_most → length w.labels ≡ terminals_most → Means q w (checked_of q w)
  unfolding checked_of rows_answer
  checked_means l7 l16 =
      let c : Bool = ltb (first_wrong q w) (2 ^ q.n) in
      record {
        does = (
          λ e.
              let v = does_view unrefused (fitting q w) c (first_wrong q w) (refusal_of q) e in
              let a = fitting_accepted l7 l16 (good_of v.0) v.1 in
              (a, subst (λ (r : ℕ). DoesAll r q.m net rows) (sym a.form.literals_long) (none_does v.2)),
          λ p.
              does_back unrefused (fitting q w) c (first_wrong q w) (refusal_of q) (eq→eqb (refusal_of q) 0 (good_refusal q p.0.good))
              (accepted_fitting p.0) (does_none (subst (λ (r : ℕ). DoesAll r q.m net rows) p.0.form.literals_long p.1)),
        );
        wrong = λ k. (
          λ e.
              let v = wrong_view unrefused (fitting q w) c (first_wrong q w) (refusal_of q) k e in
              (fitting_accepted l7 l16 (good_of v.0) v.1, subst (LowestWrong q w) v.3 (first_lowest v.2)),
          λ p.
              let f = lowest_first k p.1 in
              let h = p.1.row in
              wrong_back unrefused (fitting q w) c (first_wrong q w) (refusal_of q) k (eq→eqb (refusal_of q) 0 (good_refusal q p.0.good))
              (accepted_fitting p.0) (lt→ltb (first_wrong q w) (2 ^ q.n) (subst (λ (x : ℕ). x < 2 ^ q.n) (sym f) h)) f,
        );
        refused = (
          λ (x, e) a.
              refused_view unrefused (fitting q w) c (first_wrong q w) (refusal_of q) x e
              (eq→eqb (refusal_of q) 0 (good_refusal q a.good)) (accepted_fitting a),
          λ n.
              refused_back unrefused (fitting q w) c (first_wrong q w) (refusal_of q)
              (λ p f. n (fitting_accepted l7 l16 (good_of p) f)),
        );
      }

-- what an answer means fixes it, but for which refusal
pub means_one : (q : Request) (w : Network) (x y : Checked) → Means q w x → Means q w y
    → (x ≡ y) ⊎ (((e : Refusal) × (x ≡ Err e)) × ((e : Refusal) × (y ≡ Err e)))
means_one q w (Ok None) y a b = inl (sym (b.does.1 (a.does.0 refl)))
means_one q w (Ok (Some k)) y a b = inl (sym ((b.wrong k).1 ((a.wrong k).0 refl)))
means_one q w (Err e) y a b = inr ((e, refl), b.refused.1 (a.refused.0 (e, refl)))
