-- Laws of the search: how each step keeps what holds, and that the labels at its end are those of chains. Assumes nothing.
use Rattle.std.specs.Prelude.{◌≡◌, refl, List, Option, None, Some, is_some, unwrap_or, ◌⊎◌, ℕ, ◌+◌, ◌≤◌, ◌<◌, ltb, length, get_or, set, replicate}
use Rattle.std.proofs.Math.Path.{sym, subst}
use Rattle.std.proofs.Common.{ap, ◌∙◌, T_not, ltb→lt, lt→ltb, ext_get_or, ltb-false, le-ltb}
use Rattle.std.proofs.Math.Bool.{true, false, not}
use Rattle.std.proofs.Math.Logic.{inl, inr, ⊎_elim}
use native.Mathlib.Omega.{arith}
use Rattle.std.proofs.Math.Dec.{T, not_T}
use Rattle.std.proofs.Math.ListN.{length-set}
use Rattle.std.proofs.lemmas.List.{length-replicate, get_or-replicate}
use Rattle.std.proofs.Math.Seq.{get_or-set_same, get_or-set_other}
use borrow.Author.Count.{below_none, below_more}
use Rattle.prelude.specs.Tests.{T_of, tests_eq, eq?, le?}
use Rattle.prelude.specs.Sums.Laws.{many_most, many_less}
use Rattle.cnf.specs.Cnf.{Assignment}
use Rattle.formula.specs.Formula.{X}
use Rattle.network.specs.Value.{terminals_most}
use Rattle.clusters.specs.Chain.{Chain, chain_label, chain_labels}
use Rattle.clusters.proofs.ChainLaws.{none_in, chain_more, chain_each, label_chain, label_low, label_same, label_own}
use Rattle.clusters.proofs.ChainNets.{labels_long, labels_entry, labels_rest}
use Rattle.clusters.specs.Search.{label_at, visited_at, queue_at, entered, Named, Labelled, unvisited, Searching, Further, Left}
use Rattle.clusters.specs.declared.Search.{Search}

-- a terminal that gets a label is visited, and those that are visited stay so
mark_set : (l : List (Option ℕ)) (j x : ℕ) → j < length l → T (visited_at (set l j (Some x)) j)
mark_set l j x h = T_of (visited_at (set l j (Some x)) j) (ap is_some (get_or-set_same l j (Some x) None h))

mark_stays : (l : List (Option ℕ)) (j x i : ℕ) → j < length l → T (visited_at l i) → T (visited_at (set l j (Some x)) i)
mark_stays l j x i h t =
    ⊎_elim (λ (e : i ≡ j). subst (λ (k : ℕ). T (visited_at (set l j (Some x)) k)) (sym e) (mark_set l j x h))
    (λ (d : i ≡ j → ⊥). subst T (sym (ap is_some (get_or-set_other l j i (Some x) None d))) t)
    (eq? i j)

module _ (N : ℕ) (α : Assignment) (fits : N ≤ terminals_most) where
  -- ---- within a cluster
  -- before its first terminal
  pub searching_first : (start : ℕ) (labels : List (Option ℕ)) (queue : List ℕ) → length queue ≡ terminals_most → Labelled N α start labels
      → Searching N α start (record { labels = labels; queue = queue; tail = 0 })
  searching_first start labels queue long l =
      record {
        agree = l.agree;
        queue_long = long;
        earlier = λ i h e. subst T (sym (l.marked i h)) (lt→ltb (chain_label N α i) start e);
        reached = λ i h t. inl (ltb→lt (chain_label N α i) start (subst T (l.marked i h) t));
        queued = λ p h. absurd (omega arith);
        room = let most = many_most N (λ i. not (visited_at labels i)) in omega arith;
      }

  module _ (start : ℕ) (s : Search) (q : Searching N α start s) (j : ℕ) (low : j < N) (new : T (not (visited_at s.labels j))) where
    -- the labels once j is visited
    abbrev after : List (Option ℕ)
    after = set s.labels j (Some start)

    inside : j < length s.labels
    inside = let e = q.agree.long in omega arith

    -- one fewer is not visited, so the queue has room for it
    fewer : unvisited N α after < unvisited N α s.labels
    fewer =
        many_less N (λ i. not (visited_at after i)) (λ i. not (visited_at s.labels i))
        (λ i h t. not_T (visited_at s.labels i) (λ v. T_not (visited_at after i) t (mark_stays s.labels j start i inside v)))
        j low (not_T (not (visited_at after j)) (λ t. T_not (visited_at after j) t (mark_set s.labels j start inside))) new

    pub room_left : s.tail < N
    room_left = let f = fewer in let r = q.room in omega arith

    -- entries of the queue once j is visited
    queue_entry : queue_at (entered start j s) s.tail ≡ j
    unfolding entered
    queue_entry = get_or-set_same s.queue s.tail j 0 (let e = q.queue_long in let r = room_left in omega arith)

    queue_other : (p : ℕ) → p < s.tail → queue_at (entered start j s) p ≡ queue_at s p
    unfolding entered
    queue_other p h = get_or-set_other s.queue s.tail p j 0 (λ e. omega arith)

    -- j is visited, what was visited is
    pub visited_now : T (visited_at (entered start j s).labels j)
    unfolding entered
    visited_now = mark_set s.labels j start inside

    pub visited_still : (i : ℕ) → T (visited_at s.labels i) → T (visited_at (entered start j s).labels i)
    unfolding entered
    visited_still i t = mark_stays s.labels j start i inside t

    -- a terminal of the cluster is visited
    pub searching_more : chain_label N α j ≡ start → Searching N α start (entered start j s)
    unfolding entered
    searching_more own =
        record {
          agree =
              record {
                long = length-set s.labels j (Some start) ∙ q.agree.long;
                named = λ i h. ⊎_elim (λ (e : i ≡ j). here i e) (λ (d : i ≡ j → ⊥). there i h d) (eq? i j);
              };
          queue_long = length-set s.queue s.tail j ∙ q.queue_long;
          earlier = λ i h e. visited_still i (q.earlier i h e);
          reached = λ i h t. ⊎_elim (λ (e : i ≡ j). inr (s.tail, omega arith, queue_entry ∙ sym e)) (λ (d : i ≡ j → ⊥). old i h d t) (eq? i j);
          queued = below_more (λ p. (queue_at (entered start j s) p < N) × (chain_label N α (queue_at (entered start j s) p) ≡ start)) s.tail
              (λ p h. subst (λ (x : ℕ). (x < N) × (chain_label N α x ≡ start)) (sym (queue_other p h)) (q.queued p h))
              (subst (λ (x : ℕ). (x < N) × (chain_label N α x ≡ start)) (sym queue_entry) (low, own));
          room = let f = fewer in let r = q.room in omega arith;
        }
      where
        old : (i : ℕ) → i < N → (i ≡ j → ⊥) → T (visited_at after i)
            → (chain_label N α i < start) ⊎ ((p : ℕ) × (p < s.tail + 1) × (queue_at (entered start j s) p ≡ i))
        old i h d t =
            ⊎_elim (λ (e : chain_label N α i < start). inl e)
            (λ (w : (p : ℕ) × (p < s.tail) × (queue_at s p ≡ i)). inr (w.0, let l = w.1 in omega arith, queue_other w.0 w.1 ∙ w.2))
            (q.reached i h (subst T (ap is_some (get_or-set_other s.labels j i (Some start) None d)) t))

        here : (i : ℕ) → i ≡ j → Named N α i (label_at after i)
        here i e =
            subst (λ (k : ℕ). Named N α k (label_at after k)) (sym e)
            (subst (Named N α j) (sym (get_or-set_same s.labels j (Some start) None inside)) (low, sym own))

        there : (i : ℕ) → i < terminals_most → (i ≡ j → ⊥) → Named N α i (label_at after i)
        there i h d = subst (Named N α i) (sym (get_or-set_other s.labels j i (Some start) None d)) (q.agree.named i h)

  -- ---- the neighbours of a terminal of the queue
  pub further_none : (start node : ℕ) (s : Search) → Searching N α start s → Further N α start node s s 0
  further_none start node s q =
      record {
        searching = q;
        visited_stays = λ i t. t;
        queue_stays = λ p h. refl;
        tail_grows = omega arith;
        neighbours = below_none _;
      }

  -- one that is visited, or that no true X joins to it
  pub further_kept : (start node : ℕ) (before s : Search) (j : ℕ) → Further N α start node before s j
      → (T (α (X N node j)) → T (visited_at s.labels j)) → Further N α start node before s (j + 1)
  further_kept start node before s j f v =
      record {
        searching = f.searching;
        visited_stays = f.visited_stays;
        queue_stays = f.queue_stays;
        tail_grows = f.tail_grows;
        neighbours = below_more (λ j. T (α (X N node j)) → T (visited_at s.labels j)) j f.neighbours v;
      }

  -- one that is visited now
  pub further_more : (start node : ℕ) (before s : Search) (j : ℕ) → Further N α start node before s j → node < N
      → chain_label N α node ≡ start → j < N → visited_at s.labels j ≡ false → α (X N node j) ≡ true
      → Further N α start node before (entered start j s) (j + 1)
  unfolding entered
  further_more start node before s j f at own low new edge =
      let q = f.searching in
      let fresh : T (not (visited_at s.labels j)) = T_of (not (visited_at s.labels j)) (ap not new) in
      let same : chain_label N α node ≡ chain_label N α j
      = label_same N α node j at low (chain_more N α node node j at (0, none_in N α node) (T_of (α (X N node j)) edge)) in
      let still = visited_still start s q j low fresh in
      record {
        searching = searching_more start s q j low fresh (sym same ∙ own);
        visited_stays = λ i t. still i (f.visited_stays i t);
        queue_stays = λ p h. queue_other start s q j low fresh p (let g = f.tail_grows in omega arith) ∙ f.queue_stays p h;
        tail_grows = let g = f.tail_grows in omega arith;
        neighbours =
            below_more (λ k. T (α (X N node k)) → T (visited_at (entered start j s).labels k)) j
            (λ k h x. still k (f.neighbours k h x)) (λ x. visited_now start s q j low fresh);
      }

  -- ---- the queue of a cluster
  -- its first terminal has entered
  pub left_none : (start : ℕ) (s : Search) → Searching N α start s → start < N → visited_at s.labels start ≡ false
      → chain_label N α start ≡ start → Left N α start (entered start start s) 0
  left_none start s q low new own =
      let fresh : T (not (visited_at s.labels start)) = T_of (not (visited_at s.labels start)) (ap not new) in
      record {
        searching = searching_more start s q start low fresh own;
        within = omega arith;
        opened = visited_now start s q start low fresh;
        done = below_none _;
      }

  -- the next has left it
  pub left_more : (start : ℕ) (before s : Search) (head : ℕ) → Left N α start before head → head < before.tail
      → Further N α start (queue_at before head) before s N → Left N α start s (head + 1)
  left_more start before s head l h f =
      record {
        searching = f.searching;
        within = let g = f.tail_grows in omega arith;
        opened = f.visited_stays start l.opened;
        done = below_more (λ p. (j : ℕ) → j < N → T (α (X N (queue_at s p) j)) → T (visited_at s.labels j)) head
            (λ p g j k x. f.visited_stays j (l.done p g j k (subst (λ (i : ℕ). T (α (X N i j))) (f.queue_stays p (omega arith)) x)))
            (λ j k x. f.neighbours j k (subst (λ (i : ℕ). T (α (X N i j))) (f.queue_stays head h) x));
      }

  -- all have: the cluster is visited
  module _ (start : ℕ) (s : Search) (low : start < N) (own : chain_label N α start ≡ start) (l : Left N α start s s.tail) where
    all_visited : (i : ℕ) → i < N → Chain N α start i → T (visited_at s.labels i)
    all_visited i h c =
        (chain_each N α (λ i. Chain N α start i × (i < N → T (visited_at s.labels i))) start
        ((0, none_in N α start), λ h. l.opened)
        (λ k j h v x. (
          chain_more N α start k j h v.0 x,
          λ g.
              ⊎_elim (λ (e : chain_label N α k < start). let z = label_same N α start k low h v.0 in absurd (omega arith))
              (λ (w : (p : ℕ) × (p < s.tail) × (queue_at s p ≡ k)).
              l.done w.0 w.1 j g (subst (λ (i : ℕ). T (α (X N i j))) (sym w.2) x))
              (l.searching.reached k h (v.1 h)),
        ))
        i c).1 h

    pub cluster_labelled : Labelled N α (start + 1) s.labels
    cluster_labelled =
        record {
          agree = l.searching.agree;
          marked = λ i h. tests_eq (visited_at s.labels i) (ltb (chain_label N α i) (start + 1)) (to i h) (from i h);
        }
      where
        to : (i : ℕ) → i < N → T (visited_at s.labels i) → T (ltb (chain_label N α i) (start + 1))
        to i h t =
            lt→ltb (chain_label N α i) (start + 1)
            (⊎_elim (λ (e : chain_label N α i < start). omega arith)
            (λ (w : (p : ℕ) × (p < s.tail) × (queue_at s p ≡ i)).
            let e : chain_label N α i ≡ start = ap (chain_label N α) (sym w.2) ∙ (l.searching.queued w.0 w.1).1 in omega arith)
            (l.searching.reached i h t))

        from : (i : ℕ) → i < N → T (ltb (chain_label N α i) (start + 1)) → T (visited_at s.labels i)
        from i h t =
            let below = ltb→lt (chain_label N α i) (start + 1) t in
            ⊎_elim (λ (e : start ≤ chain_label N α i).
            let z : chain_label N α i ≡ start = omega arith in
            all_visited i h (subst (λ (k : ℕ). Chain N α k i) z (label_chain N α i h)))
            (λ (e : chain_label N α i < start). l.searching.earlier i h e)
            (le? start (chain_label N α i))

  -- ---- one cluster after another
  -- none is visited
  pub labelled_none : Labelled N α 0 (replicate terminals_most None)
  labelled_none =
      record {
        agree = record { long = length-replicate {A = Option ℕ} terminals_most None; named = λ i h. subst (Named N α i) (sym (unnamed i h)) tt };
        marked = λ i h. ap is_some (unnamed i (omega arith)) ∙ sym (le-ltb (chain_label N α i) 0 (omega arith));
      }
    where
      unnamed : (i : ℕ) → i < terminals_most → label_at (replicate terminals_most None) i ≡ None
      unnamed i h = get_or-replicate terminals_most i None None h

  -- a terminal that is not visited is the lowest of its cluster
  pub labelled_start : (start : ℕ) (labels : List (Option ℕ)) → Labelled N α start labels → start < N
      → visited_at labels start ≡ false → chain_label N α start ≡ start
  labelled_start start labels l h e =
      let low = label_low N α start h in
      let high = ltb-false (chain_label N α start) start (sym (l.marked start h) ∙ e) in
      omega arith

  -- the cluster of a visited terminal is
  pub labelled_skip : (start : ℕ) (labels : List (Option ℕ)) → Labelled N α start labels → start < N
      → visited_at labels start ≡ true → Labelled N α (start + 1) labels
  labelled_skip start labels l h e =
      record {
        agree = l.agree;
        marked = λ i k. l.marked i k ∙ tests_eq (ltb (chain_label N α i) start) (ltb (chain_label N α i) (start + 1))
            (λ t. let z = ltb→lt (chain_label N α i) start t in lt→ltb (chain_label N α i) (start + 1) (omega arith))
            (λ t. let z = ltb→lt (chain_label N α i) (start + 1) t in lt→ltb (chain_label N α i) start (other i k z));
      }
    where
      below : chain_label N α start < start
      below = ltb→lt (chain_label N α start) start (T_of (ltb (chain_label N α start) start) (sym (l.marked start h) ∙ e))

      other : (i : ℕ) → i < N → chain_label N α i < start + 1 → chain_label N α i < start
      other i k z =
          ⊎_elim
          (λ (d : start ≤ chain_label N α i).
          let c : chain_label N α i ≡ start = omega arith in
          let b = below in
          let o : chain_label N α start ≡ start = ap (chain_label N α) (sym c) ∙ label_own N α i k ∙ c in
          absurd (omega arith))
          (λ (d : chain_label N α i < start). d)
          (le? start (chain_label N α i))

  -- all are: the labels, as bytes that are 0 where there is none, are those of chains
  pub labelled_all : (labels : List (Option ℕ)) (bytes : List ℕ) → Labelled N α N labels → length bytes ≡ terminals_most
      → ((i : ℕ) → i < terminals_most → get_or bytes i 0 ≡ unwrap_or (label_at labels i) 0) → bytes ≡ chain_labels N α
  labelled_all labels bytes l long byte =
      ext_get_or 0 bytes (chain_labels N α) (long ∙ sym (labels_long N α fits)) (λ i h.
      let k : i < terminals_most = omega arith in
      byte i k
      ∙ ⊎_elim (λ (g : N ≤ i). past i (label_at labels i) g (l.agree.named i k) ∙ sym (labels_rest N α fits i g k))
      (λ (g : i < N).
      let low = label_low N α i g in
      at i (label_at labels i) (l.agree.named i k) (subst T (sym (l.marked i g)) (lt→ltb (chain_label N α i) N (omega arith)))
      ∙ sym (labels_entry N α fits i g))
      (le? N i))
    where
      at : (i : ℕ) (label : Option ℕ) → Named N α i label → T (is_some label) → unwrap_or label 0 ≡ chain_label N α i
      at i None n t = absurd t
      at i (Some x) n t = n.1

      past : (i : ℕ) (label : Option ℕ) → N ≤ i → Named N α i label → unwrap_or label 0 ≡ 0
      past i None h n = refl
      past i (Some x) h n = let e = n.0 in absurd (omega arith)
