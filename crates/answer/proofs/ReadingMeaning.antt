-- The network of an answer that is taken: groups 1 and 2 hold of the values that its lines name, X is an equality of its labels, L
-- of its literals, and it has the form. Assumes nothing.
use Rattle.std.specs.Prelude.{◌≡◌, refl, Bool, true, false, cond, List, [], ◌⊎◌, ℕ, ◌+◌, ◌*◌, ◌≤◌, ◌<◌, T, eqb, length, get_or, replicate}
use Rattle.std.proofs.Common.{sym, ◌∙◌, arith, eqb→eq}
use Rattle.std.proofs.Math.Path.{ap, subst}
use Rattle.std.proofs.Math.Logic.{inl, inr, ⊎_elim}
use borrow.Author.Tests.{eq-eqb, ne_eqb}
use Rattle.prelude.specs.Tests.{T_of, eq?}
use Rattle.prelude.specs.Lists.Laws.{all_out}
use Rattle.cnf.specs.Cnf.{Assignment, Clause, clause_holds, Sat}
use Rattle.cnf.specs.Cnf.Laws.{sat_all}
use Rattle.request.specs.declared.Request.{Request}
use Rattle.request.specs.Numbers.{refusal_of, Good}
use Rattle.request.proofs.NumbersLaws.{refusal_good}
use Rattle.network.specs.declared.Network.{Network}
use Rattle.network.specs.Networks.{FormedAs, literal_at, label_at}
use Rattle.network.specs.Check.{label_in, fitting}
use Rattle.network.specs.Value.{listed}
use Rattle.network.proofs.CheckLaws.{literals_below, labels_right, listed_literal, listed_label, form_right}
use Rattle.formula.specs.Count.{network_count, values_most, variable_count}
use Rattle.formula.proofs.CountLaws.{network_length}
use Rattle.formula.specs.Formula.{terminals, X, L, transitivity, choices, formula_of}
use Rattle.formula.specs.Number.{clause_of}
use Rattle.formula.proofs.NumberLaws.{clause_good, in_nets, in_choices}
use Rattle.answer.specs.Values.{kept, complete, assigned, holding}
use Rattle.answer.specs.Decode.{label_for, decoded}
use Rattle.answer.specs.Decode.Meaning.{label_joined, literal_is, decoded_literal, decoded_label, decoded_formed}
use Rattle.answer.specs.Reading.{Decoded, Lines, lines_from, refused_with, ended, reading_of}

-- what the lines of an answer give
abbrev pub lines_in : Request → List ℕ → Lines
lines_in q t = lines_from (variable_count q) (kept q.n q.r) t (length t) 0 0 (replicate values_most 0)

-- the values that they name
abbrev pub values_in : Request → List ℕ → List ℕ
values_in q t = (lines_in q t).values

-- the assignment of these
abbrev pub assignment_in : Request → List ℕ → Assignment
assignment_in q t = assigned (values_in q t)

-- the label of a terminal
abbrev pub label_of : Request → Network → ℕ → ℕ
label_of q w i = label_at (listed q.r w) i

-- the literal of a switch
abbrev pub literal_of : Request → Network → ℕ → ℕ
literal_of q w s = literal_at (listed q.r w) s

-- two terminals are one, or X joins them
abbrev pub Joined : Request → Assignment → ℕ → ℕ → Type 0
Joined q α i j = (i ≡ j) ⊎ (α (X (terminals q.r) i j) ≡ true)

-- the network w of a request is the one that the assignment α describes
pub record Describes (q : Request) (α : Assignment) (w : Network) : Type 0 where
  -- groups 1 and 2 hold
  pub nets : Sat α (transitivity (terminals q.r))
  pub picks : Sat α (choices q.n (terminals q.r) q.r)
  -- it is the network of the values, and has the form that the check of a network asks
  pub network : w ≡ decoded q.n q.r α
  pub size : w.r ≡ q.r
  pub form : FormedAs q.n q.r (listed q.r w)
  -- two terminals share a label exactly where they are one or X joins them
  pub label_joins : (i j : ℕ) → i < terminals q.r → j < terminals q.r → label_of q w i ≡ label_of q w j → Joined q α i j
  pub joins_label : (i j : ℕ) → i < terminals q.r → j < terminals q.r → Joined q α i j → label_of q w i ≡ label_of q w j
  -- a label is the lowest terminal of its net: one of that net, at or below each of it
  pub label_there : (i : ℕ) → i < terminals q.r → label_of q w (label_of q w i) ≡ label_of q w i
  pub label_lowest : (i j : ℕ) → i < terminals q.r → j < terminals q.r → label_of q w i ≡ label_of q w j → label_of q w i ≤ j
  -- the literal of a switch is below 2n, and the one whose L is true
  pub literal_low : (s : ℕ) → s < q.r → literal_of q w s < 2 * q.n
  pub chosen_literal : (s v : ℕ) → s < q.r → v < 2 * q.n → α (L q.n (terminals q.r) s v) ≡ true → literal_of q w s ≡ v
  pub literal_chosen : (s v : ℕ) → s < q.r → v < 2 * q.n → literal_of q w s ≡ v → α (L q.n (terminals q.r) s v) ≡ true

-- numbers of which the test of equality is true are equal
test_eq : (x y : ℕ) → eqb x y ≡ true → x ≡ y
test_eq x y e = eqb→eq x y (T_of (eqb x y) e)

-- ---- where groups 1 and 2 hold, the decoded network is described
module _ (q : Request) (α : Assignment) (nets : Sat α (transitivity (terminals q.r))) (picks : Sat α (choices q.n (terminals q.r) q.r)) where
  -- that network
  abbrev made : Network
  made = decoded q.n q.r α

  -- it has the form
  form : FormedAs q.n q.r (listed q.r made)
  form = decoded_formed q.n q.r α nets picks

  -- its labels are those of the assignment
  label_is : (i : ℕ) → i < terminals q.r → label_of q made i ≡ label_for q.r α i
  label_is = decoded_label q.n q.r α

  -- X is the test that two are the same
  pub same_test : (i j : ℕ) → i < terminals q.r → j < terminals q.r → (i ≡ j → ⊥)
      → α (X (terminals q.r) i j) ≡ eqb (label_of q made i) (label_of q made j)
  same_test i j h l d = label_joined q.r α nets i j h l d ∙ rw (label_is i h, label_is j l)

  -- L that a literal is v
  pub literal_test : (s v : ℕ) → s < q.r → v < 2 * q.n → α (L q.n (terminals q.r) s v) ≡ eqb (literal_of q made s) v
  literal_test s v h l = literal_is q.n q.r α picks s v h l ∙ rw (decoded_literal q.n q.r α s h)

  -- each part by the laws of decoding
  pub decoded_described : Describes q α made
  unfolding decoded
  decoded_described =
      record {
        nets = nets;
        picks = picks;
        network = refl;
        size = refl;
        form = form;
        label_joins = λ i j h l e.
            ⊎_elim (λ (z : i ≡ j). inl z)
            (λ (d : i ≡ j → ⊥). inr (same_test i j h l d ∙ eq-eqb (label_of q made i) (label_of q made j) e))
            (eq? i j);
        joins_label = λ i j h l w. join i j h l w (eq? i j);
        label_there = form.labels_own;
        label_lowest = λ i j h l e. let low = form.labels_low j l in omega arith;
        literal_low = form.literals_low;
        chosen_literal = λ s v h l e. test_eq (literal_of q made s) v (sym (literal_test s v h l) ∙ e);
        literal_chosen = λ s v h l e. literal_test s v h l ∙ eq-eqb (literal_of q made s) v e;
      }
    where
      join : (i j : ℕ) → i < terminals q.r → j < terminals q.r → Joined q α i j → (i ≡ j) ⊎ (i ≡ j → ⊥)
          → label_of q made i ≡ label_of q made j
      join i j h l w (inl e) = ap (label_of q made) e
      join i j h l (inl e) (inr d) = absurd (d e)
      join i j h l (inr x) (inr d) = test_eq (label_of q made i) (label_of q made j) (sym (same_test i j h l d) ∙ x)

-- a network that is described passes the check's test of its form
pub described_fits : (q : Request) (α : Assignment) (w : Network) → Describes q α w → fitting q w ≡ true
described_fits q α w d =
    form_right q w d.size
    true (literals_below q.n q.r (label_in w.literals) (λ s h. rw (listed_literal q.r w s h) (d.literal_low s h))) refl
    true (labels_right q.r (label_in w.labels) (λ i h. (low i h, own i h))) refl
  where
    low : (i : ℕ) → i < terminals q.r → label_in w.labels i ≤ i
    low i h = rw (listed_label q.r w i h) (d.form.labels_low i h)

    own : (i : ℕ) → i < terminals q.r → label_in w.labels (label_in w.labels i) ≡ label_in w.labels i
    own i h =
        let below = low i h in
        listed_label q.r w (label_in w.labels i) (omega arith) ∙ ap (label_of q w) (listed_label q.r w i h)
        ∙ d.label_there i h ∙ sym (listed_label q.r w i h)

-- ---- groups 1 and 2 are the first clauses of a request
module _ (q : Request) (values : List ℕ) (good : Good q)
    (held : holding q (network_count q.n q.r) values ≡ true) where
  -- a clause of the request holds of the values
  abbrev Holds : Clause → Type 0
  Holds c = T (clause_holds (assigned values) c)

  -- each of the first does
  clause_holds_lem : (k : ℕ) → k < network_count q.n q.r → Holds (get_or (formula_of q) k [])
  unfolding holding
  clause_holds_lem k h =
      subst Holds (clause_good q k good)
      (all_out 0 (network_count q.n q.r) (λ k. clause_holds (assigned values) (clause_of q k))
      (T_of _ held) k (omega arith) (omega arith))

  -- those of group 1
  pub nets_hold : Sat (assigned values) (transitivity (terminals q.r))
  nets_hold = sat_all (assigned values) (transitivity (terminals q.r)) (λ k h.
      subst Holds (in_nets q k h) (clause_holds_lem k (omega (arith, network_length q.n q.r))))

  -- and of group 2
  picks_hold : Sat (assigned values) (choices q.n (terminals q.r) q.r)
  picks_hold =
      sat_all (assigned values) (choices q.n (terminals q.r) q.r) (λ k h.
      let i : ℕ = length (transitivity (terminals q.r)) + k in
      subst Holds (in_choices q i k refl h) (clause_holds_lem i (omega (arith, network_length q.n q.r))))

-- ---- an answer that is taken
-- its request is
pub taken_request : (q : Request) (t : List ℕ) → (reading_of q t).refusal ≡ 0 → refusal_of q ≡ 0
unfolding reading_of
taken_request q t e =
    ⊎_elim (λ (z : refusal_of q ≡ 0). z) (λ (d : refusal_of q ≡ 0 → ⊥). rw (ne_eqb (refusal_of q) 0 d) at e) (eq? (refusal_of q) 0)

-- what the lines come to, by the four tests at their end
abbrev ended_by : Bool → Bool → Bool → Bool → ℕ → Network → Decoded
ended_by a b c d x w =
    cond a (cond b (cond c (cond d (record { refusal = 0; network = w }) (refused_with 12)) (refused_with 11)) (refused_with 11))
    (refused_with x)

-- where nothing is refused, the last of them holds, and the network is given
ended_ways : (a b c d : Bool) (x : ℕ) (w : Network) → (a ≡ false → x ≡ 0 → ⊥) → (ended_by a b c d x w).refusal ≡ 0
    → (d ≡ true) × ((ended_by a b c d x w).network ≡ w)
ended_ways true true true true x w f e = (refl, refl)
ended_ways true true true false x w f e = absurd (omega arith)
ended_ways true true false d x w f e = absurd (omega arith)
ended_ways true false c d x w f e = absurd (omega arith)
ended_ways false b c d x w f e = absurd (f refl e)

-- a number that fails the test of being 0 is not 0
false_zero : (x : ℕ) → eqb x 0 ≡ false → x ≡ 0 → ⊥
false_zero x e z = subst T (sym (eq-eqb x 0 z) ∙ e) tt

-- the same of what the lines give
ended_zero : (q : Request) (l : Lines) → (ended q l).refusal ≡ 0
    → (holding q (network_count q.n q.r) l.values ≡ true)
    × ((ended q l).network ≡ decoded q.n q.r (assigned l.values))
unfolding ended
ended_zero q l e =
    ended_ways (eqb l.refusal 0) (eqb l.phase 2) (complete (kept q.n q.r) l.values)
    (holding q (network_count q.n q.r) l.values) l.refusal
    (decoded q.n q.r (assigned l.values)) (false_zero l.refusal) e

-- a request that is taken is read by its lines
pub reading_lines : (q : Request) (t : List ℕ) → refusal_of q ≡ 0 → reading_of q t ≡ ended q (lines_in q t)
unfolding reading_of
reading_lines q t z = rw (eq-eqb (refusal_of q) 0 z)

-- where reading an answer refuses nothing, it gives the network that the values of its lines describe
pub taken_describes : (q : Request) (t : List ℕ) → (reading_of q t).refusal ≡ 0
    → Describes q (assignment_in q t) (reading_of q t).network
taken_describes q t e =
    let taken = taken_request q t e in
    let good = refusal_good q taken in
    let is : reading_of q t ≡ ended q (lines_in q t) = reading_lines q t taken in
    let w = ended_zero q (lines_in q t) (ap (λ (d : Decoded). d.refusal) (sym is) ∙ e) in
    subst (Describes q (assignment_in q t)) (sym (ap (λ (d : Decoded). d.network) is ∙ w.1))
    (decoded_described q (assignment_in q t) (nets_hold q (values_in q t) good w.0) (picks_hold q (values_in q t) good w.0))
