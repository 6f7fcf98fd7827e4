-- Laws of the store: literals written on, that the part which pair k names is clause k, and what each refusal answers and leaves.
-- Assumes nothing.
use Rattle.std.specs.Prelude.{◌≡◌, Result, Ok, Err, IfOk}
use Rattle.std.proofs.Math.Path.{refl, sym, ap, ap₂}
use Rattle.std.proofs.Common.{◌∙◌, subst, arith, take_all, drop_at}
use mathlib.Core.List.{List, [], ◌∷◌, ◌++◌, append_assoc, append-nil, map-append}
use Rattle.std.proofs.Math.Logic.{◌⊎◌, inl, inr, ⊎_elim}
use Prim.Native.Nat.{ℕ, suc, ◌+◌, ◌-◌, ◌*◌, ◌^◌, ◌≤◌, ◌<◌}
use Rattle.std.proofs.Math.Numerals.{add-one}
use Rattle.std.proofs.Math.IntN.{ℤ}
use Rattle.std.proofs.Math.ListN.{length, get_or, set, take, drop, length-append, get_or-append, drop_of_length-le}
use Rattle.std.proofs.lemmas.List.{length-map}
use Rattle.std.proofs.Math.Seq.{take_at}
use borrow.Author.Tests.{eq-eqb, ne_eqb, lt-ltb, le-ltb, le-leb, lt-leb}
use Rattle.prelude.specs.Tests.{eq?, le?}
use Rattle.prelude.specs.Lists.Laws.{each_out, each_then}
use Rattle.prelude.specs.Blocks.{flatten, pairs_from}
use Rattle.prelude.specs.Blocks.Laws.{flatten_append, flatten_more, flatten_room, flatten_split, pairs_append, pairs_length, store_pairs_more, pair_offset, pair_length}
use Rattle.prelude.specs.Written.{written}
use Rattle.prelude.specs.Written.Laws.{written_none, written_length, written_one, written_append}
use Rattle.cnf.specs.Cnf.{signed_of, Clause, Formula}
use Rattle.cnf.specs.declared.Literal.{Literal}
use Rattle.request.specs.Numbers.{Good, refusal_of}
use Rattle.request.proofs.NumbersLaws.{good_refusal, refusal_good}
use Rattle.request.specs.declared.Request.{Request}
use Rattle.formula.specs.Clause.{Low}
use Rattle.formula.specs.Formula.{formula_of}
use Rattle.formula.specs.Count.{variable_count, counts_of}
use Rattle.request.proofs.NumbersLaws.{refusal_most}
use Rattle.formula.proofs.CountLaws.{clause_count_lem, literal_count_lem}
use Rattle.formula_clauses.specs.declared.Block.{Block}
use Rattle.formula_clauses.specs.Block.{block_clauses, block_count, block_literals, Fits, block_of, clauses_of, blocks_below, block_formula}
use Rattle.formula_clauses.specs.Block.Laws.{block_length, block_literals_lem, blocks_all, block_within, block_each}
use Rattle.formula.proofs.FormulaRange.{ClauseIn, range, variables_most_lem}
use Rattle.formula.specs.declared.Sizes.{Sizes}
use Rattle.formula_clauses.specs.declared.store.BlockSizes.{BlockSizes}
use Rattle.refusal.specs.declared.Refusal.{Refusal}
use Rattle.refusal.specs.Refusal.{number, number_of, unless}
use Rattle.refusal.specs.Refusal.Laws.{number_some, refused_by, taken_by, unless-ok, unless-number_of}
use Rattle.formula_clauses.specs.Store.{signs, room_refusal, store_refusal, block_refusal, block_sizes, block_literals_in, block_pairs_in, store_sizes, stored_literals, stored_pairs, Roomy, BlockRoom}

-- signed literals are as many as the literals
pub signs_length : (c : Clause) → length (signs c) ≡ length c
signs_length c = length-map c signed_of

-- as many entries as a list has, written over all of it
pub written_all : {A : Type 0} (l xs : List A) → length xs ≡ length l → written l 0 xs ≡ xs
unfolding written
written_all l xs h = ap (λ (r : List _). xs ++ r) (drop_of_length-le l (omega arith)) ∙ append-nil xs

-- literals written on where the last write ended
pub signs_more : (old now next : List ℤ) (at to : ℕ) (c d : Clause) → at + length c + length d ≤ length old → to ≡ at + length c
    → now ≡ written old at (signs c) → next ≡ written now to (signs d) → next ≡ written old at (signs (c ++ d))
signs_more old now next at to c d h e f g =
    let m = signs_length c in
    let n = signs_length d in
    let p : to ≡ at + length (signs c) = omega arith in
    g ∙ ap₂ (λ (x : List ℤ) (k : ℕ). written x k (signs d)) f p ∙ written_append old at (signs c) (signs d) (omega arith)
    ∙ ap (written old at) (sym (map-append signed_of c d))

-- one literal written on
pub signs_last : (old now next : List ℤ) (at : ℕ) (c : Clause) (x : Literal) (z : ℤ) → at ≡ length c → at < length old → z ≡ signed_of x
    → now ≡ written old 0 (signs c) → next ≡ set now at z → next ≡ written old 0 (signs (c ++ (x ∷ [])))
signs_last old now next at c x z e h f g n =
    let l : at < length now = omega (arith, ap length g, written_length old 0 (signs c) (omega (arith, signs_length c))) in
    signs_more old now next 0 at c (x ∷ []) (omega arith) (omega arith) g (n ∙ ap (set now at) f ∙ written_one now at (signed_of x) l)

-- clauses stored one after the other, the first as clause `first` with its literals from the entry `from` on: after the first k of
-- them the slices have these written, and the next literal has its place
module _ (F : Formula) (first from : ℕ) (literals₀ : List ℤ) (pairs₀ : List ℕ) where
  pub record Filled (literals : List ℤ) (pairs : List ℕ) (k at : ℕ) : Type 0 where
    pub within : k ≤ length F
    pub place : at ≡ from + length (flatten (take k F))
    pub literals_long : length literals ≡ length literals₀
    pub pairs_long : length pairs ≡ length pairs₀
    pub literals_are : literals ≡ written literals₀ from (signs (flatten (take k F)))
    pub pairs_are : pairs ≡ written pairs₀ (2 * first) (pairs_from from (take k F))

  pub filled_none : Filled literals₀ pairs₀ 0 from
  unfolding flatten pairs_from
  filled_none = record {
    within = omega arith;
    place = omega arith;
    literals_long = refl;
    pairs_long = refl;
    literals_are = sym (written_none literals₀ from);
    pairs_are = sym (written_none pairs₀ (2 * first));
  }

  module _ (room : from + length (flatten F) ≤ length literals₀) (pairs_room : 2 * (first + length F) ≤ length pairs₀) where
    -- clause k fits
    pub filled_room : (literals : List ℤ) (pairs : List ℕ) (k at : ℕ) (c : Clause) → Filled literals pairs k at → k < length F
        → c ≡ get_or F k [] → at + length c ≤ from + length (flatten F)
    filled_room literals pairs k at c f h e = let r = flatten_room F k h in let l = ap length e in let p = f.place in omega arith

    -- one clause more
    pub filled_more : (literals next : List ℤ) (pairs next_pairs : List ℕ) (k at end size : ℕ) (c : Clause) → Filled literals pairs k at
        → k < length F → c ≡ get_or F k [] → end ≡ at + length c → size ≡ end - at → length next ≡ length literals → length next_pairs ≡ length pairs
        → next ≡ written literals at (signs c) → next_pairs ≡ written pairs (2 * (first + k)) (at ∷ size ∷ []) → Filled next next_pairs (k + 1) end
    filled_more literals next pairs next_pairs k at end size c f h e p s l m g w =
        let r = flatten_room F k h in
        let c_long = ap length e in
        let start : at ≡ from + length (flatten (take k F)) = f.place in
        let size_is : size ≡ length (get_or F k []) = omega arith in
        let to : 2 * (first + k) ≡ 2 * first + 2 * k = omega arith in
        let more = flatten_more F k h in
        let long = ap length more ∙ length-append (flatten (take k F)) (get_or F k []) in
        record {
          within = omega arith;
          place = omega arith;
          literals_long = l ∙ f.literals_long;
          pairs_long = m ∙ f.pairs_long;
          literals_are =
              signs_more literals₀ literals next from at (flatten (take k F)) c (omega arith) start f.literals_are g
              ∙ ap (λ (x : Clause). written literals₀ from (signs x)) (ap (λ (x : Clause). flatten (take k F) ++ x) e ∙ sym more);
          pairs_are =
              w ∙ ap₂ (λ (x : List ℕ) (i : ℕ). written x i (at ∷ size ∷ [])) f.pairs_are to
              ∙ ap₂ (λ (x y : ℕ). written (written pairs₀ (2 * first) (pairs_from from (take k F))) (2 * first + 2 * k) (x ∷ y ∷ [])) start size_is
              ∙ store_pairs_more pairs₀ (2 * first) from F k h (omega arith);
        }

  -- all of them
  pub filled_all : (literals : List ℤ) (pairs : List ℕ) (k at : ℕ) → Filled literals pairs k at → length F ≤ k
      → (at ≡ from + length (flatten F)) × ((literals ≡ written literals₀ from (signs (flatten F))) × (pairs ≡ written pairs₀ (2 * first) (pairs_from from F)))
  filled_all literals pairs k at f h =
      let all : take k F ≡ F = take_all k F h in (
        f.place ∙ ap (λ (x : Formula). from + length (flatten x)) all,
        (
          f.literals_are ∙ ap (λ (x : Formula). written literals₀ from (signs (flatten x))) all,
          f.pairs_are ∙ ap (λ (x : Formula). written pairs₀ (2 * first) (pairs_from from x)) all,
        ),
      )

-- the clauses of a block have no variable above the most
pub block_low : (q : Request) (b j : ℕ) → Good q → b ≤ 2 ^ q.n → j < length (clauses_of q b) → Low (get_or (clauses_of q b) j [])
block_low q b j g h l =
    let most = variables_most_lem q g in
    each_then _ _ (get_or (clauses_of q b) j []) (λ x k. let u = k.1 in omega arith)
    (each_out (ClauseIn (variable_count q)) (clauses_of q b) [] (block_each q (ClauseIn (variable_count q)) b h (range q)) j l)

-- room for the clauses of a block of a good request, from what is known of them
pub clauses_room : (q : Request) (F : Formula) (first from literals pairs : ℕ) {x : Block} → Good q → block_clauses q.n q.r q.m x ≡ F → Fits q.n x
    → ((j : ℕ) → j < length F → Low (get_or F j []))
    → from + length (flatten F) < 4294967296 → first + length F < 4294967296
    → from + length (flatten F) ≤ literals → 2 * (first + length F) ≤ pairs
    → BlockRoom q.n q.r q.m x first from literals pairs
clauses_room q F first from literals pairs {x} g same fits low small few long wide =
    let l = ap length same in
    let f = ap (λ (F : Formula). length (flatten F)) same in
    record {
      n_low = g.n_low;
      n_high = omega (arith, g.n_high);
      r_high = omega (arith, g.r_high);
      m_high = omega (arith, g.m_high);
      fits = fits;
      low = λ j k. subst (λ (F : Formula). Low (get_or F j [])) (sym same) (low j (omega arith));
      small = omega arith;
      few = omega arith;
      literals_long = omega arith;
      pairs_long = omega arith;
    }

pub block_room : (q : Request) (b first from literals pairs : ℕ) {x : Block} → Good q → b ≤ 2 ^ q.n → x ≡ block_of q b → Fits q.n x
    → from + length (flatten (clauses_of q b)) < 4294967296 → first + length (clauses_of q b) < 4294967296
    → from + length (flatten (clauses_of q b)) ≤ literals → 2 * (first + length (clauses_of q b)) ≤ pairs
    → BlockRoom q.n q.r q.m x first from literals pairs
block_room q b first from literals pairs g h e fits small few long wide =
    clauses_room q (clauses_of q b) first from literals pairs g (ap (block_clauses q.n q.r q.m) e) fits (λ j k. block_low q b j g h k) small few long wide

-- blocks stored one after the other: the slices have the blocks below b
module _ (q : Request) (literals₀ : List ℤ) (pairs₀ : List ℕ) where
  pub record Below (literals : List ℤ) (pairs : List ℕ) (b first at : ℕ) : Type 0 where
    pub within : b ≤ 2 ^ q.n + 1
    pub clauses_are : first ≡ length (blocks_below q b)
    pub place : at ≡ length (flatten (blocks_below q b))
    pub literals_long : length literals ≡ length literals₀
    pub pairs_long : length pairs ≡ length pairs₀
    pub literals_are : literals ≡ written literals₀ 0 (signs (flatten (blocks_below q b)))
    pub pairs_are : pairs ≡ written pairs₀ 0 (pairs_from 0 (blocks_below q b))

  pub below_none : Below literals₀ pairs₀ 0 0 0
  unfolding flatten pairs_from blocks_below
  below_none = record {
    within = omega arith;
    clauses_are = refl;
    place = refl;
    literals_long = refl;
    pairs_long = refl;
    literals_are = sym (written_none literals₀ 0);
    pairs_are = sym (written_none pairs₀ 0);
  }

  module _ (roomy : Roomy q (length literals₀) (length pairs₀)) where
    -- there is room for the next block
    pub below_room : (literals : List ℤ) (pairs : List ℕ) (b first at : ℕ) → Below literals pairs b first at → b ≤ 2 ^ q.n
        → {x : Block} → x ≡ block_of q b → Fits q.n x → BlockRoom q.n q.r q.m x first at (length literals) (length pairs)
    below_room literals pairs b first at w h e fits =
        let i = block_within q b h in
        let c = clause_count_lem q in
        let t = literal_count_lem q in
        block_room q b first at (length literals) (length pairs) roomy.good h e fits (omega (arith, i.1, w.place, roomy.small))
        (omega (arith, i.0, w.clauses_are, roomy.few)) (omega (arith, i.1, w.place, w.literals_long, roomy.literals_long))
        (omega (arith, i.0, w.clauses_are, w.pairs_long, roomy.pairs_long))

    -- one block more
    pub below_more : (literals next : List ℤ) (pairs next_pairs : List ℕ) (b first at end count : ℕ) → Below literals pairs b first at → b ≤ 2 ^ q.n
        → end ≡ at + length (flatten (clauses_of q b)) → count ≡ length (clauses_of q b) → length next ≡ length literals → length next_pairs ≡ length pairs
        → next ≡ written literals at (signs (flatten (clauses_of q b))) → next_pairs ≡ written pairs (2 * first) (pairs_from at (clauses_of q b))
        → Below next next_pairs (b + 1) (first + count) end
    unfolding blocks_below
    below_more literals next pairs next_pairs b first at end count w h e k l m g v =
        let i = block_within q b h in
        let c = clause_count_lem q in
        let t = literal_count_lem q in
        let B : Formula = blocks_below q b in
        let D : Formula = clauses_of q b in
        let one = add-one b in
        let flat = flatten_append B D in
        let long = ap length flat ∙ length-append (flatten B) (flatten D) in
        let p = pairs_length 0 B in
        let d = pairs_length at D in
        rw one (record {
          within = omega arith;
          clauses_are = ap₂ (λ (x y : ℕ). x + y) w.clauses_are k ∙ sym (length-append B D);
          place = omega (arith, w.place);
          literals_long = l ∙ w.literals_long;
          pairs_long = m ∙ w.pairs_long;
          literals_are =
              signs_more literals₀ literals next 0 at (flatten B) (flatten D) (omega (arith, roomy.literals_long)) (omega (arith, w.place)) w.literals_are g
              ∙ ap (λ (x : Clause). written literals₀ 0 (signs x)) (sym flat);
          pairs_are =
              let z : 2 * first ≡ 0 + length (pairs_from 0 B) = omega (arith, w.clauses_are) in
              v ∙ ap₂ (λ (x : List ℕ) (i : ℕ). written x i (pairs_from at D)) w.pairs_are z
              ∙ written_append pairs₀ 0 (pairs_from 0 B) (pairs_from at D) (omega (arith, roomy.pairs_long))
              ∙ ap (λ (i : ℕ). written pairs₀ 0 (pairs_from 0 B ++ pairs_from i D)) (let y : at ≡ 0 + length (flatten B) = omega (arith, w.place) in y)
              ∙ ap (written pairs₀ 0) (sym (pairs_append 0 B D));
        })

  -- all of them
  pub below_all : (literals : List ℤ) (pairs : List ℕ) (b first at : ℕ) → Below literals pairs b first at → 2 ^ q.n < b
      → (literals ≡ written literals₀ 0 (signs (flatten (formula_of q)))) × (pairs ≡ written pairs₀ 0 (pairs_from 0 (formula_of q)))
  below_all literals pairs b first at w h =
      let in' = w.within in
      let e : b ≡ suc (2 ^ q.n) = omega arith in
      let all : blocks_below q b ≡ formula_of q = ap (blocks_below q) e ∙ blocks_all q in (
        w.literals_are ∙ ap (λ (x : Formula). written literals₀ 0 (signs (flatten x))) all,
        w.pairs_are ∙ ap (λ (x : Formula). written pairs₀ 0 (pairs_from 0 x)) all,
      )

module _ (F : Formula) (k : ℕ) (h : k < length F) where
  -- the offset that the store has for clause k
  pub stored_offset : (pairs : List ℕ) → get_or (written pairs 0 (pairs_from 0 F)) (2 * k) 0 ≡ length (flatten (take k F))
  unfolding written
  stored_offset pairs =
      let e = pairs_length 0 F in
      get_or-append (pairs_from 0 F) _ 0 (2 * k) (omega arith) ∙ pair_offset F k h

  -- its length
  pub stored_length : (pairs : List ℕ) → get_or (written pairs 0 (pairs_from 0 F)) (2 * k + 1) 0 ≡ length (get_or F k [])
  unfolding written
  stored_length pairs =
      let e = pairs_length 0 F in
      get_or-append (pairs_from 0 F) _ 0 (2 * k + 1) (omega arith) ∙ pair_length F k h

  -- the literals there are clause k
  pub stored_read : (old : List ℤ)
      → take (length (get_or F k [])) (drop (length (flatten (take k F))) (written old 0 (signs (flatten F)))) ≡ signs (get_or F k [])
  unfolding written
  stored_read old =
      let a : Clause = flatten (take k F) in
      let c : Clause = get_or F k [] in
      let b : Clause = flatten (drop (suc k) F) in
      let rest : List ℤ = drop (0 + length (signs (flatten F))) old in
      let e : signs (flatten F) ++ rest ≡ signs a ++ (signs c ++ (signs b ++ rest)) =
      ap (λ (x : Clause). signs x ++ rest) (flatten_split F k h)
      ∙ ap (λ (x : List ℤ). x ++ rest) (map-append signed_of a (c ++ b) ∙ ap (λ (x : List ℤ). signs a ++ x) (map-append signed_of c b))
      ∙ append_assoc (signs a) (signs c ++ signs b) rest ∙ ap (λ (x : List ℤ). signs a ++ x) (append_assoc (signs c) (signs b) rest) in
      ap (λ (x : List ℤ). take (length c) (drop (length a) x)) e
      ∙ ap (take (length c)) (drop_at (signs a) _ (length a) (signs_length a)) ∙ take_at (signs c) _ (length c) (signs_length c)

-- the part of the stored literals which the stored pair k names is clause k
pub store_clause : (q : Request) (k : ℕ) (old : List ℤ) (pairs : List ℕ) → k < length (formula_of q)
    → take (get_or (written pairs 0 (pairs_from 0 (formula_of q))) (2 * k + 1) 0)
    (drop (get_or (written pairs 0 (pairs_from 0 (formula_of q))) (2 * k) 0) (written old 0 (signs (flatten (formula_of q)))))
    ≡ signs (get_or (formula_of q) k [])
store_clause q k old pairs h =
    ap₂ (λ (n at : ℕ). take n (drop at (written old 0 (signs (flatten (formula_of q)))))) (stored_length (formula_of q) k h pairs) (stored_offset (formula_of q) k h pairs)
    ∙ stored_read (formula_of q) k h old

-- room for T literals and C clauses: a refused request, a literal slice that is too short, a pair slice that is, or none of these
module _ (x T C literals pairs : ℕ) where
  pub room_request : (x ≡ 0 → ⊥) → room_refusal x T C literals pairs ≡ x
  unfolding room_refusal
  room_request d = rw (ne_eqb x 0 d)

  pub room_literals : x ≡ 0 → literals < T → room_refusal x T C literals pairs ≡ 7
  unfolding room_refusal
  room_literals e h = rw (eq-eqb x 0 e, lt-ltb literals T h)

  pub room_pairs : x ≡ 0 → T ≤ literals → pairs < 2 * C → room_refusal x T C literals pairs ≡ 8
  unfolding room_refusal
  room_pairs e h l = rw (eq-eqb x 0 e, le-ltb literals T h, lt-ltb pairs (2 * C) l)

  pub room_none : x ≡ 0 → T ≤ literals → 2 * C ≤ pairs → room_refusal x T C literals pairs ≡ 0
  unfolding room_refusal
  room_none e h l = rw (eq-eqb x 0 e, le-ltb literals T h, le-ltb pairs (2 * C) l)

  -- and back: the request is good, and both slices are long enough
  pub record Taken : Type 0 where
    pub request : x ≡ 0
    pub literals_long : T ≤ literals
    pub pairs_long : 2 * C ≤ pairs

  pub none_taken : room_refusal x T C literals pairs ≡ 0 → Taken
  none_taken e =
      ⊎_elim
      (λ (z : x ≡ 0).
      ⊎_elim
      (λ (h : T ≤ literals).
      ⊎_elim
      (λ (l : 2 * C ≤ pairs). record { request = z; literals_long = h; pairs_long = l })
      (λ (l : pairs < 2 * C). absurd (let f = room_pairs z h l in omega arith))
      (le? (2 * C) pairs))
      (λ (h : literals < T). absurd (let f = room_literals z h in omega arith))
      (le? T literals))
      (λ (d : x ≡ 0 → ⊥). absurd (d (sym (room_request d) ∙ e)))
      (eq? x 0)

-- the refusal of room for clauses is one of a request's, or 7 or 8
pub room_most : (x T C literals pairs : ℕ) → x ≤ 24 → room_refusal x T C literals pairs ≤ 24
unfolding room_refusal
room_most x T C literals pairs h =
    ⊎_elim
    (λ (z : x ≡ 0).
    ⊎_elim (λ (l : T ≤ literals).
    ⊎_elim (λ (p : 2 * C ≤ pairs). omega (arith, room_none x T C literals pairs z l p))
    (λ (p : pairs < 2 * C). omega (arith, room_pairs x T C literals pairs z l p)) (le? (2 * C) pairs))
    (λ (l : literals < T). omega (arith, room_literals x T C literals pairs z l)) (le? T literals))
    (λ (d : x ≡ 0 → ⊥). omega (arith, room_request x T C literals pairs d)) (eq? x 0)

-- what a step that is refused, or that is not, says of the whole
module _ {A : Type 0} (q : Request) (T C literals pairs : ℕ) (x : A) where
  abbrev pub Refused : Refusal → Type 0
  Refused e =
      (Err e ≡ unless (room_refusal (refusal_of q) T C literals pairs) x) × (room_refusal (refusal_of q) T C literals pairs ≡ 0 → ⊥)

  refused_with : (e : Refusal) → number e ≡ room_refusal (refusal_of q) T C literals pairs → Refused e
  refused_with e h = (refused_by e _ x h, λ z. number_some e (h ∙ z))

  -- a request that is refused
  pub request_refused : (e : Refusal) → number e ≡ refusal_of q → Refused e
  request_refused e h = refused_with e (h ∙ sym (room_request _ T C literals pairs (λ z. number_some e (h ∙ z))))

  -- slices without room
  pub room_refused : (e : Refusal) → 0 ≡ refusal_of q → Err e ≡ unless {A = Unit {0}} (room_refusal 0 T C literals pairs) tt → Refused e
  room_refused e z h =
      refused_with e
      (ap number_of h ∙ unless-number_of {A = Unit {0}} _ tt (room_most 0 T C literals pairs (omega arith))
      ∙ ap (λ (n : ℕ). room_refusal n T C literals pairs) z)

  -- neither
  pub room_taken : 0 ≡ refusal_of q → Ok tt ≡ unless {A = Unit {0}} (room_refusal 0 T C literals pairs) tt
      → (room_refusal (refusal_of q) T C literals pairs ≡ 0) × (Ok x ≡ unless (room_refusal (refusal_of q) T C literals pairs) x)
  room_taken z h =
      let n : room_refusal (refusal_of q) T C literals pairs ≡ 0 = ap (λ (n : ℕ). room_refusal n T C literals pairs) (sym z) ∙ (unless-ok _ _ _ (sym h)).0 in
      (n, taken_by _ x (sym n))

module _ (q : Request) (literals pairs : ℕ) where
  -- the sizes with a refusal
  pub sizes_refused : (e : Refusal) → number e ≡ store_refusal q literals pairs → Err e ≡ store_sizes q literals pairs
  unfolding store_sizes
  sizes_refused e h = refused_by e (store_refusal q literals pairs) (counts_of q) h

  -- and without
  pub sizes_none : store_refusal q literals pairs ≡ 0 → store_sizes q literals pairs ≡ Ok (counts_of q)
  unfolding store_sizes
  sizes_none e = rw e

  -- and back
  pub sizes_ok : (x : Sizes) → Ok x ≡ store_sizes q literals pairs → (store_refusal q literals pairs ≡ 0) × (x ≡ counts_of q)
  unfolding store_sizes
  sizes_ok x e = let u = unless-ok (store_refusal q literals pairs) (counts_of q) x (sym e) in (u.0, sym u.1)

  -- their refusal is that of storing
  pub sizes_refusal : number_of (store_sizes q literals pairs) ≡ store_refusal q literals pairs
  unfolding store_sizes
  sizes_refusal = unless-number_of (store_refusal q literals pairs) (counts_of q) (room_most _ _ _ _ _ (refusal_most q))

  -- and where there is none they are V, C and T
  pub sizes_values : (x : Result Sizes Refusal) → x ≡ store_sizes q literals pairs → IfOk x (λ s. s ≡ counts_of q)
  sizes_values (Ok s) e = (sizes_ok s e).1
  sizes_values (Err f) e = tt

  -- and that of storing
  pub store_number : number_of (unless {A = Unit {0}} (store_refusal q literals pairs) tt) ≡ store_refusal q literals pairs
  store_number = unless-number_of {A = Unit {0}} (store_refusal q literals pairs) tt (room_most _ _ _ _ _ (refusal_most q))

module _ (q : Request) (literals : List ℤ) (pairs : List ℕ) where
  -- a refusal leaves both slices
  pub store_refused : (x : ℕ) → store_refusal q (length literals) (length pairs) ≡ x → (x ≡ 0 → ⊥)
      → (literals ≡ stored_literals q (length pairs) literals) × (pairs ≡ stored_pairs q (length literals) pairs)
  unfolding stored_literals stored_pairs
  store_refused x e d = let f = ne_eqb (store_refusal q (length literals) (length pairs)) 0 (λ z. d (sym e ∙ z)) in (rw f, rw f)

  -- else both are written
  pub store_taken : store_refusal q (length literals) (length pairs) ≡ 0
      → (stored_literals q (length pairs) literals ≡ written literals 0 (signs (flatten (formula_of q))))
      × (stored_pairs q (length literals) pairs ≡ written pairs 0 (pairs_from 0 (formula_of q)))
  unfolding stored_literals stored_pairs
  store_taken e = let f = eq-eqb (store_refusal q (length literals) (length pairs)) 0 e in (rw f, rw f)

-- a block that is there, and one past the last
pub block_there : (q : Request) (b : ℕ) → Good q → b ≤ 2 ^ q.n → block_formula q b ≡ clauses_of q b
unfolding block_formula
block_there q b g h = rw (good_refusal q g, le-leb b (2 ^ q.n) h)

pub block_beyond : (q : Request) (b : ℕ) → Good q → 2 ^ q.n < b → block_formula q b ≡ []
unfolding block_formula
block_beyond q b g h = rw (good_refusal q g, lt-leb b (2 ^ q.n) h)

-- the same for a block that may be past the last
pub formula_room : (q : Request) (b literals pairs : ℕ) {x : Block} → Good q → block_clauses q.n q.r q.m x ≡ block_formula q b → Fits q.n x
    → length (flatten (block_formula q b)) < 4294967296 → length (block_formula q b) < 4294967296
    → length (flatten (block_formula q b)) ≤ literals → 2 * length (block_formula q b) ≤ pairs
    → BlockRoom q.n q.r q.m x 0 0 literals pairs
formula_room q b literals pairs g same fits small few long wide =
    clauses_room q (block_formula q b) 0 0 literals pairs g same fits (low (le? b (2 ^ q.n))) (omega arith) (omega arith) (omega arith) (omega arith)
  where
    low : (b ≤ 2 ^ q.n) ⊎ (2 ^ q.n < b) → (j : ℕ) → j < length (block_formula q b) → Low (get_or (block_formula q b) j [])
    low (inl h) j l =
        let e = block_there q b g h in
        let k = ap length e in
        subst (λ (F : Formula). Low (get_or F j [])) (sym e) (block_low q b j g h (omega arith))
    low (inr h) j l = let k = ap length (block_beyond q b g h) in absurd (omega arith)

-- how many clauses and literals it has
pub formula_counted : (q : Request) (b : ℕ) (x : Block) → block_clauses q.n q.r q.m x ≡ block_formula q b
    → (block_count q.n q.r q.m x ≡ length (block_formula q b)) × (block_literals q.n q.r q.m x ≡ length (flatten (block_formula q b)))
formula_counted q b x same = (
  sym (block_length q.n q.r q.m x) ∙ ap length same,
  sym (block_literals_lem q.n q.r q.m x) ∙ ap (λ (F : Formula). length (flatten F)) same,
)

module _ (q : Request) (b literals pairs : ℕ) where
  -- the sizes of a block with a refusal, and without
  pub block_refused : (e : Refusal) → number e ≡ block_refusal q b literals pairs → Err e ≡ block_sizes q b literals pairs
  unfolding block_sizes
  block_refused e h = refused_by e (block_refusal q b literals pairs) _ h

  pub block_taken : block_refusal q b literals pairs ≡ 0
      → block_sizes q b literals pairs ≡ Ok (record { clauses = length (block_formula q b); literals = length (flatten (block_formula q b)) })
  unfolding block_sizes
  block_taken e = rw e

  -- the number of the refusal, 0 where there is none
  pub block_number : number_of (block_sizes q b literals pairs) ≡ block_refusal q b literals pairs
  unfolding block_sizes
  block_number = unless-number_of (block_refusal q b literals pairs) _ (room_most _ _ _ _ _ (refusal_most q))

  -- and back
  pub block_ok : (x : BlockSizes) → Ok x ≡ block_sizes q b literals pairs
      → (block_refusal q b literals pairs ≡ 0) × (x ≡ record { clauses = length (block_formula q b); literals = length (flatten (block_formula q b)) })
  unfolding block_sizes
  block_ok x e = let u = unless-ok (block_refusal q b literals pairs) _ x (sym e) in (u.0, sym u.1)

  -- of a result too
  pub block_values : (x : Result BlockSizes Refusal) → x ≡ block_sizes q b literals pairs
      → IfOk x (λ s. (s.clauses ≡ length (block_formula q b)) × (s.literals ≡ length (flatten (block_formula q b))))
  block_values (Ok s) e =
      let u = (block_ok s e).1 in
      (ap (λ (y : BlockSizes). y.clauses) u, ap (λ (y : BlockSizes). y.literals) u)
  block_values (Err f) e = tt

  -- where there are clauses, nothing is refused, and the block is there
  pub record Some : Type 0 where
    pub none_refused : block_refusal q b literals pairs ≡ 0
    pub good : Good q
    pub there : b ≤ 2 ^ q.n

  pub block_some : (x : BlockSizes) → Ok x ≡ block_sizes q b literals pairs → (x.clauses ≡ 0 → ⊥) → Some
  block_some x h d =
      let u = block_ok x h in
      let g = refusal_good q (none_taken _ _ _ _ _ u.0).request in
      record {
        none_refused = u.0;
        good = g;
        there =
            ⊎_elim (λ (h : b ≤ 2 ^ q.n). h)
            (λ (h : 2 ^ q.n < b). absurd (d (ap (λ (s : BlockSizes). s.clauses) u.1 ∙ ap length (block_beyond q b g h))))
            (le? b (2 ^ q.n));
      }

module _ (q : Request) (b : ℕ) (literals : List ℤ) (pairs : List ℕ) where
  -- the slices where the block's clauses are stored
  pub block_stored : block_refusal q b (length literals) (length pairs) ≡ 0
      → (written literals 0 (signs (flatten (block_formula q b))) ≡ block_literals_in q b (length pairs) literals)
      × (written pairs 0 (pairs_from 0 (block_formula q b)) ≡ block_pairs_in q b (length literals) pairs)
  unfolding block_literals_in block_pairs_in
  block_stored e = let f = eq-eqb (block_refusal q b (length literals) (length pairs)) 0 e in (rw f, rw f)

  -- and where there are none: a refusal, or a block of no clauses
  pub block_stays : ((x : BlockSizes) → Ok x ≡ block_sizes q b (length literals) (length pairs) → x.clauses ≡ 0)
      → (literals ≡ block_literals_in q b (length pairs) literals) × (pairs ≡ block_pairs_in q b (length literals) pairs)
  unfolding block_literals_in block_pairs_in flatten pairs_from
  block_stays n =
      let x : ℕ = block_refusal q b (length literals) (length pairs) in
      ⊎_elim (λ (e : x ≡ 0).
      let f = eq-eqb x 0 e in
      let z = nothing (block_formula q b) (n _ (sym (block_taken q b (length literals) (length pairs) e))) in (
        rw f (sym (ap (λ (F : Formula). written literals 0 (signs (flatten F))) z ∙ written_none literals 0)),
        rw f (sym (ap (λ (F : Formula). written pairs 0 (pairs_from 0 F)) z ∙ written_none pairs 0)),
      ))
      (λ (d : x ≡ 0 → ⊥). let f = ne_eqb x 0 d in (rw f, rw f)) (eq? x 0)
    where
      nothing : (F : Formula) → length F ≡ 0 → F ≡ []
      nothing [] e = refl
      nothing (c ∷ F) e = absurd (omega arith)

  -- so a refusal leaves both
  pub block_left : (block_refusal q b (length literals) (length pairs) ≡ 0 → ⊥)
      → (literals ≡ block_literals_in q b (length pairs) literals) × (pairs ≡ block_pairs_in q b (length literals) pairs)
  block_left d = block_stays (λ x h. absurd (d (block_ok q b (length literals) (length pairs) x h).0))
