-- Each refusal before the lines, and a check that reached them. Assumes nothing.
use Rattle.std.specs.Prelude.{◌≡◌, refl, zero, suc, Bool, true, false, cond, eqb, leb, ltb, Err, List, ◌++◌, ℕ, ◌+◌, ◌≤◌, ◌<◌, ℤ, length, drop}
use Rattle.std.proofs.Math.Path.{sym, ap}
use Rattle.std.proofs.Common.{◌∙◌, arith}
use Rattle.std.proofs.Math.Logic.{⊎_elim}
use borrow.Author.Tests.{eq-eqb, ne_eqb, le-leb, lt-leb, lt-ltb, le-ltb}
use Rattle.prelude.specs.Tests.{eq?, le?}
use Rattle.refusal.specs.declared.Refusal.{Refusal}
use Rattle.refusal.specs.Refusal.{number, numbered, unless, number_of as refused_with}
use Rattle.cnf.specs.Cnf.{Formula}
use Rattle.request.specs.declared.Request.{Request}
use Rattle.formula_clauses.specs.Store.Laws.{sizes_refusal}
use Rattle.formula_clauses.specs.Store.{store_sizes, stored_formula, stored_variables, store_refusal, stored_literals, stored_pairs}
use Rattle.lrat.specs.Words.{text_limit}
use Rattle.lrat.specs.Bytes.{zeros}
use Rattle.lrat.specs.Check.{Left, lines_of}
use Rattle.lrat.proofs.CheckLaws.{lines_coded, lines_number}
use Rattle.lrat.specs.Outcome.{Outcome, number_of, values_of, outcome_of}
use Rattle.refusal.specs.Refusal.Laws.{number_some}
use Rattle.lrat.proofs.OutcomeLaws.{refused_numbered}
use Rattle.lrat_check.specs.Refutation.{Lent, lent, refusal_before, lines_for, check_number, check_values, check_answer, check_leaves}

numbered_same : (n : ℕ) → (n ≡ 0 → ⊥) → refused_with (unless {A = Unit {0}} n tt) ≡ n → number (numbered n) ≡ n
numbered_same zero d e = absurd (d refl)
numbered_same (suc n) d e = e

module _ (q : Request) (text : List ℕ) (s : Lent) where
  -- the refusal before the lines has the number that it is made of
  before_numbered : refused_with (unless {A = Unit {0}} (refusal_before q (length text) s) tt) ≡ refusal_before q (length text) s
  unfolding refusal_before store_sizes
  before_numbered =
      by (eqb (store_refusal q (length s.literals) (length s.pairs)) 0) (leb (length s.values) (stored_variables q)) (ltb text_limit (length text))
    where
      same : (n : ℕ) {A : Type 0} (x : A) → refused_with (unless n x) ≡ n → refused_with (unless {A = Unit {0}} n tt) ≡ n
      same zero x e = refl
      same (suc n) x e = e

      by : (b c d : Bool) → refused_with (unless {A = Unit {0}} (cond b (cond c 14 (cond d 15 0)) (store_refusal q (length s.literals) (length s.pairs))) tt)
          ≡ cond b (cond c 14 (cond d 15 0)) (store_refusal q (length s.literals) (length s.pairs))
      by true true d = refl
      by true false true = refl
      by true false false = refl
      by false c d = same _ _ (sizes_refusal q (length s.literals) (length s.pairs))

  -- what a refusal answers and leaves
  pub record Stops (k : ℕ) : Type 0 where
    pub answer : record { outcome = Err (numbered k); count = 0 } ≡ check_answer q text s
    pub number_is : number_of (check_answer q text s) ≡ k
    pub slices : s ≡ check_leaves q text s

  pub stops : (k : ℕ) → refusal_before q (length text) s ≡ k → (k ≡ 0 → ⊥) → Stops k
  unfolding check_answer check_leaves
  stops k e d =
      let n = ne_eqb (refusal_before q (length text) s) 0 (λ z. d (sym e ∙ z)) in
      record {
        answer = sym (rw (n, e));
        number_is = rw n (numbered_same (refusal_before q (length text) s) (λ z. d (sym e ∙ z)) before_numbered ∙ e);
        slices = rw n;
      }

  -- the refusals of the request, 7 and 8
  pub stops_store : (k : ℕ) → store_refusal q (length s.literals) (length s.pairs) ≡ k → (k ≡ 0 → ⊥) → Stops k
  unfolding refusal_before
  stops_store k e d = stops k (rw (ne_eqb (store_refusal q (length s.literals) (length s.pairs)) 0 (λ z. d (sym e ∙ z))) e) d

  module _ (stored : store_refusal q (length s.literals) (length s.pairs) ≡ 0) where
    pub stops_values : length s.values ≤ stored_variables q → Stops 14
    unfolding refusal_before
    stops_values h = stops 14 (rw (eq-eqb (store_refusal q (length s.literals) (length s.pairs)) 0 stored, le-leb (length s.values) (stored_variables q) h)) (λ z. omega arith)

    module _ (enough : stored_variables q < length s.values) where
      pub stops_long : text_limit < length text → Stops 15
      unfolding refusal_before
      stops_long h =
          stops 15
          (rw (eq-eqb (store_refusal q (length s.literals) (length s.pairs)) 0 stored, lt-leb (length s.values) (stored_variables q) enough, lt-ltb text_limit (length text) h))
          (λ z. omega arith)

      module _ (short : length text ≤ text_limit) where
        pub before_none : refusal_before q (length text) s ≡ 0
        unfolding refusal_before
        before_none =
            rw (eq-eqb (store_refusal q (length s.literals) (length s.pairs)) 0 stored, lt-leb (length s.values) (stored_variables q) enough, le-ltb text_limit (length text) short)

        -- the lines over the formula that the store holds
        pub goes_answer : (F : Formula) → F ≡ stored_formula q → (l : Left) → l ≡ lines_of F text (stored_variables q) s.added
            → (o : Outcome) → o ≡ outcome_of l.code → record { outcome = o; count = l.a } ≡ check_answer q text s
        unfolding check_answer lines_for
        goes_answer F f l e o p =
            let z : l ≡ lines_of (stored_formula q) text (stored_variables q) s.added = e ∙ ap (λ (G : Formula). lines_of G text (stored_variables q) s.added) f in
            rw (eq-eqb (refusal_before q (length text) s) 0 before_none, ← z, p)

        pub goes_slices : (F : Formula) → F ≡ stored_formula q → (l : Left) → l ≡ lines_of F text (stored_variables q) s.added
            → (literals : List ℤ) (pairs values : List ℕ) → literals ≡ stored_literals q (length s.pairs) s.literals
            → pairs ≡ stored_pairs q (length s.literals) s.pairs → values ≡ zeros (stored_variables q + 1)
            → lent literals pairs l.added (values ++ drop (stored_variables q + 1) s.values) ≡ check_leaves q text s
        unfolding check_leaves lines_for
        goes_slices F f l e literals pairs values a b c =
            let z : l ≡ lines_of (stored_formula q) text (stored_variables q) s.added = e ∙ ap (λ (G : Formula). lines_of G text (stored_variables q) s.added) f in
            rw (eq-eqb (refusal_before q (length text) s) 0 before_none, ← z, a, b, c)

  -- the refusals before the lines, one by one
  pub before_refused : (store_refusal q (length s.literals) (length s.pairs) ≡ 0 → ⊥) → refusal_before q (length text) s ≡ store_refusal q (length s.literals) (length s.pairs)
  unfolding refusal_before
  before_refused d = rw (ne_eqb (store_refusal q (length s.literals) (length s.pairs)) 0 d)

  pub before_values : store_refusal q (length s.literals) (length s.pairs) ≡ 0 → length s.values ≤ stored_variables q → refusal_before q (length text) s ≡ 14
  unfolding refusal_before
  before_values z h = rw (eq-eqb (store_refusal q (length s.literals) (length s.pairs)) 0 z, le-leb (length s.values) (stored_variables q) h)

  pub before_long : store_refusal q (length s.literals) (length s.pairs) ≡ 0 → stored_variables q < length s.values → text_limit < length text → refusal_before q (length text) s ≡ 15
  unfolding refusal_before
  before_long z h k =
      rw (eq-eqb (store_refusal q (length s.literals) (length s.pairs)) 0 z, lt-leb (length s.values) (stored_variables q) h, lt-ltb text_limit (length text) k)

  -- where nothing is refused before the lines, the values are enough and the text is short
  pub past : refusal_before q (length text) s ≡ 0 → (stored_variables q < length s.values) × (length text ≤ text_limit)
  unfolding refusal_before
  past e =
      ⊎_elim
      (λ (z : store_refusal q (length s.literals) (length s.pairs) ≡ 0).
      ⊎_elim
      (λ (h : length s.values ≤ stored_variables q).
      absurd (let f = rw (eq-eqb (store_refusal q (length s.literals) (length s.pairs)) 0 z, le-leb (length s.values) (stored_variables q) h) at e in omega (arith, f)))
      (λ (h : stored_variables q < length s.values).
      ⊎_elim (λ (k : length text ≤ text_limit). (h, k))
      (λ (k : text_limit < length text).
      absurd (let f = rw (eq-eqb (store_refusal q (length s.literals) (length s.pairs)) 0 z, lt-leb (length s.values) (stored_variables q) h, lt-ltb text_limit (length text) k) at e in omega (arith, f)))
      (le? (length text) text_limit))
      (le? (length s.values) (stored_variables q)))
      (λ (d : store_refusal q (length s.literals) (length s.pairs) ≡ 0 → ⊥).
      absurd (let f = rw (ne_eqb (store_refusal q (length s.literals) (length s.pairs)) 0 d) at e in d f))
      (eq? (store_refusal q (length s.literals) (length s.pairs)) 0)

  -- the number of the answer is the rule's
  pub answer_number : number_of (check_answer q text s) ≡ check_number q text s
  unfolding check_answer check_number lines_for
  answer_number =
      ⊎_elim
      (λ (z : refusal_before q (length text) s ≡ 0). rw (eq-eqb (refusal_before q (length text) s) 0 z) (lines_number (stored_formula q) text (stored_variables q) s.added))
      (λ (d : refusal_before q (length text) s ≡ 0 → ⊥). rw (ne_eqb (refusal_before q (length text) s) 0 d) (numbered_same (refusal_before q (length text) s) d before_numbered))
      (eq? (refusal_before q (length text) s) 0)

  -- and so are the values
  pub answer_values : values_of (check_answer q text s) ≡ check_values q text s
  unfolding check_answer check_values
  answer_values =
      ⊎_elim
      (λ (z : refusal_before q (length text) s ≡ 0). rw (eq-eqb (refusal_before q (length text) s) 0 z))
      (λ (d : refusal_before q (length text) s ≡ 0 → ⊥). rw (ne_eqb (refusal_before q (length text) s) 0 d))
      (eq? (refusal_before q (length text) s) 0)

  -- a check that is refused has a number other than 0
  pub answer_numbered : (e : Refusal) → (check_answer q text s).outcome ≡ Err e → check_number q text s ≡ 0 → ⊥
  unfolding check_answer check_number lines_for
  answer_numbered e f z =
      ⊎_elim
      (λ (y : refusal_before q (length text) s ≡ 0).
      refused_numbered (lines_for q text s.added).code (lines_coded (stored_formula q) text (stored_variables q) s.added) e
      (rw (eq-eqb (refusal_before q (length text) s) 0 y) at f) (rw (eq-eqb (refusal_before q (length text) s) 0 y) at z))
      (λ (d : refusal_before q (length text) s ≡ 0 → ⊥). d (rw (ne_eqb (refusal_before q (length text) s) 0 d) at z))
      (eq? (refusal_before q (length text) s) 0)

  -- no refusal that it gives has the number 0
  pub answer_some : (e : Refusal) → (check_answer q text s).outcome ≡ Err e → number e ≡ 0 → ⊥
  answer_some e f = number_some e
