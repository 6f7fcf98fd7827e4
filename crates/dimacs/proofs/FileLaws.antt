-- Laws of the file: the head and the lines as their parts one after the other, how long they are, and the answers. Assumes nothing.
use Rattle.std.specs.Prelude.{◌≡◌, refl, false, cond, Result, Ok, Err, ℕ, zero, suc, ◌+◌, ◌≤◌, ◌<◌, eqb, leb, ltb, take}
use Rattle.std.proofs.Math.Path.{sym, ap}
use Rattle.std.proofs.Common.{ap₂, ◌∙◌, add-one, length-append, length-set, take-suc, set}
use mathlib.Core.List.{List, [], ◌∷◌, ◌++◌, append_assoc, append-nil}
use native.Mathlib.Omega.{arith}
use Rattle.std.proofs.Math.ListN.{length, get_or}
use borrow.Author.Tests.{lt-ltb, le-ltb, le-leb, lt-leb, eq-eqb, ne_eqb}
use Rattle.std.proofs.Math.Logic.{⊎_elim}
use Rattle.prelude.specs.Tests.{eq?, le?}
use Rattle.prelude.specs.Written.{written}
use Rattle.std.proofs.lemmas.List.{get_or_past}
use Rattle.std.proofs.lemmas.List.Edits.{sets, sets-eq}
use Rattle.std.proofs.Math.Seq.{length-sets}
use Rattle.prelude.specs.Written.Laws.{Wrote, wrote_one, wrote_next}
use Rattle.cnf.specs.Cnf.{Clause, Formula}
use Rattle.refusal.specs.declared.Refusal.{Refusal}
use Rattle.refusal.specs.declared.Refusal.TheVariants.{RequestLine, BufferShort}
use Rattle.refusal.specs.Refusal.{number, refusals, numbered, unless, number_of as number_in}
use Rattle.refusal.specs.Refusal.Laws.{numbered_number, unless-number, unless-ok, unless-number_of, number_some}
use Rattle.request.specs.Numbers.{Good, refusal_of}
use Rattle.request.proofs.NumbersLaws.{refusal_good, good_refusal}
use Rattle.request.specs.declared.Request.{Request}
use Rattle.formula.specs.Formula.{formula_of}
use Rattle.formula.specs.Count.{counts_of, sizes_of}
use Rattle.formula.proofs.CountLaws.{clause_count_lem, sizes_refusal as count_refusal}
use Rattle.request.proofs.NumbersLaws.{refusal_most}
use Rattle.formula.specs.declared.Sizes.{Sizes}
use Rattle.text.specs.Decimal.{decimal}
use Rattle.lengths.specs.Lines.{lines_length, request_length}
use Rattle.lengths.specs.Length.Laws.{literals_are, request_taken}
use Rattle.text.specs.Text.{line_text}
use Rattle.text.specs.Text.Laws.{line_length}
use Rattle.dimacs.specs.declared.lines.Cursor.{Cursor}
use Rattle.dimacs.specs.Cursor.{Room, Puts}
use Rattle.dimacs.proofs.CursorLaws.{room_before, room_after, puts_both}
use Rattle.dimacs.specs.File.{Answer, number_of, values_of, head_text, body_text, file_text, answer_by, Counted, size_values, size_answer, write_number, write_values, write_answer, file_written}
use Rattle.dimacs.specs.File.Answering.{refused as refused_with, answering_number, answering_by, in_numbers}

-- the length of the first line
pub head_length : (v c : ℕ) → length (head_text v c) ≡ length (decimal v) + length (decimal c) + 8
unfolding head_text
head_length v c =
    let a = length-append (decimal v) (32 ∷ (decimal c ++ (10 ∷ []))) in
    let b = length-append (decimal c) (10 ∷ []) in
    omega arith

-- "p cnf "
abbrev name : List ℕ
name = 112 ∷ 32 ∷ 99 ∷ 110 ∷ 102 ∷ 32 ∷ []

-- it is written part by part: "p cnf ", V, a space, C and the newline
module _ (v c : ℕ) (a : Cursor) (room : Room a (length (head_text v c))) where
  abbrev last : List ℕ
  last = decimal c ++ (10 ∷ [])

  parts : head_text v c ≡ name ++ (decimal v ++ (32 ∷ last))
  unfolding head_text
  parts = refl

  pub head_name : Room a 6
  head_name = room_before name (decimal v ++ (32 ∷ last)) (head_text v c) parts a room (omega arith)

  module _ {b : Cursor} (named : Puts a name b) where
    room1 : Room b (length (decimal v ++ (32 ∷ last)))
    room1 = room_after name (decimal v ++ (32 ∷ last)) (head_text v c) parts a room (omega arith) named

    pub head_first : Room b (length (decimal v))
    head_first = room_before (decimal v) (32 ∷ last) (decimal v ++ (32 ∷ last)) refl b room1 (omega arith)

    module _ {d : Cursor} (first : Puts b (decimal v) d) where
      room2 : Room d (length (32 ∷ last))
      room2 = room_after (decimal v) (32 ∷ last) (decimal v ++ (32 ∷ last)) refl b room1 (omega arith) first

      pub head_space : Room d 1
      head_space = room_before (32 ∷ []) last (32 ∷ last) refl d room2 (omega arith)

      module _ {e : Cursor} (space : Puts d (32 ∷ []) e) where
        room3 : Room e (length last)
        room3 = room_after (32 ∷ []) last (32 ∷ last) refl d room2 (omega arith) space

        pub head_second : Room e (length (decimal c))
        head_second = room_before (decimal c) (10 ∷ []) last refl e room3 (omega arith)

        module _ {f : Cursor} (second : Puts e (decimal c) f) where
          pub head_newline : Room f 1
          head_newline = room_after (decimal c) (10 ∷ []) last refl e room3 (omega arith) second

          pub head_all : {g : Cursor} → Puts f (10 ∷ []) g → Puts a (head_text v c) g
          head_all newline =
              puts_both name (decimal v ++ (32 ∷ last)) (head_text v c) parts a room (omega arith) named
              (puts_both (decimal v) (32 ∷ last) (decimal v ++ (32 ∷ last)) refl b room1 (omega arith) first
              (puts_both (32 ∷ []) last (32 ∷ last) refl d room2 (omega arith) space
              (puts_both (decimal c) (10 ∷ []) last refl e room3 (omega arith) second newline)))

-- the same by the bytes alone
pub head_wrote : (v c : ℕ) (l : List ℕ) {m n : List ℕ} {k e : ℕ} → length (head_text v c) ≤ length l → length m ≡ length l → length n ≡ length l
    → Wrote (sets l 0 name) 6 (decimal v) k m → Wrote (set m k 32) (k + 1) (decimal c) e n
    → (e + 1 ≡ length (head_text v c)) × (set n e 10 ≡ written l 0 (head_text v c))
unfolding head_text written
head_wrote v c l {m} {n} {k} {e} room lm ln middle last =
    let h = head_length v c in
    let d : List ℕ = decimal c ++ (10 ∷ []) in
    let dl = length-append (decimal c) (10 ∷ []) in
    let bl = length-append (decimal v) (32 ∷ d) in
    let s = length-set m k 32 in
    let z = length-sets l 0 name in
    let p = wrote_next (decimal c) (10 ∷ []) d refl (k + 1) (set m k 32) (omega arith) last (wrote_one n e 10 (omega arith)) in
    let r = wrote_next (32 ∷ []) d (32 ∷ d) refl k m (omega arith) (wrote_one m k 32 (omega arith)) p in
    let t = wrote_next (decimal v) (32 ∷ d) (decimal v ++ (32 ∷ d)) refl 6 (sets l 0 name) (omega arith) middle r in
    let w = wrote_next name (decimal v ++ (32 ∷ d)) (head_text v c) refl 0 l {k = 6} (omega arith) (refl, sets-eq name l 0 (omega arith)) t in
    (omega arith, w.1)

-- the lines of clauses one after the other
pub body_append : (f g : Formula) → body_text (f ++ g) ≡ body_text f ++ body_text g
unfolding body_text
body_append [] g = refl
body_append (c ∷ f) g =
    ap (λ (l : List ℕ). line_text c ++ l) (body_append f g) ∙ sym (append_assoc (line_text c) (body_text f) (body_text g))

-- the line of a clause alone
body_one : (c : Clause) → body_text (c ∷ []) ≡ line_text c
unfolding body_text
body_one c = append-nil (line_text c)

-- no clause
pub body_none : body_text [] ≡ []
unfolding body_text
body_none = refl

-- one line more
pub body_more : (f : Formula) (k : ℕ) → k < length f → body_text (take (k + 1) f) ≡ body_text (take k f) ++ line_text (get_or f k [])
body_more f k h =
    ap (λ (j : ℕ). body_text (take j f)) (add-one k) ∙ ap body_text (take-suc f k [] h)
    ∙ body_append (take k f) (get_or f k [] ∷ []) ∙ ap (λ (l : List ℕ). body_text (take k f) ++ l) (body_one (get_or f k []))

-- the lines are as long as their literals, with two bytes more each
lines_are : (f : Formula) → length (body_text f) ≡ lines_length f
unfolding body_text
lines_are [] = refl
lines_are (c ∷ f) =
    let e = length-append (line_text c) (body_text f) in
    let l = line_length c in
    let a = literals_are c in
    let r = lines_are f in
    omega arith

-- those of a request that is not refused
pub body_length : (q : Request) {x : ℕ} → Good q → x ≡ request_length q → x ≡ length (body_text (formula_of q))
body_length q g e = e ∙ sym (request_taken q (good_refusal q g)) ∙ sym (lines_are (formula_of q))

-- the refusal among the sizes is the request's
pub sizes_refusal : (q : Request) {x : Result Sizes Refusal} → x ≡ sizes_of q → number_in x ≡ refusal_of q
sizes_refusal q e = ap number_in e ∙ count_refusal q

-- a request whose sizes are refused is refused so
pub sizes_refused : (q : Request) {e : Refusal} → Err e ≡ sizes_of q → number e ≡ refusal_of q
sizes_refused q h = ap number_in h ∙ count_refusal q

-- and one whose sizes are told is taken
pub sizes_counted : (q : Request) {x : Sizes} → Ok x ≡ sizes_of q → Counted q x
unfolding sizes_of
sizes_counted q {x} h =
    let u = unless-ok (refusal_of q) (counts_of q) x (sym h) in
    record {
      good = refusal_good q u.0;
      variables_are = sym (ap (λ (y : Sizes). y.variables) u.1);
      clauses_are = sym (ap (λ (y : Sizes). y.clauses) u.1);
    }

module _ (q : Request) {x : Sizes} (counted : Counted q x) where
  -- the file is the head and the lines
  file_text_lem : file_text q ≡ head_text x.variables x.clauses ++ body_text (formula_of q)
  unfolding file_text
  file_text_lem =
      sym (ap₂ (λ (v c : ℕ). head_text v c ++ body_text (formula_of q)) counted.variables_are
      (counted.clauses_are ∙ sym (clause_count_lem q)))

  -- its length is theirs
  pub file_length : {a b : ℕ} → a ≡ length (head_text x.variables x.clauses) → b ≡ length (body_text (formula_of q)) → a + b ≡ length (file_text q)
  file_length e f =
      let n = ap length file_text_lem ∙ length-append (head_text x.variables x.clauses) (body_text (formula_of q)) in omega arith

  -- the size's answer
  pub size_good : {k : ℕ} → k ≡ length (file_text q) → Ok k ≡ size_answer q
  unfolding size_answer
  size_good e = rw (good_refusal q counted.good) (ap Ok e)

  -- the answer where the buffer is shorter than the file
  pub write_short : {room : ℕ} → room < length (file_text q) → Err BufferShort ≡ write_answer q room
  unfolding write_answer write_number
  write_short {room} h = rw (good_refusal q counted.good, lt-ltb room (length (file_text q)) h)

  -- such a buffer stays
  pub file_short : (l : List ℕ) → length l < length (file_text q) → l ≡ file_written q l
  unfolding file_written write_number
  file_short l h = rw (good_refusal q counted.good, lt-ltb (length l) (length (file_text q)) h)

  -- the answer where it has room
  pub write_long : {room k : ℕ} → length (file_text q) ≤ room → k ≡ length (file_text q) → Ok k ≡ write_answer q room
  unfolding write_answer write_number
  write_long {room} h e = rw (good_refusal q counted.good, le-ltb room (length (file_text q)) h) (ap Ok e)

  -- then the head is written, and the lines after it
  module _ (a : Cursor) (start : a.at ≡ 0) (room : length (file_text q) ≤ length a.buffer.now) where
    pub head_fits : Room a (length (head_text x.variables x.clauses))
    head_fits = room_before (head_text x.variables x.clauses) (body_text (formula_of q)) (file_text q) file_text_lem a {n = length (file_text q)} (omega arith) (omega arith)

    pub body_fits : {b : Cursor} → Puts a (head_text x.variables x.clauses) b → Room b (length (body_text (formula_of q)))
    body_fits = room_after (head_text x.variables x.clauses) (body_text (formula_of q)) (file_text q) file_text_lem a {n = length (file_text q)} (omega arith) (omega arith)

    pub file_put : {b c : Cursor} → Puts a (head_text x.variables x.clauses) b → Puts b (body_text (formula_of q)) c → Puts a (file_text q) c
    file_put = puts_both (head_text x.variables x.clauses) (body_text (formula_of q)) (file_text q) file_text_lem a {n = length (file_text q)} (omega arith) (omega arith)

    pub file_after : {c : Cursor} → Puts a (file_text q) c → c.buffer.now ≡ file_written q a.buffer.now
    unfolding file_written write_number
    file_after p =
        rw (good_refusal q counted.good, le-ltb (length a.buffer.now) (length (file_text q)) room)
        (p.wrote.1 ∙ ap (λ (i : ℕ). written a.buffer.now i (file_text q)) start)

    pub file_end : {c : Cursor} → Puts a (file_text q) c → c.at ≡ length (file_text q)
    file_end p = omega (arith, p.wrote.0)

  -- the same by the bytes alone
  pub file_wrote : (l : List ℕ) {m n : List ℕ} {k e : ℕ} → length (file_text q) ≤ length l
      → (k ≡ length (head_text x.variables x.clauses)) × (m ≡ written l 0 (head_text x.variables x.clauses))
      → Wrote m k (body_text (formula_of q)) e n → n ≡ file_written q l
  unfolding file_written write_number
  file_wrote l room (f, p) b =
      rw (good_refusal q counted.good, le-ltb (length l) (length (file_text q)) room)
      (wrote_next (head_text x.variables x.clauses) (body_text (formula_of q)) (file_text q) file_text_lem 0 l (omega arith) (omega arith, p) b).1

module _ (q : Request) (e : Refusal) (is : number e ≡ refusal_of q) where
  fails : eqb (refusal_of q) 0 ≡ false
  fails = ne_eqb (refusal_of q) 0 (λ z. number_some e (is ∙ z))

  refused : (size : ℕ) → Err e ≡ unless (refusal_of q) size
  refused size = sym (ap (λ (k : ℕ). unless k size) (sym is) ∙ unless-number e size)

  -- the size's answer to a refused request
  pub size_refused : Err e ≡ size_answer q
  unfolding size_answer
  size_refused = refused (length (file_text q))

  -- the writer's
  pub write_refused : (room : ℕ) → Err e ≡ write_answer q room
  unfolding write_answer write_number
  write_refused room = rw fails (refused (length (file_text q)))

  -- the buffer stays
  pub file_refused : (l : List ℕ) → l ≡ file_written q l
  unfolding file_written write_number
  file_refused l = rw (fails, fails)

-- the number of an answer, for every number that it is made by: this one up to 24, which is the last that a refusal has, and 1 above it
pub number_is : (k size : ℕ) → number_of (answer_by k size) ≡ cond (leb k 24) k 1
number_is zero size = refl
number_is (suc k) size =
    ⊎_elim (λ (h : suc k ≤ 24). rw (le-leb (suc k) 24 h) (unless-number_of (suc k) size h))
    (λ (h : 24 < suc k). rw (lt-leb (suc k) 24 h) (ap number (get_or_past refusals k RequestLine (let m : length refusals ≤ k = omega arith in m))))
    (le? (suc k) 24)

-- so up to the last refusal's it is the one that it is made by
pub number_within : (k size : ℕ) → k ≤ 24 → number_of (answer_by k size) ≡ k
number_within zero size h = refl
number_within (suc k) size h = unless-number_of (suc k) size h

-- in numbers it is so of every number
pub answering_is : (k size : ℕ) → answering_number (answering_by k size) ≡ k
answering_is k size = ⊎_elim (λ (z : k ≡ 0). rw z) (λ (d : k ≡ 0 → ⊥). rw (ne_eqb k 0 d)) (eq? k 0)

-- an answer has the number of what it is in numbers
pub answering_same : (x : Answer) → answering_number (in_numbers x) ≡ number_of x
answering_same (Ok k) = refl
answering_same (Err e) = refl

-- and in numbers it is by the number that it is made by, up to the last refusal's
pub answered : (k size : ℕ) → k ≤ 24 → in_numbers (answer_by k size) ≡ answering_by k size
answered zero size h = refl
answered (suc k) size h = rw (ne_eqb (suc k) 0 (λ e. omega arith)) (ap refused_with (unless-number_of (suc k) size h))

-- its values are the length, where that number is 0
pub values_is : (k size : ℕ) → values_of (answer_by k size) ≡ cond (eqb k 0) (size ∷ []) []
values_is zero size = refl
values_is (suc k) size = rw (ne_eqb (suc k) 0 (λ e. omega arith))

-- no two answers have the same number and values
pub answers_differ : (x y : Answer) → number_of x ≡ number_of y → values_of x ≡ values_of y → x ≡ y
answers_differ (Ok j) (Ok k) e f = cc
answers_differ (Ok j) (Err k) e f = cc
answers_differ (Err j) (Ok k) e f = cc
answers_differ (Err j) (Err k) e f = ap Err (sym (numbered_number j) ∙ ap numbered e ∙ numbered_number k)

-- no number of a refusal is above the last
write_most : (q : Request) (room : ℕ) → write_number q room ≤ 24
unfolding write_number
write_most q room = grind (arith, refusal_most q)

module _ (q : Request) where
  -- number and values of the size's answer
  pub size_number : number_of (size_answer q) ≡ refusal_of q
  unfolding size_answer
  size_number = number_within (refusal_of q) (length (file_text q)) (refusal_most q)

  -- in numbers it is by the refusal of the request, or the length
  pub size_answering : in_numbers (size_answer q) ≡ answering_by (refusal_of q) (length (file_text q))
  unfolding size_answer
  size_answering = answered (refusal_of q) (length (file_text q)) (refusal_most q)

  pub size_values_lem : values_of (size_answer q) ≡ size_values q
  unfolding size_answer size_values
  size_values_lem = values_is (refusal_of q) (length (file_text q))

  -- and of the writer's
  pub write_number_lem : (room : ℕ) → number_of (write_answer q room) ≡ write_number q room
  unfolding write_answer
  write_number_lem room = number_within (write_number q room) (length (file_text q)) (write_most q room)

  pub write_answering : (room : ℕ) → in_numbers (write_answer q room) ≡ answering_by (write_number q room) (length (file_text q))
  unfolding write_answer
  write_answering room = answered (write_number q room) (length (file_text q)) (write_most q room)

  pub write_values_lem : (room : ℕ) → values_of (write_answer q room) ≡ write_values q room
  unfolding write_answer write_values
  write_values_lem room = values_is (write_number q room) (length (file_text q))

-- "The size of file becomes exactly the length that writing returns": with the size's answer s, a buffer of any length is refused by 6
-- where it is shorter than s, and else takes the file, whose length is s
module _ (q : Request) (s : ℕ) (size : size_values q ≡ s ∷ []) where
  sized : (refusal_of q ≡ 0) × (length (file_text q) ≡ s)
  unfolding size_values
  sized =
      ⊎_elim
      (λ (z : refusal_of q ≡ 0). (z, ap (λ (l : List ℕ). get_or l 0 0) (rw (eq-eqb (refusal_of q) 0 z) at size)))
      (λ (d : refusal_of q ≡ 0 → ⊥). absurd (let e = ap length (rw (ne_eqb (refusal_of q) 0 d) at size) in omega arith))
      (eq? (refusal_of q) 0)

  pub size_exact : (room : ℕ) → write_number q room ≡ cond (ltb room s) 6 0
  unfolding write_number
  size_exact room = rw (sized.0, sized.1)

  -- so a buffer of s bytes is never refused by 6
  pub size_enough : (write_number q s ≡ 0) × (write_values q s ≡ s ∷ [])
  unfolding write_values
  size_enough =
      let e : write_number q s ≡ 0 = size_exact s ∙ rw (le-ltb s s (omega arith)) in
      (e, rw (e, sized.1))

  -- and one of a byte less always is
  pub size_least : (room : ℕ) → room + 1 ≡ s → write_number q room ≡ 6
  size_least room e = size_exact room ∙ rw (lt-ltb room s (omega arith))
