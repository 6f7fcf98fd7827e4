-- A part of a line as a slice: what the definitions of a place and an end say of the bytes between them alone, and how the rows of a
-- table are counted from its last character. Assumes nothing.
use Rattle.std.proofs.Common.{◌≡◌, ◌∷◌, ◌++◌, ◌+◌, ◌-◌, ◌*◌, ◌^◌, ◌≤◌, ◌<◌, ◌∙◌, Bool, true, false, ◌&&◌, cond, List, [], ℕ, zero, suc, eqb, pow_mono, append_assoc, length-append, Ok, Err, length, get_or, take, drop, refl, sym, ap, ap₂, ⊎_elim, arith, length-drop, get_or-drop}
use Rattle.std.proofs.lemmas.List.{length-take-le, get_or-take}
use Rattle.std.specs.List.{list_all}
use Rattle.prelude.specs.Lists.{all_from}
use Rattle.prelude.specs.Tests.{eq?}
use Rattle.refusal.specs.declared.Refusal.{Refusal}
use Rattle.request.specs.Line.{single, row_character, is_table, marked, Ends}
use Rattle.request.proofs.LineLaws.{single_one, single_long, marked_below}
use Rattle.request.specs.Numbers.{rows_most}
use mir.Val.{bool_byte}
use Rattle.request_read.specs.Field.{digit_within}
use Rattle.request_read.specs.Field.Laws.{within_err, within_ok}

-- the bytes of a text from a place to an end
abbrev pub part : List ℕ → ℕ → ℕ → List ℕ
part s from end = take (end - from) (drop from s)

-- two tests that agree on k numbers from two places on
all_same : (p q : ℕ → Bool) (k a b : ℕ) → ((i : ℕ) → i < k → p (a + i) ≡ q (b + i)) → all_from a k p ≡ all_from b k q
all_same p q zero a b e = refl
all_same p q (suc k) a b e =
    ap₂ ◌&&◌ (ap p (let z : a ≡ a + 0 = omega arith in z) ∙ e 0 (omega arith) ∙ ap q (let z : b + 0 ≡ b = omega arith in z))
    (all_same p q k (suc a) (suc b)
    (λ i l.
    ap p (let z : suc a + i ≡ a + suc i = omega arith in z) ∙ e (suc i) (omega arith) ∙ ap q (let z : b + suc i ≡ suc b + i = omega arith in z)))

-- the rows of two runs of k bytes that agree
marked_same : (m : ℕ) (s t : List ℕ) (k a b : ℕ) → ((i : ℕ) → i < k → get_or s (a + i) 0 ≡ get_or t (b + i) 0)
    → marked m s a k ≡ marked m t b k
unfolding marked
marked_same m s t zero a b e = refl
marked_same m s t (suc k) a b e =
    let first : get_or s a 0 ≡ get_or t b 0 =
    ap (λ (i : ℕ). get_or s i 0) (let z : a ≡ a + 0 = omega arith in z)
    ∙ e 0 (omega arith)
    ∙ ap (λ (i : ℕ). get_or t i 0) (let z : b + 0 ≡ b = omega arith in z) in
    rw (
      first,
      marked_same m s t k (suc a) (suc b)
          (λ i l.
          ap (λ (i : ℕ). get_or s i 0) (let z : suc a + i ≡ a + suc i = omega arith in z)
          ∙ e (suc i) (omega arith)
          ∙ ap (λ (i : ℕ). get_or t i 0) (let z : b + suc i ≡ suc b + i = omega arith in z)),
    )

module _ (s : List ℕ) (from end : ℕ) (inside : end ≤ length s) where
  -- it has as many bytes as stand between
  pub part_length : length (part s from end) ≡ end - from
  part_length = length-take-le (end - from) (drop from s) (omega (arith, length-drop from s))

  -- each of them the text's at its place
  pub part_byte : (i : ℕ) → i < end - from → get_or (part s from end) (0 + i) 0 ≡ get_or s (from + i) 0
  part_byte i l =
      let z : 0 + i ≡ i = omega arith in
      rw z (get_or-take (end - from) (drop from s) i 0 l ∙ get_or-drop from s i 0)

  -- the digit of a part is the digit of the run
  pub part_single : single (part s from end) 0 (length (part s from end)) ≡ single s from end
  part_single =
      ⊎_elim
      (λ (e : end - from ≡ 1).
      single_one (part s from end) 0 (length (part s from end)) (omega (arith, part_length))
      ∙ ap (λ (x : ℕ). x - 48) (part_byte 0 (omega arith) ∙ ap (λ (i : ℕ). get_or s i 0) (let z : from + 0 ≡ from = omega arith in z))
      ∙ sym (single_one s from end e))
      (λ (h : end - from ≡ 1 → ⊥).
      single_long (part s from end) 0 (length (part s from end)) (λ e. h (omega (arith, part_length)))
      ∙ sym (single_long s from end h))
      (eq? (end - from) 1)

  -- a part is a table where the run is one
  pub part_table : (n : ℕ) → is_table (part s from end) 0 (length (part s from end)) n ≡ is_table s from end n
  unfolding is_table
  part_table n =
      let few : length (part s from end) - 0 ≡ end - from = omega (arith, part_length) in
      rw few
      (ap (λ (t : Bool). eqb (end - from) (2 ^ n) && t)
      (all_same _ (λ i. row_character (get_or s i 0)) (end - from) 0 from (λ i l. ap row_character (part_byte i l))))

  -- and its rows of a character are those of the run
  pub part_marked : (b : ℕ) → marked b (part s from end) 0 (length (part s from end)) ≡ marked b s from (end - from)
  part_marked b = rw part_length (marked_same b (part s from end) s (end - from) 0 from part_byte)

  module _ (most : ℕ) (e : Refusal) where
    -- a digit of a part that is refused is higher than it may be, and is refused so
    pub part_err : (f : Refusal) → Err f ≡ digit_within (single (part s from end) 0 (length (part s from end))) most e
        → (most < single s from end) × (f ≡ e)
    part_err f h = within_err (single s from end) most e f (h ∙ ap (λ (x : ℕ). digit_within x most e) part_single)

    -- and one that is given is the digit of the run, within the bound
    pub part_ok : (n : ℕ) → Ok n ≡ digit_within (single (part s from end) 0 (length (part s from end))) most e
        → (n ≡ single s from end) × (n ≤ most)
    part_ok n h = within_ok (single s from end) most e n (h ∙ ap (λ (x : ℕ). digit_within x most e) part_single)

-- the bytes before a place are the part from 0 to it
pub front : (s : List ℕ) (end : ℕ) → take end s ≡ part s 0 end
front s end = let z : end - 0 ≡ end = omega arith in rw z

-- the four runs of a line that end at a, b, c and d, as slices
pub record Runs (s : List ℕ) (a b c d : ℕ) (n table r m : List ℕ) : Type 0 where
  pub ends : Ends s a b c d
  pub is_n : n ≡ part s 0 a
  pub is_table : table ≡ part s (a + 1) b
  pub is_r : r ≡ part s (b + 1) c
  pub is_m : m ≡ part s (c + 1) d

-- past a first byte the places are one higher
behind : (b : ℕ) (s : List ℕ) (i : ℕ) → get_or (b ∷ s) (1 + i) 0 ≡ get_or s (0 + i) 0
behind b s i = let z : 0 + i ≡ i = omega arith in let y : 1 + i ≡ suc i = omega arith in rw (z, y)

-- a run of bytes is a table: 2^n of them, each the character of a row
pub table_all : (s : List ℕ) (n : ℕ) → is_table s 0 (length s) n ≡ (eqb (length s) (2 ^ n) && list_all row_character s)
unfolding is_table
table_all s n = let z : length s - 0 ≡ length s = omega arith in rw (z, each_of s)
  where
    each_of : (s : List ℕ) → all_from 0 (length s) (λ i. row_character (get_or s i 0)) ≡ list_all row_character s
    each_of [] = refl
    each_of (b ∷ s) =
        ap (λ (t : Bool). row_character b && t)
        (all_same (λ i. row_character (get_or (b ∷ s) i 0)) (λ i. row_character (get_or s i 0)) (length s) 1 0
        (λ i l. ap row_character (behind b s i)) ∙ each_of s)

-- a test as a number
as_byte : (t : Bool) → cond t 1 0 ≡ bool_byte t
as_byte true = refl
as_byte false = refl

-- a run whose last bytes are t, with b before them, and their rows: those of b and t are one bit more, and a number of as many bits as
-- there may be rows
pub marked_front : (m b rows : ℕ) (run rest t : List ℕ) → length run ≤ rows_most → run ≡ (rest ++ (b ∷ [])) ++ t
    → rows ≡ marked m t 0 (length t)
    → (run ≡ rest ++ (b ∷ t)) × (2 * rows + bool_byte (eqb b m) ≡ marked m (b ∷ t) 0 (length (b ∷ t)))
    × (2 * rows + bool_byte (eqb b m) < 2 ^ rows_most)
unfolding marked
marked_front m b rows run rest t h e r =
    let f : run ≡ rest ++ (b ∷ t) = e ∙ append_assoc rest (b ∷ []) t in
    let z : 2 * rows + bool_byte (eqb b m) ≡ marked m (b ∷ t) 0 (length (b ∷ t)) =
    rw (marked_same m (b ∷ t) t (length t) 1 0 (λ i l. behind b t i)) (omega (arith, as_byte (eqb b m))) in
    let p : 2 ^ length (b ∷ t) ≤ 2 ^ rows_most =
    pow_mono {i = length (b ∷ t)} {j = rows_most} (omega (arith, ap length f, length-append rest (b ∷ t))) in
    (f, z, omega (arith, marked_below m (b ∷ t) 0 (length (b ∷ t))))
