-- The literals of an added clause, as a part of the text (document 01: "An added clause's literals are handed back as the part of the
-- refutation's text that its pair names, in bytes"). Assumes nothing.
use Rattle.std.specs.Prelude.{◌≡◌, cond, List, [], ℕ, ◌+◌, ◌≤◌, ◌<◌, leb, length, take, drop, Some, None}
use Rattle.std.proofs.Common.{Option, sym, ap, le-leb}
use Rattle.std.proofs.lemmas.Bool.{lt-leb}
use Rattle.added.specs.Record.{offset_of, length_of, first_with}

-- "a length of 0, or a pair outside [...] the text, as the empty part": the part that record k names
unfoldable pub record_part : List ℕ → List ℕ → ℕ → List ℕ
record_part text added k =
    cond (leb (offset_of added k + length_of added k) (length text)) (take (length_of added k) (drop (offset_of added k) text)) []

-- that of a record that there may be
abbrev pub part_at : List ℕ → List ℕ → Option ℕ → List ℕ
part_at text added None = []
part_at text added (Some k) = record_part text added k

-- "The part handed back is that of the first of the a records, wholly inside the slice, with this id; an id at or below C or without a
-- record gives the empty part" (document 02, U4); C is c
unfoldable pub part_of : List ℕ → List ℕ → ℕ → ℕ → ℕ → List ℕ
part_of text added c a id = cond (leb id c) [] (part_at text added (first_with a added id))

module _ (text added : List ℕ) (k at n : ℕ) (at_is : at ≡ offset_of added k) (n_is : n ≡ length_of added k) where
  -- outside the text
  pub record_past : length text < at + n → [] ≡ record_part text added k
  unfolding record_part
  record_past h = sym (rw (← at_is, ← n_is, lt-leb (at + n) (length text) h))

  -- and inside
  pub record_in : at + n ≤ length text → take n (drop at text) ≡ record_part text added k
  unfolding record_part
  record_in h = sym (rw (← at_is, ← n_is, le-leb (at + n) (length text) h))

module _ (text added : List ℕ) (c a id : ℕ) where
  pub part_low : id ≤ c → [] ≡ part_of text added c a id
  unfolding part_of
  part_low h = rw (le-leb id c h)

  pub part_high : c < id → (o : Option ℕ) → o ≡ first_with a added id → part_at text added o ≡ part_of text added c a id
  unfolding part_of
  part_high l o e = rw (lt-leb id c l) (ap (part_at text added) e)
