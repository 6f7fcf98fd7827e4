-- Laws of a list written into another. Assumes nothing.
use Rattle.std.specs.Prelude.{◌≡◌, refl, ℕ, ◌+◌, ◌≤◌, ◌<◌, set}
use Rattle.std.proofs.Math.Path.{sym, ap, ap₂}
use Rattle.std.proofs.Common.{◌∙◌, add-zero, add_assoc, arith, length-append, length-drop, take-append-drop}
use mathlib.Core.List.{List, [], ◌∷◌, ◌++◌, append_assoc}
use Rattle.std.proofs.Math.Numerals.{add-one}
use Rattle.std.proofs.Math.ListN.{length, take, drop, length-take}
use Rattle.std.proofs.Math.Seq.{drop-append-add, take_at, drop-drop}
use Rattle.std.proofs.lemmas.List.{set_split}
use borrow.Rule.Slice.PartMut.{put_mid}
use Rattle.prelude.specs.Written.{written}

module _ {A : Type 0} where
  -- nothing written
  pub written_none : (l : List A) (at : ℕ) → written l at [] ≡ l
  unfolding written
  written_none l at = rw (add-zero, take-append-drop)

  -- the length stays
  pub written_length : (l : List A) (at : ℕ) (xs : List A) → at + length xs ≤ length l → length (written l at xs) ≡ length l
  unfolding written
  written_length l at xs h = simp (length-append, length-take, length-drop) (omega arith)

  -- one store
  pub written_one : (l : List A) (at : ℕ) (a : A) → at < length l → set l at a ≡ written l at (a ∷ [])
  unfolding written
  written_one l at a h = rw add-one (set_split l at a h)

  -- writing on where the last write ended
  pub written_append : (l : List A) (at : ℕ) (xs ys : List A) → at + length xs + length ys ≤ length l
      → written (written l at xs) (at + length xs) ys ≡ written l at (xs ++ ys)
  unfolding written
  written_append l at xs ys h =
      let D : List A = drop (at + length xs) l in
      let p : List A = take at l ++ xs in
      let n : length p ≡ at + length xs = simp (length-append, length-take) (omega arith) in
      let s : take at l ++ (xs ++ D) ≡ p ++ D = sym (append_assoc (take at l) xs D) in
      let t : take (at + length xs) (take at l ++ (xs ++ D)) ≡ p = ap (take (at + length xs)) s ∙ take_at p D (at + length xs) n in
      let u : drop (at + length xs + length ys) (take at l ++ (xs ++ D)) ≡ drop (at + length (xs ++ ys)) l =
      ap (drop (at + length xs + length ys)) s ∙ ap (λ (k : ℕ). drop (k + length ys) (p ++ D)) (sym n)
      ∙ drop-append-add p D (length ys) ∙ drop-drop (length ys) (at + length xs) l
      ∙ ap (λ (k : ℕ). drop k l) (add_assoc at (length xs) (length ys) ∙ ap (λ (k : ℕ). at + k) (sym (length-append xs ys))) in
      ap₂ (λ (x y : List A). x ++ (ys ++ y)) t u ∙ simp append_assoc

  -- two stores, one beside the other
  pub written_two : (l : List A) (at : ℕ) (a b : A) → at + 1 < length l → set (set l at a) (at + 1) b ≡ written l at (a ∷ b ∷ [])
  written_two l at a b h =
      let e = written_length l at (a ∷ []) (omega arith) in
      ap (λ (x : List A). set x (at + 1) b) (written_one l at a (omega arith)) ∙ written_one (written l at (a ∷ [])) (at + 1) b (omega arith)
      ∙ written_append l at (a ∷ []) (b ∷ []) (omega arith)

  -- what a writer promises: xs stands from at on, and the place after it is given back
  abbrev pub Wrote : List A → ℕ → List A → ℕ → List A → Type 0
  Wrote l at xs k m = (k ≡ at + length xs) × (m ≡ written l at xs)

  -- nothing is written
  pub wrote_none : (l : List A) (at : ℕ) → Wrote l at [] at l
  wrote_none l at = (omega arith, sym (written_none l at))

  -- one entry is stored
  pub wrote_one : (l : List A) (at : ℕ) (a : A) → at < length l → Wrote l at (a ∷ []) (at + 1) (set l at a)
  wrote_one l at a h = (refl, written_one l at a h)

  -- two entries are stored
  pub wrote_two : (l : List A) (at : ℕ) (a b : A) → at + 2 ≤ length l → Wrote l at (a ∷ b ∷ []) (at + 2) (set (set l at a) (at + 1) b)
  wrote_two l at a b h = (refl, written_two l at a b (omega arith))

module _ {A : Type 0} (xs ys zs : List A) (parts : zs ≡ xs ++ ys) (at : ℕ) where
  -- a text of two parts has room for the first
  pub room_first : {n : ℕ} → at + length zs ≤ n → at + length xs ≤ n
  room_first h = let e = ap length parts ∙ length-append xs ys in omega arith

  -- and for the second after it
  pub room_next : {n k : ℕ} → at + length zs ≤ n → k ≡ at + length xs → k + length ys ≤ n
  room_next h g = let e = ap length parts ∙ length-append xs ys in omega arith

  -- it is written when the second is written where the first ended
  pub wrote_next : (l : List A) {m n : List A} {k e : ℕ} → at + length zs ≤ length l → Wrote l at xs k m → Wrote m k ys e n → Wrote l at zs e n
  wrote_next l h (g, p) (f, q) =
      let s = ap length parts ∙ length-append xs ys in (
        omega arith,
        q ∙ ap₂ (λ (b : List A) (i : ℕ). written b i ys) p g ∙ written_append l at xs ys (omega arith) ∙ ap (written l at) (sym parts),
      )

-- a word copied over the part of a list from at on
pub wrote_part : {A : Type 0} (l : List A) (at n : ℕ) (word part : List A) → part ≡ word → n ≡ length word → put_mid at n l part ≡ written l at word
unfolding written
wrote_part l at n word part e h = rw (e, h) (ap (λ (r : List _). take at l ++ (word ++ r)) (drop-drop (length word) at l))
