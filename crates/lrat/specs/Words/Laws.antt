-- One turn of each run of numbers, and the places that it passes. Assumes nothing.
use Rattle.std.specs.Prelude.{◌≡◌, ◌⊎◌}
use Rattle.std.proofs.Math.Path.{refl, sym, ap}
use Rattle.std.proofs.Common.{◌∙◌, inl, inr, ⊎_elim, arith}
use mathlib.Core.List.{List, [], ◌∷◌, map}
use Prim.Native.Nat.{ℕ, zero, suc, ◌+◌, ◌≤◌, ◌<◌}
use Rattle.std.proofs.Math.ListN.{length}
use borrow.Author.Tests.{eq-eqb, ne_eqb}
use Rattle.prelude.specs.Tests.{eq?}
use Rattle.numeral.specs.Number.{Read, byte_at, no_word, literal_at}
use Rattle.numeral.specs.Number.Laws.{byte_past}
use Rattle.numeral.specs.Number.Places.{Ends, number_ways, literal_ways}
use Rattle.lrat.specs.Words.{Reader, plain_at, words_from, words_at, literal_of, literals_at, ids_at, Run, run, run_from, run_at}

-- a reader finds no number, or one that ends inside the text
abbrev pub Reads : Reader → Type 0
Reads read = (t : List ℕ) (p : ℕ) → (read t p ≡ no_word) ⊎ Ends t p (read t p)

pub plain_reads : Reads plain_at
plain_reads t p = number_ways t p 0 (omega arith)

pub literal_reads : Reads literal_at
literal_reads t p = literal_ways t p

module _ (read : Reader) (reads : Reads read) where
  -- a number other than 0 was read
  pub read_ends : (t : List ℕ) (p : ℕ) → ((read t p).value ≡ 0 → ⊥) → Ends t p (read t p)
  read_ends t p d = ⊎_elim (λ (e : read t p ≡ no_word). absurd (d (ap (λ (w : Read). w.value) e))) (λ (r : Ends t p (read t p)). r) (reads t p)

  -- a number that has an end was read
  pub read_there : (t : List ℕ) (p : ℕ) → ((read t p).next ≡ 0 → ⊥) → Ends t p (read t p)
  read_there t p d = ⊎_elim (λ (e : read t p ≡ no_word). absurd (d (ap (λ (w : Read). w.next) e))) (λ (r : Ends t p (read t p)). r) (reads t p)

  -- ---- the numbers, one by one
  words_past : (f : ℕ) (t : List ℕ) (p : ℕ) → length t ≤ p → words_from read f t p ≡ []
  unfolding words_from
  words_past zero t p h = refl
  words_past (suc f) t p h = go (eq? (read t (p + 1)).value 0)
    where
      go : ((read t (p + 1)).value ≡ 0) ⊎ ((read t (p + 1)).value ≡ 0 → ⊥) → words_from read (suc f) t p ≡ []
      go (inl e) = rw (eq-eqb (read t (p + 1)).value 0 e)
      go (inr d) = let r = read_ends t (p + 1) d in absurd (omega (arith, r.low, r.high))

  -- any number of turns that reaches the text's end gives the same
  words_same : (f g : ℕ) (t : List ℕ) (p : ℕ) → length t ≤ p + f → length t ≤ p + g → words_from read f t p ≡ words_from read g t p
  unfolding words_from
  words_same zero g t p h k = sym (words_past g t p (omega arith))
  words_same (suc f) zero t p h k = words_past (suc f) t p (omega arith)
  words_same (suc f) (suc g) t p h k = go (eq? (read t (p + 1)).value 0) (words_same f g t (read t (p + 1)).next)
    where
      go : ((read t (p + 1)).value ≡ 0) ⊎ ((read t (p + 1)).value ≡ 0 → ⊥)
          → (length t ≤ (read t (p + 1)).next + f → length t ≤ (read t (p + 1)).next + g
          → words_from read f t (read t (p + 1)).next ≡ words_from read g t (read t (p + 1)).next)
          → words_from read (suc f) t p ≡ words_from read (suc g) t p
      go (inl e) rest = rw (eq-eqb (read t (p + 1)).value 0 e)
      go (inr d) rest =
          let r = read_ends t (p + 1) d in
          rw (ne_eqb (read t (p + 1)).value 0 d) (ap (λ (l : List Read). read t (p + 1) ∷ l) (rest (omega (arith, r.low)) (omega (arith, r.low))))

  module _ (t : List ℕ) (p : ℕ) (w : Read) (is : w ≡ read t (p + 1)) where
    words_turn : words_at read t p ≡ words_from read (suc (length t)) t p
    unfolding words_at
    words_turn = words_same (length t) (suc (length t)) t p (omega arith) (omega arith)

    words_none : w.value ≡ 0 → words_at read t p ≡ []
    unfolding words_from
    words_none e = words_turn ∙ rw (← is, eq-eqb w.value 0 e)

    words_more : (w.value ≡ 0 → ⊥) → words_at read t p ≡ w ∷ words_at read t w.next
    unfolding words_at words_from
    words_more d = words_turn ∙ rw (← is, ne_eqb w.value 0 d)

    -- it ends inside the text
    pub word_ends : (w.value ≡ 0 → ⊥) → Ends t (p + 1) w
    word_ends d = rw is (read_ends t (p + 1) (λ e. d (ap (λ (v : Read). v.value) is ∙ e)))

    pub word_there : (w.next ≡ 0 → ⊥) → Ends t (p + 1) w
    word_there d = rw is (read_there t (p + 1) (λ e. d (ap (λ (v : Read). v.next) is ∙ e)))

  -- ---- the form of a run, one number at a time
  run_past : (f : ℕ) (t : List ℕ) (p : ℕ) → length t ≤ p → run_from read f t p ≡ run 0 0
  unfolding run_from
  run_past zero t p h = refl
  run_past (suc f) t p h = rw (ne_eqb (byte_at t p) 32 (λ e. omega (arith, byte_past t p h)))

  run_same : (f g : ℕ) (t : List ℕ) (p : ℕ) → length t < p + f → length t < p + g → run_from read f t p ≡ run_from read g t p
  unfolding run_from
  run_same zero g t p h k = sym (run_past g t p (omega arith))
  run_same (suc f) zero t p h k = run_past (suc f) t p (omega arith)
  run_same (suc f) (suc g) t p h k = go (eq? (read t (p + 1)).next 0) (run_same f g t (read t (p + 1)).next)
    where
      go : ((read t (p + 1)).next ≡ 0) ⊎ ((read t (p + 1)).next ≡ 0 → ⊥)
          → (length t < (read t (p + 1)).next + f → length t < (read t (p + 1)).next + g
          → run_from read f t (read t (p + 1)).next ≡ run_from read g t (read t (p + 1)).next)
          → run_from read (suc f) t p ≡ run_from read (suc g) t p
      go (inl e) rest = rw (eq-eqb (read t (p + 1)).next 0 e)
      go (inr d) rest = let r = read_there t (p + 1) d in rw (rest (omega (arith, r.low)) (omega (arith, r.low)))

  module _ (t : List ℕ) (p : ℕ) where
    run_turn : run_at read t p ≡ run_from read (suc (length t + 1)) t p
    unfolding run_at
    run_turn = run_same (length t + 1) (suc (length t + 1)) t p (omega arith) (omega arith)

    -- a space has to stand before a number
    pub run_unspaced : (byte_at t p ≡ 32 → ⊥) → run_at read t p ≡ run 0 0
    unfolding run_from
    run_unspaced d = run_turn ∙ rw (ne_eqb (byte_at t p) 32 d)

    module _ (w : Read) (is : w ≡ read t (p + 1)) (space : byte_at t p ≡ 32) where
      -- and a number after it
      pub run_wordless : w.next ≡ 0 → run_at read t p ≡ run 0 0
      unfolding run_from
      run_wordless e = run_turn ∙ rw (eq-eqb (byte_at t p) 32 space, ← is, eq-eqb w.next 0 e)

      module _ (there : w.next ≡ 0 → ⊥) where
        -- the 0 ends the run
        pub run_last : w.value ≡ 0 → run_at read t p ≡ run p w.next
        unfolding run_from
        run_last e = run_turn ∙ rw (eq-eqb (byte_at t p) 32 space, ← is, ne_eqb w.next 0 there, eq-eqb w.value 0 e)

        -- after another number it goes on
        pub run_more : (w.value ≡ 0 → ⊥) → run_at read t p ≡ run_at read t w.next
        unfolding run_from run_at
        run_more d = run_turn ∙ rw (eq-eqb (byte_at t p) 32 space, ← is, ne_eqb w.next 0 there, ne_eqb w.value 0 d)

  -- a run of the form starts with a space and a number
  pub run_spaced : (t : List ℕ) (p : ℕ) → ((run_at read t p).next ≡ 0 → ⊥) → byte_at t p ≡ 32
  run_spaced t p d =
      ⊎_elim (λ (e : byte_at t p ≡ 32). e) (λ (n : byte_at t p ≡ 32 → ⊥). absurd (d (ap (λ (r : Run). r.next) (run_unspaced t p n)))) (eq? (byte_at t p) 32)

  pub run_worded : (t : List ℕ) (p : ℕ) → ((run_at read t p).next ≡ 0 → ⊥) → (read t (p + 1)).next ≡ 0 → ⊥
  run_worded t p d e = d (ap (λ (r : Run). r.next) (run_wordless t p (read t (p + 1)) refl (run_spaced t p d) e))

  -- a space stands after each number of a run that a space follows
  pub run_after : (t : List ℕ) (p : ℕ) → ((run_at read t p).next ≡ 0 → ⊥) → byte_at t (run_at read t p).next ≡ 32 → byte_at t (read t (p + 1)).next ≡ 32
  run_after t p d e = go (eq? (read t (p + 1)).value 0)
    where
      go : ((read t (p + 1)).value ≡ 0) ⊎ ((read t (p + 1)).value ≡ 0 → ⊥) → byte_at t (read t (p + 1)).next ≡ 32
      go (inl z) = ap (λ (r : Run). byte_at t r.next) (sym (run_last t p (read t (p + 1)) refl (run_spaced t p d) (run_worded t p d) z)) ∙ e
      go (inr n) =
          run_spaced t (read t (p + 1)).next
          (λ z. d (ap (λ (r : Run). r.next) (run_more t p (read t (p + 1)) refl (run_spaced t p d) (run_worded t p d) n) ∙ z))

-- ---- the literals and the ids of a run
module _ (t : List ℕ) (p : ℕ) (w : Read) (is : w ≡ literal_at t (p + 1)) where
  pub literals_none : w.value ≡ 0 → literals_at t p ≡ []
  unfolding literals_at
  literals_none e = ap (map literal_of) (words_none literal_at literal_reads t p w is e)

  pub literals_more : (w.value ≡ 0 → ⊥) → literals_at t p ≡ literal_of w ∷ literals_at t w.next
  unfolding literals_at
  literals_more d = ap (map literal_of) (words_more literal_at literal_reads t p w is d)

module _ (t : List ℕ) (p : ℕ) (w : Read) (is : w ≡ plain_at t (p + 1)) where
  pub ids_none : w.value ≡ 0 → ids_at t p ≡ []
  unfolding ids_at
  ids_none e = ap (map (λ (v : Read). v.value)) (words_none plain_at plain_reads t p w is e)

  pub ids_more : (w.value ≡ 0 → ⊥) → ids_at t p ≡ w.value ∷ ids_at t w.next
  unfolding ids_at
  ids_more d = ap (map (λ (v : Read). v.value)) (words_more plain_at plain_reads t p w is d)
