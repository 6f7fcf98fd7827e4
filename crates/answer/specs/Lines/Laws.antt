-- Laws of lines: where a line ends, a word in the text, the places of numbers, and one number of a v line at a time. Assumes nothing.
use Rattle.std.specs.Prelude.{◌≡◌, refl, List, [], ◌∷◌, true, false, not, ◌⊎◌, ℕ, zero, suc, ◌+◌, ◌-◌, ◌≤◌, ◌<◌, eqb, take, drop}
use Rattle.std.proofs.Common.{sym, ◌∙◌, inl, inr, length-take, drop_of_length-le, ext_get_or, get_or-take, get_or-drop}
use Rattle.std.proofs.Math.Path.{ap}
use native.Mathlib.Omega.{arith}
use Rattle.std.proofs.Math.Dec.{T}
use Rattle.std.proofs.Math.ListN.{length, get_or, length-drop}
use borrow.Author.Tests.{eq-eqb, ne_eqb}
use Rattle.prelude.specs.Tests.{eq?, eq→eqb, ne→neqb}
use Rattle.prelude.specs.Lists.{equal_lists}
use Rattle.prelude.specs.Lists.Laws.{true_equal, false_equal, first_is, first_none, first_within}
use Rattle.numeral.specs.Number.{Read, byte_at, literal_at}
use Rattle.numeral.specs.Number.Places.{Ends, literal_there}
use Rattle.numeral.specs.Number.Laws.{byte_past}
use Rattle.answer.specs.Lines.{line_end, stands_at, formed, no_form, form_from, form_at}

-- ---- the end of a line
module _ (t : List ℕ) (p i : ℕ) (from : p ≤ i) (none : (k : ℕ) → k < i → p ≤ k → get_or t k 0 ≡ 10 → ⊥) where
  -- no newline stands before i, by the index from p on
  none_before : (j : ℕ) → j < i - p → T (not (eqb 10 (get_or (drop p t) j 0)))
  none_before j h = ne→neqb 10 (get_or (drop p t) j 0) (λ e. none (p + j) (omega arith) (omega arith) (sym (e ∙ get_or-drop p t j 0)))

  -- the first newline ends the line
  pub line_found : i < length t → get_or t i 0 ≡ 10 → i ≡ line_end t p
  unfolding line_end
  line_found h e =
      let z : i ≡ p + (i - p) = omega arith in
      let b : T (eqb 10 (get_or (drop p t) (i - p) 0)) =
      eq→eqb 10 (get_or (drop p t) (i - p) 0) (sym (get_or-drop p t (i - p) 0 ∙ ap (λ (k : ℕ). get_or t k 0) (sym z) ∙ e)) in
      z ∙ ap (λ (k : ℕ). p + k) (sym (first_is (eqb 10) (drop p t) 0 (i - p) (simp length-drop (omega arith)) b none_before))

  -- without one it goes on to the end of the text
  pub line_rest : length t ≤ i → i ≤ p + (length t - p) → i ≡ line_end t p
  unfolding line_end
  line_rest h g =
      let z : i ≡ p + (length t - p) = omega arith in
      let n : length (drop p t) ≡ length t - p = length-drop p t in
      z ∙ ap (λ (k : ℕ). p + k) (sym (first_none (eqb 10) (drop p t) 0 (λ j k. none_before j (omega arith)) ∙ n))

-- ---- a word in the text
-- past the end only the empty word stands
pub stands_past : (t w : List ℕ) (p : ℕ) → length t ≤ p → eqb (length w) 0 ≡ stands_at t p w
unfolding equal_lists stands_at
stands_past t [] p h = refl
stands_past t (x ∷ w) p h = rw (drop_of_length-le t h) (ne_eqb (length (x ∷ w)) 0 (λ e. omega arith))

-- no word that is longer than what is left of the text
pub stands_longer : (t w : List ℕ) (p : ℕ) → length t - p < length w → false ≡ stands_at t p w
unfolding stands_at
stands_longer t w p h =
    sym (false_equal _ _ (λ e. let n : length (take (length w) (drop p t)) ≡ length w = ap length e in
    let m = simp (length-take, length-drop) at n in omega arith))

-- no word of which one byte differs
pub stands_differs : (t w : List ℕ) (p i : ℕ) → i < length w → (get_or t (p + i) 0 ≡ get_or w i 0 → ⊥) → false ≡ stands_at t p w
unfolding stands_at
stands_differs t w p i h d =
    sym (false_equal _ _ (λ e. d (sym (get_or-take (length w) (drop p t) i 0 h ∙ get_or-drop p t i 0) ∙ ap (λ (l : List ℕ). get_or l i 0) e)))

-- a word each byte of which is the text's
pub stands_equal : (t w : List ℕ) (p : ℕ) → p + length w ≤ length t → ((k : ℕ) → k < length w → get_or t (p + k) 0 ≡ get_or w k 0)
    → true ≡ stands_at t p w
unfolding stands_at
stands_equal t w p h f =
    let n : length (take (length w) (drop p t)) ≡ length w = simp (length-take, length-drop) (omega arith) in
    sym (true_equal _ _ (ext_get_or 0 _ _ n (λ i l.
    let j : i < length w = omega arith in get_or-take (length w) (drop p t) i 0 j ∙ get_or-drop p t i 0 ∙ f i j)))

-- ---- the form of a v line, one number at a time
-- past the end no line has the form
form_past : (f : ℕ) (t : List ℕ) (p : ℕ) → length t ≤ p → form_from f t p ≡ no_form
unfolding form_from
form_past zero t p h = refl
form_past (suc f) t p h = rw (ne_eqb (byte_at t p) 32 (λ e. omega (arith, byte_past t p h)))

-- any number of turns that reaches the text's end gives the same
form_same : (f g : ℕ) (t : List ℕ) (p : ℕ) → length t ≤ p + f → length t ≤ p + g → form_from f t p ≡ form_from g t p
unfolding form_from
form_same zero g t p h k = sym (form_past g t p (omega arith))
form_same (suc f) zero t p h k = form_past (suc f) t p (omega arith)
form_same (suc f) (suc g) t p h k = go (eq? (literal_at t (p + 1)).next 0) (form_same f g t (literal_at t (p + 1)).next)
  where
    go : ((literal_at t (p + 1)).next ≡ 0) ⊎ ((literal_at t (p + 1)).next ≡ 0 → ⊥)
        → (length t ≤ (literal_at t (p + 1)).next + f → length t ≤ (literal_at t (p + 1)).next + g
        → form_from f t (literal_at t (p + 1)).next ≡ form_from g t (literal_at t (p + 1)).next)
        → form_from (suc f) t p ≡ form_from (suc g) t p
    go (inl e) rest = rw (eq-eqb (literal_at t (p + 1)).next 0 e)
    go (inr d) rest = let r = literal_there t (p + 1) d in rw (rest (omega (arith, r.low)) (omega (arith, r.low)))

module _ (t : List ℕ) (p : ℕ) where
  -- a line that starts with no v has not the form
  pub form_other : (byte_at t p ≡ 118 → ⊥) → no_form ≡ form_at t p
  unfolding form_at
  form_other d = rw (ne_eqb (byte_at t p) 118 d)

  -- after the v come the numbers
  pub form_first : byte_at t p ≡ 118 → form_at t p ≡ form_from (length t) t (p + 1)
  unfolding form_at
  form_first e = rw (eq-eqb (byte_at t p) 118 e)

  -- one turn more changes nothing
  form_turn : form_from (length t) t p ≡ form_from (suc (length t)) t p
  form_turn = form_same (length t) (suc (length t)) t p (omega arith) (omega arith)

  -- a space has to stand before a number
  pub form_unspaced : (byte_at t p ≡ 32 → ⊥) → form_from (length t) t p ≡ no_form
  unfolding form_from
  form_unspaced d = form_turn ∙ rw (ne_eqb (byte_at t p) 32 d)

  module _ (w : Read) (read : w ≡ literal_at t (p + 1)) (space : byte_at t p ≡ 32) where
    -- and a number after it
    pub form_wordless : w.next ≡ 0 → form_from (length t) t p ≡ no_form
    unfolding form_from
    form_wordless e = form_turn ∙ rw (eq-eqb (byte_at t p) 32 space, ← read, eq-eqb w.next 0 e)

    module _ (there : w.next ≡ 0 → ⊥) where
      -- the number ends past p and inside the text
      pub form_ends : Ends t (p + 1) w
      form_ends = rw read (literal_there t (p + 1) (λ e. there (ap (λ (v : Read). v.next) read ∙ e)))

      -- a newline ends the line
      pub form_last : byte_at t w.next ≡ 10 → form_from (length t) t p ≡ formed (w.next + 1) (eqb w.value 0)
      unfolding form_from
      form_last e = form_turn ∙ rw (eq-eqb (byte_at t p) 32 space, ← read, ne_eqb w.next 0 there, eq-eqb (byte_at t w.next) 10 e)

      module _ (longer : byte_at t w.next ≡ 10 → ⊥) where
        -- a 0 has to be the last number
        pub form_zero : w.value ≡ 0 → form_from (length t) t p ≡ no_form
        unfolding form_from
        form_zero e =
            form_turn
            ∙ rw (eq-eqb (byte_at t p) 32 space, ← read, ne_eqb w.next 0 there, ne_eqb (byte_at t w.next) 10 longer, eq-eqb w.value 0 e)

        -- after another number the line goes on
        pub form_more : (w.value ≡ 0 → ⊥) → form_from (length t) t p ≡ form_from (length t) t w.next
        unfolding form_from
        form_more d =
            form_turn
            ∙ rw (eq-eqb (byte_at t p) 32 space, ← read, ne_eqb w.next 0 there, ne_eqb (byte_at t w.next) 10 longer, ne_eqb w.value 0 d)

-- a line ends within the text
pub line_most : (t : List ℕ) (p : ℕ) → p ≤ length t → line_end t p ≤ length t
unfolding line_end
line_most t p h = let f = first_within (eqb 10) (drop p t) in let d = length-drop p t in omega arith
