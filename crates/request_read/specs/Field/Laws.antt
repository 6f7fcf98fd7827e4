-- Laws of a field's end, and of a digit within a bound. Assumes nothing.
use Rattle.std.proofs.Common.{◌≡◌, ◌∷◌, ◌+◌, ◌-◌, ◌≤◌, ◌<◌, ◌∙◌, Bool, true, false, not, cond, List, [], ℕ, suc, ltb, Option, None, Some, Ok, Err, length, get_or, take, drop, refl, sym, ⊎_elim, arith, length-drop}
use Rattle.std.proofs.Math.Seq.{take-length}
use Rattle.std.proofs.lemmas.List.Sums.{prefix_len-le-length}
use Rattle.std.specs.List.{position_or_len}
use Rattle.std.specs.Option.{MatchOption}
use borrow.Author.Tests.{lt-ltb, le-ltb, eq-eqb, ne_eqb}
use Rattle.prelude.specs.Tests.{le?}
use Rattle.refusal.specs.declared.Refusal.{Refusal}
use Rattle.refusal.specs.declared.Refusal.TheVariants.{RequestLine}
use Rattle.request.specs.Line.{leading, run_end, ended_by, Run}
use Rattle.request.proofs.LineLaws.{ended_empty, ended_past, ended_byte}
use Rattle.request_read.specs.Field.{field_end, digit_within}

-- all that follows a place
pub rest_whole : (s : List ℕ) (from : ℕ) → take (length s - from) (drop from s) ≡ drop from s
rest_whole s from = rw (← length-drop from s) (take-length (drop from s))

module _ (p : ℕ → Bool) where
  -- the first byte that p does not pass, if there is one
  abbrev pub first_other : List ℕ → Option ℕ
  first_other s =
      cond (ltb (position_or_len (λ b. not (p b)) s) (length s)) (Some (position_or_len (λ b. not (p b)) s)) None

  -- as many bytes as stand before it pass
  leading_place : (s : List ℕ) → leading p s ≡ position_or_len (λ b. not (p b)) s
  unfolding leading
  leading_place [] = refl
  leading_place (b ∷ s) = rw (leading_place s) (twice (p b) _)
    where
      twice : (t : Bool) (k : ℕ) → cond t (suc k) 0 ≡ cond (not (not t)) (1 + k) 0
      twice true k = omega arith
      twice false k = refl

  -- so a run ends there, and with the text where there is none
  pub run_sought : (s : List ℕ) (from : ℕ) → from ≤ length s → (r : Option ℕ) → r ≡ first_other (drop from s)
      → MatchOption r (run_end p s from ≡ length s) (λ k. (run_end p s from ≡ from + k) × (from + k < length s))
  unfolding run_end
  run_sought s from h r e =
      let t = drop from s in
      let k = position_or_len (λ b. not (p b)) t in
      rw (e, leading_place t)
      (⊎_elim
      (λ (l : length t ≤ k). rw (le-ltb k (length t) l) (omega (arith, length-drop from s, prefix_len-le-length (λ b. not (not (p b))) t)))
      (λ (l : k < length t). rw (lt-ltb k (length t) l) (refl, omega (arith, length-drop from s))) (le? (length t) k))

module _ (p : ℕ → Bool) (s : List ℕ) (from b : ℕ) where
  -- the answer by the test of the run's end
  field_by : (t : Bool) → ended_by s from (run_end p s from) b ≡ t → field_end p s from b ≡ cond t (Ok (run_end p s from)) (Err RequestLine)
  unfolding field_end
  field_by t e = rw e

  -- the run that is given,
  pub field_ok : (end : ℕ) → Ok end ≡ field_end p s from b → Run p s from end b
  field_ok end h = by_test (ended_by s from (run_end p s from) b) refl
    where
      by_test : (t : Bool) → ended_by s from (run_end p s from) b ≡ t → Run p s from end b
      by_test true e =
          let y = h ∙ field_by true e in
          let z : end ≡ run_end p s from = cc in
          record { is_end = z; ended = rw z e }
      by_test false e = let y = h ∙ field_by false e in absurd (cc)

  -- and why none is
  pub field_err : (f : Refusal) → Err f ≡ field_end p s from b → (f ≡ RequestLine) × (ended_by s from (run_end p s from) b ≡ false)
  field_err f h = by_test (ended_by s from (run_end p s from) b) refl
    where
      by_test : (t : Bool) → ended_by s from (run_end p s from) b ≡ t → (f ≡ RequestLine) × (ended_by s from (run_end p s from) b ≡ false)
      by_test true e = let y = h ∙ field_by true e in absurd (cc)
      by_test false e = let y = h ∙ field_by false e in (cc, e)

  module _ (end : ℕ) (is_end : run_end p s from ≡ end) where
    -- a run with b after it is a field,
    pub field_there : from < end → end < length s → get_or s end 0 ≡ b → Ok end ≡ field_end p s from b
    field_there l h e =
        sym (field_by true (rw is_end (ended_byte s from end b l h ∙ eq-eqb (get_or s end 0) b e)) ∙ rw is_end refl)

    -- an empty one is none,
    pub field_empty : end ≤ from → Err RequestLine ≡ field_end p s from b
    field_empty l = sym (field_by false (rw is_end (ended_empty s from end b l)))

    -- nor one that ends with the text,
    pub field_past : length s ≤ end → Err RequestLine ≡ field_end p s from b
    field_past l = sym (field_by false (rw is_end (ended_past s from end b l)))

    -- nor one with another byte after it
    pub field_other : from < end → end < length s → (get_or s end 0 ≡ b → ⊥) → Err RequestLine ≡ field_end p s from b
    field_other l h e =
        sym (field_by false (rw is_end (ended_byte s from end b l h ∙ ne_eqb (get_or s end 0) b e)))

module _ (x most : ℕ) (e : Refusal) where
  -- a higher one is refused
  pub within_above : most < x → digit_within x most e ≡ Err e
  within_above h = rw (lt-ltb most x h)

  -- and no other
  pub within_low : x ≤ most → digit_within x most e ≡ Ok x
  within_low h = rw (le-ltb most x h)

  -- so one that is refused is higher, and is refused so
  pub within_err : (f : Refusal) → Err f ≡ digit_within x most e → (most < x) × (f ≡ e)
  within_err f h =
      ⊎_elim (λ (l : x ≤ most). let z = h ∙ within_low l in absurd (cc)) (λ (l : most < x). let z = h ∙ within_above l in (l, cc)) (le? x most)

  -- and one that is given is the digit, within the bound
  pub within_ok : (n : ℕ) → Ok n ≡ digit_within x most e → (n ≡ x) × (n ≤ most)
  within_ok n h =
      ⊎_elim (λ (l : x ≤ most). let z = h ∙ within_low l in let y : n ≡ x = cc in (y, omega arith))
      (λ (l : most < x). let z = h ∙ within_above l in absurd (cc)) (le? x most)
