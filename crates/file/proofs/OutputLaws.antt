-- What the program writes, by the answer of writing the file. Assumes nothing.
use Rattle.std.specs.Prelude.{cond, List, [], ◌∷◌, ℕ, Bool, true, false, eqb, ltb, zero, suc, ◌≤◌, length, take, ◌≡◌, refl, get_or}
use Rattle.std.proofs.Common.{sym, ap, ◌∙◌, eq-eqb, ne_eqb, nltb→le, drop, ◌+◌}
use Rattle.std.proofs.Math.Seq.{take_at}
use native.Mathlib.Omega.{arith}
use Rattle.prelude.specs.Written.{written}
use Rattle.request.specs.Numbers.{refusal_of}
use Rattle.request.specs.declared.Request.{Request}
use Rattle.refusal.specs.declared.Refusal.{Refusal}
use Rattle.refusal.specs.Refusal.{number}
use Rattle.refusal.specs.Refusal.Laws.{number_some}
use Rattle.dimacs.specs.File.{file_text, write_number, write_values, file_written}
use Rattle.file.specs.Output.{refused_text}

-- a text written at the start, as far as it goes
taken : (old t : List ℕ) → take (length t) (written old 0 t) ≡ t
unfolding written
taken old t = take_at t (drop (0 + length t) old) (length t) refl

-- the text for a request, by the room for its file
abbrev pub text_within : Request → ℕ → List ℕ
text_within q room = cond (eqb (write_number q room) 0) (file_text q) (refused_text (write_number q room))

module _ (q : Request) (room k : ℕ) (n : 0 ≡ write_number q room) (v : k ∷ [] ≡ write_values q room) where
  -- a length is that of the file
  is_length : k ≡ length (file_text q)
  unfolding write_values
  is_length =
      let e : k ∷ [] ≡ length (file_text q) ∷ [] = (rw (eq-eqb (write_number q room) 0 (sym n)) at v) in
      ap (λ (l : List ℕ). get_or l 0 0) e

  -- for which there is room
  pub length_within : k ≤ room
  unfolding write_number
  length_within = rw is_length (has_room (refusal_of q) (ltb room (length (file_text q))) refl n)
    where
      has_room : (refused : ℕ) (t : Bool) → ltb room (length (file_text q)) ≡ t → 0 ≡ cond (eqb refused 0) (cond t 6 0) refused
          → length (file_text q) ≤ room
      has_room zero true f e = absurd (omega arith)
      has_room zero false f e = nltb→le room (length (file_text q)) (rw f tt)
      has_room (suc x) t f e = absurd (let z = rw (ne_eqb (suc x) 0 (λ y. omega arith)) at e in omega arith)

-- and the file stands in the buffer
pub length_text : (q : Request) (old : List ℕ) (k : ℕ) (after : List ℕ) → 0 ≡ write_number q (length old)
    → k ∷ [] ≡ write_values q (length old) → after ≡ file_written q old → take k after ≡ text_within q (length old)
unfolding file_written
length_text q old k after n v a =
    let z = eq-eqb (write_number q (length old)) 0 (sym n) in
    let b : after ≡ written old 0 (file_text q) = (rw z at a) in
    rw z (rw (is_length q (length old) k n v) (rw b (taken old (file_text q))))

-- a refusal's number is not 0
pub refusal_text : (q : Request) (room : ℕ) (e : Refusal) → number e ≡ write_number q room → refused_text (number e) ≡ text_within q room
refusal_text q room e n = rw (ne_eqb (write_number q room) 0 (λ z. number_some e (n ∙ z))) (ap refused_text n)
