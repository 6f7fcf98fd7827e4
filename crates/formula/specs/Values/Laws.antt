-- Laws of the numbers that pass a test, by number, and of the literals that have a value on a row. Assumes nothing.
use Rattle.std.specs.Prelude.{◌≡◌, refl, Bool, true, false, not, cond, List, [], length, get_or}
use Rattle.std.proofs.Math.Path.{sym, ap₂}
use Rattle.std.proofs.Common.{ap, ◌∙◌, zero-mul, one-mul, add-zero, add-suc, add-mul, add-one, lt-ltb, le-ltb}
use Rattle.std.proofs.Math.Bool.{not-not}
use Rattle.std.proofs.Math.Logic.{⊎_elim}
use Prim.Native.Nat.{ℕ, zero, suc, ◌+◌, ◌-◌, ◌*◌, ◌^◌, ◌≤◌, ◌<◌}
use native.Mathlib.Omega.{arith}
use Rattle.std.proofs.Math.ListN.{length-append}
use Rattle.prelude.specs.Tests.{le?}
use Rattle.prelude.specs.Blocks.{each}
use Rattle.prelude.specs.Blocks.Laws.{each_index}
use Rattle.rows.specs.Rows.{bit, literal_on}
use Rattle.rows.proofs.RowsLaws.{bit_upper, bit_lower, bit_complement}
use Rattle.formula.specs.Values.{count_below, NthIs, has_value}

pub count_none : (p : ℕ → Bool) → count_below p 0 ≡ 0
unfolding count_below
count_none p = refl

pub count_yes : (p : ℕ → Bool) (v : ℕ) → p v ≡ true → count_below p (v + 1) ≡ count_below p v + 1
unfolding count_below
count_yes p v e = ap (count_below p) (add-one v) ∙ ap (λ (t : Bool). count_below p v + cond t 1 0) e

pub count_no : (p : ℕ → Bool) (v : ℕ) → p v ≡ false → count_below p (v + 1) ≡ count_below p v
unfolding count_below
count_no p v e = ap (count_below p) (add-one v) ∙ ap (λ (t : Bool). count_below p v + cond t 1 0) e ∙ add-zero (count_below p v)

-- numbers from n on that pass the test where those n below them do not
mirror_count : (p : ℕ → Bool) (n j : ℕ) → ((v : ℕ) → v < n → p (n + v) ≡ not (p v)) → j ≤ n
    → count_below p (n + j) + count_below p j ≡ count_below p n + j
unfolding count_below
mirror_count p n zero h l = ap (λ (x : ℕ). count_below p x + 0) (add-zero n)
mirror_count p n (suc j) h l =
    let before = mirror_count p n j h (omega arith) in
    let next : count_below p (n + suc j) ≡ count_below p (n + j) + cond (p (n + j)) 1 0 = ap (count_below p) (add-suc n j) in
    let two = one (p j) (p (n + j)) (h j (omega arith)) in
    omega arith
  where
    one : (a b : Bool) → b ≡ not a → cond {A = ℕ} b 1 0 + cond a 1 0 ≡ 1
    one true b e = rw e
    one false b e = rw e

-- literal n+v is the complement of literal v
mirrored : (n k : ℕ) (b : Bool) (v : ℕ) → v < n → has_value n k b (n + v) ≡ not (has_value n k b v)
unfolding literal_on
mirrored n k b v h =
    let e : 2 * n - 1 - (n + v) ≡ n - 1 - v = omega arith in
    rw (lt-ltb v n h, le-ltb (n + v) n (omega arith), e) (both b (bit k (n - 1 - v)))
  where
    both : (b x : Bool) → cond b (not x) (not (not x)) ≡ not (cond b x (not x))
    both true x = refl
    both false x = refl

-- n of the 2n literals have either value on a row
pub half_count : (n k : ℕ) (b : Bool) → count_below (has_value n k b) (2 * n) ≡ n
half_count n k b =
    let e = mirror_count (has_value n k b) n n (mirrored n k b) (omega arith) in
    let f = ap (count_below (has_value n k b)) (let z : 2 * n ≡ n + n = omega arith in z) in
    omega arith

-- the literals' values on row k are the bits of one word, from the highest on: those of k, then their complements
module _ (n k v : ℕ) (l : v < 2 * n) (h : k < 2 ^ n) where
  pub literal_word : bit (k * 2 ^ n + (2 ^ n - 1 - k)) (2 * n - 1 - v) ≡ has_value n k true v
  unfolding literal_on
  literal_word =
      ⊎_elim (λ (low : n ≤ v).
      let i : ℕ = 2 * n - 1 - v in
      rw (le-ltb v n low) (bit_lower k (2 ^ n - 1 - k) n i (omega arith) (omega arith) ∙ bit_complement n k i (omega arith) h))
      (λ (up : v < n).
      let e : 2 * n - 1 - v ≡ n + (n - 1 - v) = omega arith in
      rw (lt-ltb v n up, e) (bit_upper k (2 ^ n - 1 - k) n (n - 1 - v) (omega arith)))
      (le? n v)

  -- and their complements of another: the complements of those of k, then they
  pub literal_word_not : bit ((2 ^ n - 1 - k) * 2 ^ n + k) (2 * n - 1 - v) ≡ has_value n k false v
  unfolding literal_on
  literal_word_not =
      ⊎_elim (λ (low : n ≤ v).
      let i : ℕ = 2 * n - 1 - v in
      rw (le-ltb v n low) (bit_lower (2 ^ n - 1 - k) k n i h (omega arith) ∙ sym (not-not (bit k i))))
      (λ (up : v < n).
      let e : 2 * n - 1 - v ≡ n + (n - 1 - v) = omega arith in
      rw (lt-ltb v n up, e) (bit_upper (2 ^ n - 1 - k) k n (n - 1 - v) h ∙ bit_complement n k (n - 1 - v) (omega arith) h))
      (le? n v)

module _ {A : Type 0} (p : ℕ → Bool) (b : ℕ) (f : ℕ → List A) (h : (v : ℕ) → length (f v) ≡ b) where
  -- a block where the test holds, else nothing
  abbrev pub chosen_block : ℕ → List A
  chosen_block v = cond (p v) (f v) []

  one_length : (t : Bool) (v : ℕ) → length (cond t (f v) []) ≡ cond t 1 0 * b
  one_length true v = h v ∙ sym (one-mul b)
  one_length false v = sym (zero-mul b)

  -- their length: as many as pass the test
  pub chosen_length_lem : (c : ℕ) → length (each c chosen_block) ≡ count_below p c * b
  unfolding each count_below
  chosen_length_lem zero = sym (zero-mul b)
  chosen_length_lem (suc c) =
      length-append (each c chosen_block) (chosen_block c) ∙ ap₂ (λ (x y : ℕ). x + y) (chosen_length_lem c) (one_length (p c) c)
      ∙ sym (add-mul (count_below p c) (cond (p c) 1 0) b)

  -- entry s of the block with the number q
  pub chosen_at_lem : (c q v s : ℕ) (d : A) → NthIs p c q v → s < b → get_or (each c chosen_block) (q * b + s) d ≡ get_or (f v) s d
  chosen_at_lem c q v s d z l =
      let one : chosen_block v ≡ f v = ap (λ (t : Bool). cond t (f v) []) z.holds in
      let room : s < length (chosen_block v) = rw (one, h v) l in
      ap (λ (x : ℕ). get_or (each c chosen_block) (x * b + s) d) z.place
      ∙ ap (λ (x : ℕ). get_or (each c chosen_block) (x + s) d) (sym (chosen_length_lem v))
      ∙ each_index c v s chosen_block d z.low room ∙ ap (λ (x : List A). get_or x s d) one
