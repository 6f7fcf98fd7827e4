-- What reading an answer is refused with is the number of a refusal, and its result has that number and the network. Assumes nothing.
use Rattle.std.specs.Prelude.{◌≡◌, refl, Bool, true, false, cond, List, ℕ, zero, suc, ◌+◌, ◌≤◌, eqb, leb, length}
use Rattle.std.proofs.Common.{arith, sym}
use Rattle.refusal.specs.Refusal.{number_of, unless}
use Rattle.refusal.specs.Refusal.Laws.{unless-number_of}
use Rattle.request.specs.declared.Request.{Request}
use Rattle.request.proofs.NumbersLaws.{within, refusal_most}
use Rattle.request.specs.Numbers.{refusal_of}
use Rattle.network.specs.declared.Network.{Network}
use Rattle.network.specs.Value.{zeros}
use Rattle.formula.specs.Count.{network_count}
use Rattle.numeral.specs.Number.{byte_at}
use Rattle.answer.specs.Lines.{line_end, stands_at, solution_line, form_at}
use Rattle.answer.specs.Values.{kept, named_from, complete, holding}
use Rattle.answer.specs.Reading.{Line, Lines, Decoded, passed, valued, line_step, lines_from, ended, reading_of, result_of, read_network}

-- the refusal of one of two lines, of what two readings of lines give, and of two readings
line_refusal : (t : Bool) (x y : Line) → (cond t x y).refusal ≡ cond t x.refusal y.refusal
line_refusal true x y = refl
line_refusal false x y = refl

lines_refusal : (t : Bool) (x y : Lines) → (cond t x y).refusal ≡ cond t x.refusal y.refusal
lines_refusal true x y = refl
lines_refusal false x y = refl

read_refusal : (t : Bool) (x y : Decoded) → (cond t x y).refusal ≡ cond t x.refusal y.refusal
read_refusal true x y = refl
read_refusal false x y = refl

module _ (top keep : ℕ) (t : List ℕ) where
  line_most : (p phase : ℕ) (values : List ℕ) → (line_step top keep t p phase values).refusal ≤ 24
  unfolding line_step passed valued
  line_most p phase values =
      simp line_refusal
      (within (eqb (byte_at t p) 99) _ _ 24 (within (eqb (line_end t p) (length t)) 9 0 24 (omega arith) (omega arith))
      (within (eqb phase 0) _ _ 24 (within (stands_at t p solution_line) 0 9 24 (omega arith) (omega arith))
      (within (eqb phase 1) _ 9 24
      (within (eqb (form_at t p).next 0) 9 _ 24 (omega arith)
      (within (named_from (length t) top keep t (p + 1) values).refused 10 0 24 (omega arith) (omega arith)))
      (omega arith))))

  lines_most : (f p phase : ℕ) (values : List ℕ) → (lines_from top keep t f p phase values).refusal ≤ 24
  unfolding lines_from
  lines_most zero p phase values = omega arith
  lines_most (suc f) p phase values =
      simp lines_refusal (within (leb (length t) p) 0 _ 24 (omega arith)
      (within (eqb (line_step top keep t p phase values).refusal 0) _ _ 24 (lines_most f _ _ _) (line_most p phase values)))

ended_most : (q : Request) (l : Lines) → l.refusal ≤ 24 → (ended q l).refusal ≤ 24
unfolding ended
ended_most q l h =
    simp read_refusal
    (within (eqb l.refusal 0) _ _ 24
    (within (eqb l.phase 2) _ 11 24
    (within (complete (kept q.n q.r) l.values) _ 11 24
    (within (holding q (network_count q.n q.r) l.values) 0 12 24 (omega arith) (omega arith)) (omega arith))
    (omega arith)) h)

pub reading_numbered : (q : Request) (t : List ℕ) → (reading_of q t).refusal ≤ 24
unfolding reading_of
reading_numbered q t = simp read_refusal (within (eqb (refusal_of q) 0) _ _ 24 (ended_most q _ (lines_most _ _ t _ _ _ _)) (refusal_most q))

-- the number of a reading's result is the reading's
pub reading_number : (q : Request) (t : List ℕ) → number_of (result_of (reading_of q t)) ≡ (reading_of q t).refusal
reading_number q t = unless-number_of _ _ (reading_numbered q t)

-- a refused reading has the network of zeros
abbrev Zeroed : Decoded → Type 0
Zeroed d = (d.refusal ≡ 0 → ⊥) → d.network ≡ zeros

one_zeroed : (t : Bool) (x y : Decoded) → Zeroed x → Zeroed y → Zeroed (cond t x y)
one_zeroed true x y f g = f
one_zeroed false x y f g = g

ended_zeroed : (q : Request) (l : Lines) → Zeroed (ended q l)
unfolding ended
ended_zeroed q l =
    one_zeroed (eqb l.refusal 0) _ _
    (one_zeroed (eqb l.phase 2) _ _
    (one_zeroed (complete (kept q.n q.r) l.values) _ _
    (one_zeroed (holding q (network_count q.n q.r) l.values) _ _ (λ d. absurd (d refl)) (λ d. refl)) (λ d. refl))
    (λ d. refl)) (λ d. refl)

reading_zeroed : (q : Request) (t : List ℕ) → Zeroed (reading_of q t)
unfolding reading_of
reading_zeroed q t = one_zeroed (eqb (refusal_of q) 0) _ _ (ended_zeroed q _) (λ d. refl)

-- so the network of its result is the reading's too
pub reading_network : (q : Request) (t : List ℕ) → read_network (result_of (reading_of q t)) ≡ (reading_of q t).network
reading_network q t = go (reading_of q t).refusal (reading_of q t).network (reading_zeroed q t)
  where
    go : (k : ℕ) (w : Network) → ((k ≡ 0 → ⊥) → w ≡ zeros) → read_network (unless k w) ≡ w
    go zero w h = refl
    go (suc k) w h = sym (h (λ z. omega arith))
