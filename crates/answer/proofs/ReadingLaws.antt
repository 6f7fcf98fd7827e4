-- Laws of reading an answer: what each branch of a line gives, and one line after another. Assumes nothing.
use Rattle.std.specs.Prelude.{◌≡◌, Ok, Err, Bool, true, false, List, length, replicate}
use Rattle.std.proofs.Math.Path.{refl, sym, ap}
use Rattle.std.proofs.Common.{◌∙◌}
use Prim.Native.Nat.{ℕ, zero, suc, ◌+◌, ◌-◌, ◌≤◌, ◌<◌}
use native.Mathlib.Omega.{arith}
use borrow.Author.Tests.{eq-eqb, ne_eqb, le-leb, lt-leb}
use Rattle.numeral.specs.Number.{byte_at}
use Rattle.refusal.specs.declared.Refusal.{Refusal}
use Rattle.refusal.specs.Refusal.{number, number_of}
use Rattle.refusal.specs.Refusal.Laws.{unless-number, unless-ok, number_some}
use Rattle.request.specs.Numbers.{inputs_most, switches_most, refusal_of, Good}
use Rattle.request.specs.declared.Request.{Request}
use Rattle.request.proofs.NumbersLaws.{refusal_good}
use Rattle.network.specs.declared.Network.{Network}
use Rattle.formula.specs.Count.{network_count, values_most, variable_count, counts_of, sizes_of}
use Rattle.formula.specs.Formula.{terminals, P}
use Rattle.formula.specs.Formula.Bounds.{pairs_most, chosen_most}
use Rattle.formula.proofs.CountLaws.{sizes_refusal}
use Rattle.formula.specs.declared.Sizes.{Sizes}
use Rattle.answer.specs.Lines.{line_end, stands_at, solution_line, form_at}
use Rattle.answer.specs.Values.{Named, kept, named_from, complete, assigned, holding}
use Rattle.answer.specs.Decode.{decoded}
use Rattle.answer.specs.Reading.{Line, Lines, result_of, phase_number, LinesBy, line, gave, passed, valued, line_step, lines_from, refused_with, ended, reading_of}
use Rattle.answer.specs.declared.Form.{Form}
use Rattle.answer.specs.declared.Progress.{Progress}

module _ (top keep : ℕ) (t : List ℕ) (p phase : ℕ) (values : List ℕ) where
  -- a c line without its newline
  pub step_unfinished : (e : ℕ) → byte_at t p ≡ 99 → e ≡ line_end t p → e ≡ length t → line 9 phase values 0 ≡ line_step top keep t p phase values
  unfolding line_step passed
  step_unfinished e c f g = rw (eq-eqb (byte_at t p) 99 c, eq-eqb (line_end t p) (length t) (sym f ∙ g))

  -- a c line
  pub step_passed : (e : ℕ) → byte_at t p ≡ 99 → e ≡ line_end t p → (e ≡ length t → ⊥) → line 0 phase values (e + 1) ≡ line_step top keep t p phase values
  unfolding line_step passed
  step_passed e c f g = rw (eq-eqb (byte_at t p) 99 c, ne_eqb (line_end t p) (length t) (λ z. g (f ∙ z)), f)

  module _ (c : byte_at t p ≡ 99 → ⊥) where
    -- the s line, or another where it has to stand
    pub step_solution : (b : Bool) → phase ≡ 0 → b ≡ stands_at t p solution_line → b ≡ true → line 0 1 values (p + 14) ≡ line_step top keep t p phase values
    unfolding line_step
    step_solution b z e f = rw (ne_eqb (byte_at t p) 99 c, eq-eqb phase 0 z, sym e ∙ f)

    pub step_other : (b : Bool) → phase ≡ 0 → b ≡ stands_at t p solution_line → b ≡ false → line 9 phase values 0 ≡ line_step top keep t p phase values
    unfolding line_step
    step_other b z e f = rw (ne_eqb (byte_at t p) 99 c, eq-eqb phase 0 z, sym e ∙ f)

    -- a line after the 0
    pub step_late : (phase ≡ 0 → ⊥) → (phase ≡ 1 → ⊥) → line 9 phase values 0 ≡ line_step top keep t p phase values
    unfolding line_step
    step_late d e = rw (ne_eqb (byte_at t p) 99 c, ne_eqb phase 0 d, ne_eqb phase 1 e)

    module _ (one : phase ≡ 1) (f : Form) (formed : f ≡ form_at t p) where
      not_zero : phase ≡ 0 → ⊥
      not_zero z = omega arith

      -- a line that is no v line of the form
      pub step_unformed : f.next ≡ 0 → line 9 phase values 0 ≡ line_step top keep t p phase values
      unfolding line_step
      step_unformed z =
          rw (ne_eqb (byte_at t p) 99 c, ne_eqb phase 0 not_zero, eq-eqb phase 1 one, ← formed, eq-eqb f.next 0 z)

      module _ (next : f.next ≡ 0 → ⊥) (v : Named) (named : v ≡ named_from (length t) top keep t (p + 1) values) where
        -- a v line: its values are looked at
        is_valued : line_step top keep t p phase values ≡ valued top keep t p values v
        unfolding line_step
        is_valued =
            rw (ne_eqb (byte_at t p) 99 c, ne_eqb phase 0 not_zero, eq-eqb phase 1 one, ← formed, ne_eqb f.next 0 next, ← named)

        pub step_refused : v.refused ≡ true → line 10 phase v.values 0 ≡ line_step top keep t p phase values
        unfolding valued
        step_refused e = ap (λ (x : ℕ). line 10 x v.values 0) one ∙ sym (is_valued ∙ rw e)

        pub step_last : v.refused ≡ false → f.last ≡ true → line 0 2 v.values f.next ≡ line_step top keep t p phase values
        unfolding valued
        step_last e l = sym (is_valued ∙ rw (e, ← formed, l))

        pub step_more : v.refused ≡ false → f.last ≡ false → line 0 1 v.values f.next ≡ line_step top keep t p phase values
        unfolding valued
        step_more e l = sym (is_valued ∙ rw (e, ← formed, l))

module _ (top keep : ℕ) (t : List ℕ) where
  -- the text has ended
  pub lines_end : (f p phase : ℕ) (values : List ℕ) → length t ≤ p → gave 0 phase values ≡ lines_from top keep t f p phase values
  unfolding lines_from
  lines_end zero p phase values h = refl
  lines_end (suc f) p phase values h = rw (le-leb (length t) p h)

  -- as many lines as the text has bytes are read
  pub lines_spent : (f p phase : ℕ) (values : List ℕ) → f ≡ 0 → gave 0 phase values ≡ lines_from top keep t f p phase values
  unfolding lines_from
  lines_spent zero p phase values h = refl
  lines_spent (suc f) p phase values h = absurd (omega arith)

  -- a line that is refused
  pub lines_refused : (f p phase : ℕ) (values : List ℕ) (l : Line) → 0 < f → p < length t → l ≡ line_step top keep t p phase values → (l.refusal ≡ 0 → ⊥)
      → gave l.refusal l.phase l.values ≡ lines_from top keep t f p phase values
  unfolding lines_from
  lines_refused zero p phase values l h k e d = absurd (omega arith)
  lines_refused (suc f) p phase values l h k e d = rw (lt-leb (length t) p k, ← e, ne_eqb l.refusal 0 d)

  -- a line that is taken
  pub lines_more : (f p phase : ℕ) (values : List ℕ) (l : Line) → 0 < f → p < length t → l ≡ line_step top keep t p phase values → l.refusal ≡ 0
      → lines_from top keep t f p phase values ≡ lines_from top keep t (f - 1) l.next l.phase l.values
  unfolding lines_from
  lines_more zero p phase values l h k e d = absurd (omega arith)
  lines_more (suc f) p phase values l h k e d =
      rw (lt-leb (length t) p k, ← e, eq-eqb l.refusal 0 d)
      (ap (λ (g : ℕ). lines_from top keep t g l.next l.phase l.values) (let z : f ≡ suc f - 1 = omega arith in z))

module _ (q : Request) (l : Lines) where
  -- the lines' refusal
  pub ended_refused : (l.refusal ≡ 0 → ⊥) → refused_with l.refusal ≡ ended q l
  unfolding ended
  ended_refused d = rw (ne_eqb l.refusal 0 d)

  module _ (zero : l.refusal ≡ 0) where
    -- the s line or the 0 is missing
    pub ended_phase : (l.phase ≡ 2 → ⊥) → refused_with 11 ≡ ended q l
    unfolding ended
    ended_phase d = rw (eq-eqb l.refusal 0 zero, ne_eqb l.phase 2 d)

    module _ (two : l.phase ≡ 2) (keep : ℕ) (b : Bool) (k : keep ≡ kept q.n q.r) (named : b ≡ complete keep l.values) where
      all : complete (kept q.n q.r) l.values ≡ b
      all = ap (λ (x : ℕ). complete x l.values) (sym k) ∙ sym named

      -- a value is missing
      pub ended_missing : b ≡ false → refused_with 11 ≡ ended q l
      unfolding ended
      ended_missing e = rw (eq-eqb l.refusal 0 zero, eq-eqb l.phase 2 two, all ∙ e)

      module _ (e : b ≡ true) (h : Bool) (held : h ≡ holding q (network_count q.n q.r) l.values) where
        -- a clause of groups 1 and 2 fails
        pub ended_fails : h ≡ false → refused_with 12 ≡ ended q l
        unfolding ended
        ended_fails f = rw (eq-eqb l.refusal 0 zero, eq-eqb l.phase 2 two, all ∙ e, sym held ∙ f)

        -- the network
        pub ended_taken : h ≡ true → (w : Network) → w ≡ decoded q.n q.r (assigned l.values) → record { refusal = 0; network = w } ≡ ended q l
        unfolding ended
        ended_taken f w g = rw (eq-eqb l.refusal 0 zero, eq-eqb l.phase 2 two, all ∙ e, sym held ∙ f, g)

-- a request's X and L variables are few
pub kept_most : (n r : ℕ) → n ≤ inputs_most → r ≤ switches_most → kept n r ≤ values_most
unfolding P
kept_most n r hn hr = omega (arith, pairs_most (terminals r) (omega arith), chosen_most n r hn hr)

-- a refused reading as a result
refused_result : (e : Refusal) {x : ℕ} → x ≡ number e → Err e ≡ result_of (refused_with x)
refused_result e h = rw h (sym (unless-number e _))

-- lines that are refused
pub result_lines : (q : Request) (l : Lines) (e : Refusal) → l.refusal ≡ number e → Err e ≡ result_of (ended q l)
result_lines q l e h =
    refused_result e h ∙ ap result_of (ended_refused q l (λ z. number_some e (sym h ∙ z)))

module _ (q : Request) (t : List ℕ) where
  -- a refused request
  pub result_refused : (e : Refusal) → number e ≡ refusal_of q → Err e ≡ result_of (reading_of q t)
  unfolding reading_of
  result_refused e h = rw (ne_eqb (refusal_of q) 0 (λ z. number_some e (h ∙ z))) (refused_result e (sym h))

  module _ (taken : refusal_of q ≡ 0) (keep : ℕ) (k : keep ≡ kept q.n q.r) where
    -- a request that is read
    pub reading_taken : (top : ℕ) → top ≡ variable_count q → ended q (lines_from top keep t (length t) 0 0 (replicate values_most 0)) ≡ reading_of q t
    unfolding reading_of
    reading_taken top e = rw (eq-eqb (refusal_of q) 0 taken, k, e)

-- what is kept of a good request
pub good_most : (q : Request) (keep : ℕ) → Good q → keep ≡ kept q.n q.r → keep ≤ values_most
good_most q keep g k = omega (arith, k, kept_most q.n q.r g.n_high g.r_high)

-- the sizes of a request that is taken
pub sizes_top : (q : Request) (x : Sizes) → Ok x ≡ sizes_of q → (refusal_of q ≡ 0) × (x.variables ≡ variable_count q)
unfolding sizes_of
sizes_top q x e = let u = unless-ok (refusal_of q) (counts_of q) x (sym e) in (u.0, sym (ap (λ (y : Sizes). y.variables) u.1))

-- a refused request, and one that is taken, by what counting answers
pub reading_refused : (q : Request) (t : List ℕ) (e : Refusal) → Err e ≡ sizes_of q → refused_with (number e) ≡ reading_of q t
unfolding reading_of
reading_refused q t e h =
    let n : number e ≡ refusal_of q = ap (number_of {A = Sizes}) h ∙ sizes_refusal q in
    rw (n, ne_eqb (refusal_of q) 0 (λ z. number_some e (n ∙ z)))

pub reading_good : (q : Request) (x : Sizes) → Ok x ≡ sizes_of q → Good q
reading_good q x e = refusal_good q (sizes_top q x e).0

pub reading_most : (q : Request) (x : Sizes) → Ok x ≡ sizes_of q → (keep : ℕ) → keep ≡ kept q.n q.r → keep ≤ values_most
reading_most q x e keep = good_most q keep (reading_good q x e)

-- ---- the lines, one after another: what is left of them from a place on gives the whole
module _ (top keep : ℕ) (t : List ℕ) where
  abbrev pub Left : Lines → ℕ → Progress → Type 0
  Left whole at s = (f : ℕ) × (length t ≤ f + at) × (lines_from top keep t f at (phase_number s.phase) s.values ≡ whole)

  -- nothing is left
  pub left_none : {whole : Lines} (at : ℕ) (s : Progress) → length t ≤ at → Left whole at s → LinesBy whole (Ok s)
  left_none at s h (f, _, e) = sym e ∙ sym (lines_end top keep t f at (phase_number s.phase) s.values h)

  module _ {whole : Lines} (at : ℕ) (s : Progress) (inside : at < length t) (left : Left whole at s) where
    -- the line is refused
    pub left_refused : (e : Refusal) → (line_step top keep t at (phase_number s.phase) s.values).refusal ≡ number e → LinesBy whole (Err e)
    left_refused e h =
        let l : Line = line_step top keep t at (phase_number s.phase) s.values in
        ap (λ (x : Lines). x.refusal) (sym left.2 ∙ sym (lines_refused top keep t left.0 at (phase_number s.phase) s.values l (omega (arith, left.1)) inside refl (λ z. number_some e (sym h ∙ z)))) ∙ h

    -- or taken, and the next is further on
    pub left_more : (next : ℕ) (after : Progress) → at < next
        → line_step top keep t at (phase_number s.phase) s.values ≡ line 0 (phase_number after.phase) after.values next → Left whole next after
    left_more next after past h = (
      left.0 - 1,
      omega (arith, left.1),
      sym (ap (λ (x : Line). lines_from top keep t (left.0 - 1) x.next x.phase x.values) h)
          ∙ sym (lines_more top keep t left.0 at (phase_number s.phase) s.values _ (omega (arith, left.1)) inside refl (ap (λ (x : Line). x.refusal) h)) ∙ left.2,
    )
