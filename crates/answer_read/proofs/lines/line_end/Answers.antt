-- The first newline from the place on is where the search finds one; past the text there is none. Assumes nothing.
use Rattle.std.proofs.Common.{◌≡◌, List, ℕ, ◌+◌, ◌-◌, ◌≤◌, ◌<◌, Option, Some, None, length, get_or, drop, length-drop, get_or-drop, sym, ap, ◌∙◌, rules, arith, subst, ⊎_elim}
use Rattle.std.specs.Option.{MatchOption}
use Rattle.std.specs.List.{AllWithin, HoldsAt}
use Rattle.std.proofs.lemmas.Iterator.{YieldsList-from_slice, IsFirst-from_position}
use Rattle.std.proofs.lemmas.Slice.{between_to_end}
use borrow.Author.Tests.{tests}
use Rattle.answer.specs.Lines.{line_end}
use Rattle.answer.specs.Lines.Laws.{line_found, line_rest}
use Rattle.answer_read.proofs.lines.line_end.Goals as goal

module _ (t : List ℕ) (p : ℕ) (inside : p ≤ length t) where
  -- where no newline stands before the index i from p on
  none_from : (i : ℕ) → AllWithin (λ x. x ≡ 10 → ⊥) (drop p t) 0 i → (k : ℕ) → k < p + i → p ≤ k → get_or t k 0 ≡ 10 → ⊥
  none_from i m k l u e =
      let z : k ≡ p + (k - p) = omega arith in
      m (k - p) 0 (omega arith) (omega arith) (get_or-drop p t (k - p) 0 ∙ ap (λ (j : ℕ). get_or t j 0) (sym z) ∙ e)

  ended : (r : Option ℕ) → MatchOption r (AllWithin (λ x. x ≡ 10 → ⊥) (drop p t) 0 (length (drop p t)))
      (λ i. (i < length (drop p t)) × HoldsAt (λ x. x ≡ 10) (drop p t) i × AllWithin (λ x. x ≡ 10 → ⊥) (drop p t) 0 i)
      → MatchOption r (length t ≤ line_end t p) (λ i. (p + i ≡ line_end t p) × (p + i < length t))
  ended None m =
      let n = length-drop p t in
      let z : p + length (drop p t) ≡ length t = omega arith in
      omega (arith, line_rest t p (p + length (drop p t)) (omega arith) (none_from _ m) (omega arith) (omega arith))
  ended (Some i) m =
      let n = length-drop p t in
      let h : p + i < length t = omega (arith, m.0) in
      (line_found t p (p + i) (omega arith) (none_from i m.2) h (sym (get_or-drop p t i 0) ∙ m.1 0), h)

found : (t : List ℕ) (p : ℕ) (r : Option ℕ) → p ≤ length t → {s : Option ℕ} → r ≡ s
    → MatchOption r (AllWithin (λ x. x ≡ 10 → ⊥) (drop p t) 0 (length (drop p t)))
    (λ i. (i < length (drop p t)) × HoldsAt (λ x. x ≡ 10) (drop p t) i × AllWithin (λ x. x ≡ 10 → ⊥) (drop p t) 0 i)
    → MatchOption s (length t ≤ line_end t p) (λ i. (p + i ≡ line_end t p) × (p + i < length t))
found t p r h e m = subst (λ (s : Option ℕ). MatchOption s (length t ≤ line_end t p) (λ i. (p + i ≡ line_end t p) × (p + i < length t))) e (ended t p h r m)

-- past the text no newline follows
past : (t : List ℕ) (p : ℕ) → length t ≤ p → length t ≤ line_end t p
unfolding line_end
past t p h = omega arith

pub returns-in_err-get : goal.returns-in_err-get
returns-in_err-get c =
    rw c.from_residual.ensures
    (⊎_elim (λ (l : length c.args.text.now < c.args.at). past c.args.text.now c.args.at (omega arith))
    (λ (l : length c.args.text.now < length c.args.text.now). absurd (omega arith))
    c.in_err-get.ensures.lookup.0)

pub returns-in_err-count : goal.returns-in_err-count
returns-in_err-count c =
    let h = c.in_ok-get.ensures.lookup.0 in
    let z = h.2 ∙ between_to_end c.args.text.now c.args.at (length c.args.text.now) (omega arith) in
    rw c.from_residual-in_err-count.ensures (found c.args.text.now c.args.at c.position.result h.0 c.in_err-count.was
    (IsFirst-from_position _ _ _ (λ x. x ≡ 10) (λ x. x ≡ 10 → ⊥) c.position.ensures.ran
    (YieldsList-from_slice (drop c.args.at c.args.text.now) (c.iter.ensures.rest ∙ z)) (λ x q k. search (rules, tests)) (λ x q k. search (rules, tests))))

pub returns : goal.returns
returns c =
    let h = c.in_ok-get.ensures.lookup.0 in
    let z = h.2 ∙ between_to_end c.args.text.now c.args.at (length c.args.text.now) (omega arith) in
    let f = found c.args.text.now c.args.at c.position.result h.0 c.in_ok-count.was
    (IsFirst-from_position _ _ _ (λ x. x ≡ 10) (λ x. x ≡ 10 → ⊥) c.position.ensures.ran
    (YieldsList-from_slice (drop c.args.at c.args.text.now) (c.iter.ensures.rest ∙ z)) (λ x q k. search (rules, tests)) (λ x q k. search (rules, tests))) in
    (f.0, omega arith, f.1)
