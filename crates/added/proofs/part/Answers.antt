-- The id is at or below C, has no record, or has one. Assumes nothing.
use Rattle.std.specs.Prelude.{◌≡◌, ℕ, ◌+◌, ◌-◌, ◌≤◌, ◌<◌, [], ◌⊎◌, List, length, take, drop, Option, Some, None, MatchOption, slice_range}
use Rattle.std.specs.Option.{unwrap_or}
use Rattle.std.proofs.Common.{Bor, refl, sym, ap, ◌∙◌, ⊎_elim, arith}
use Rattle.added.specs.Record.{offset_of, length_of}
use Rattle.added.specs.Part.{record_past, record_in, part_low, part_high}
use Rattle.added.proofs.part.Goals as goal

pub returns-then-id-c : goal.returns-then-id-c
returns-then-id-c c = part_low _ _ _ _ _ c.if-id-c.true

pub returns-in_default : goal.returns-in_default
returns-in_default c = part_high _ _ _ _ _ c.if-id-c.false None (sym c.in_default.is ∙ c.first.ensures.first)

-- the part of a text from at on, of length n, where there is one
read : (text : List ℕ) (at n : ℕ) (l : List ℕ) → (length text < at + n → [] ≡ l) → (at + n ≤ length text → take n (drop at text) ≡ l)
    → (o : Option (Bor (List ℕ))) (none : Bor (List ℕ)) → none.now ≡ []
    → MatchOption o ((at + n < at) ⊎ (length text < at + n))
    (λ x. (at ≤ at + n) × (at + n ≤ length text) × (x.now ≡ slice_range text at (at + n)) × (length x.now + at ≡ at + n))
    → (unwrap_or o none).now ≡ l
read text at n l past within None none e m = e ∙ past (⊎_elim (λ (h : at + n < at). absurd (omega arith)) (λ (h : length text < at + n). h) m)
read text at n l past within (Some x) none e m = m.2 ∙ ap (λ (k : ℕ). take k (drop at text)) (let z : at + n - at ≡ n = omega arith in z) ∙ within m.1

pub returns : goal.returns
unfolding offset_of length_of
returns c =
    ap (λ (x : Bor (List ℕ)). x.now) c.unwrap_or.ensures
    ∙ read c.args.text.now _ _ _ (record_past _ _ _ _ _ refl refl) (record_in _ _ _ _ _ refl refl) _ _ refl c.get.ensures.lookup.0
    ∙ part_high _ _ _ _ _ c.if-id-c.false (Some c.in-Some.k) (sym c.in-Some.is ∙ c.first.ensures.first)
