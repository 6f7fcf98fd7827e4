-- The word is compared with what is left of the text, byte by byte. Assumes nothing.
use Rattle.std.proofs.Common.{⊎_elim, Bool, false, Option, None, Some, ◌<◌, ◌≤◌, ◌+◌, Bor, rules, ◌≡◌, ◌&&◌, List, [], ◌∷◌, ℕ, refl, sym, ap, ◌∙◌, ap₂, take, length, eqb→eq, arith}
use Rattle.std.proofs.lemmas.Slice.{between_to_end}
use Rattle.std.specs.Prelude.{◌⊎◌}
use Rattle.std.specs.Option.{MatchOption}
use Rattle.std.specs.List.{slice_range}
use Rattle.answer.specs.Lines.Laws.{stands_past}
use lib.Pointwise.{pointwise}
use lib.Dec.{eqb}
use Rattle.prelude.specs.Tests.{tests_eq, eq→eqb}
use Rattle.prelude.specs.Lists.{equal_lists}
use Rattle.answer.specs.Lines.{stands_at, solution_line}
use Rattle.answer_read.proofs.lines.solution_line.Goals as goal

-- the library's test of equality of two lists is the definition's of the second and the first
same_lists : (a b : List ℕ) → pointwise eqb a b ≡ equal_lists b a
unfolding equal_lists
same_lists [] [] = refl
same_lists [] (y ∷ b) = refl
same_lists (x ∷ a) [] = refl
same_lists (x ∷ a) (y ∷ b) =
    ap₂ ◌&&◌ (tests_eq (eqb x y) (eqb y x) (λ t. eq→eqb y x (sym (eqb→eq x y t))) (λ t. eq→eqb x y (sym (eqb→eq y x t)))) (same_lists a b)

-- the test of what is left of the text, where the place is within it; past the text no word stands
at_rest : (t : List ℕ) (p : ℕ) (r : Bool) (o : Option (Bor (List ℕ))) {P : Bor (List ℕ) → Type 0}
    → MatchOption o ((length t < p) ⊎ (length t < length t))
    (λ x. (p ≤ length t) × (length t ≤ length t) × (x.now ≡ slice_range t p (length t)) × (length x.now + p ≡ length t))
    → MatchOption o (r ≡ false) (λ x. P x)
    → ((x : Bor (List ℕ)) → P x → r ≡ pointwise eqb solution_line (take (length solution_line) x.now))
    → r ≡ stands_at t p solution_line
unfolding stands_at
at_rest t p r None h e f =
    ⊎_elim (λ (l : length t < p). e ∙ stands_past t solution_line p (omega arith))
    (λ (l : length t < length t). absurd (omega arith)) h
at_rest t p r (Some x) h e f =
    f x e
    ∙ ap (λ (s : List ℕ). pointwise eqb solution_line (take (length solution_line) s)) (h.2 ∙ between_to_end t p _ (omega arith))
    ∙ same_lists _ _

pub returns : goal.returns
returns c = at_rest c.args.text.now c.args.at c.is_some_and.result c.get.result c.get.ensures.lookup.0 c.is_some_and.ensures (λ x p. search rules)
