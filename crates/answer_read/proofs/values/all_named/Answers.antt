-- The tests of the first values, one after the other. Assumes nothing.
use Rattle.std.proofs.Common.{◌≡◌, Bool, not, ◌&&◌, List, [], ◌∷◌, ℕ, zero, suc, ◌+◌, ◌≤◌, ◌<◌, length, get_or, take, refl, ap, ◌∙◌, ap₂, rules, arith}
use Rattle.std.specs.List.{list_all}
use Rattle.std.proofs.lemmas.Iterator.{YieldsList-from_slice}
use Rattle.std.proofs.lemmas.Iterator.Search.{all_from_yields_List}
use borrow.Author.Tests.{tests}
use lib.Dec.{eqb}
use Rattle.prelude.specs.Lists.{all_from}
use Rattle.answer.specs.Values.{complete}
use Rattle.answer_read.proofs.values.all_named.Goals as goal

-- a test of the first n elements, as one of the numbers from a on
all_first : (p f : ℕ → Bool) (xs : List ℕ) (n a : ℕ) → n ≤ length xs → ((i : ℕ) → i < n → p (get_or xs i 0) ≡ f (a + i))
    → list_all p (take n xs) ≡ all_from a n f
all_first p f xs zero a h e = refl
all_first p f [] (suc n) a h e = absurd (omega arith)
all_first p f (x ∷ xs) (suc n) a h e =
    ap₂ ◌&&◌ (e 0 (omega arith) ∙ ap f (let z : a + 0 ≡ a = omega arith in z))
    (all_first p f xs n (suc a) (omega arith) (λ i l. e (suc i) (omega arith) ∙ ap f (let z : a + suc i ≡ suc a + i = omega arith in z)))

pub returns : goal.returns
unfolding complete
returns c =
    let p : ℕ → Bool = λ x. not (eqb x 0) in
    all_from_yields_List p _ _ _ c.all.ensures.ran (YieldsList-from_slice (take c.args.keep c.args.values.now) (search rules)) (λ x b q k. search (rules, tests))
    ∙ all_first p (λ i. p (get_or c.args.values.now i 0)) c.args.values.now c.args.keep 0 c.requires (λ i l. ap (λ (k : ℕ). p (get_or c.args.values.now k 0)) (let z : i ≡ 0 + i = omega arith in z))
