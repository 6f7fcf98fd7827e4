-- Each literal is tested. Assumes nothing.
use Rattle.std.proofs.Common.{rules, ℕ, ◌*◌, ◌∙◌, refl, arith}
use borrow.Author.Tests.{tests}
use Rattle.std.proofs.lemmas.Iterator.{YieldsList-from_range}
use Rattle.std.proofs.lemmas.Iterator.Search.{all_from_yields_List}
use Rattle.std.proofs.Math.Dec.{ltb}
use Rattle.network.specs.Check.{label_in, literals_low}
use Rattle.prelude.specs.Arrays.{all_range}
use Rattle.network_check.proofs.literals_low.Goals as goal

pub returns : goal.returns
unfolding literals_low
returns c =
    let p : ℕ → _ = λ s. ltb (label_in c.args.literals s) (2 * c.args.q.request.n) in
    all_from_yields_List p _ _ _ c.all.ensures.ran (YieldsList-from_range 0 c.args.q.request.r c.args.q.request.r refl (omega arith)) (λ x b q k. search (rules, tests))
    ∙ all_range p c.args.q.request.r 0
