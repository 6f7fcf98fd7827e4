-- Each label is tested. Assumes nothing.
use Rattle.std.proofs.Common.{rules, ℕ, ◌∙◌, refl, arith, ◌&&◌}
use borrow.Author.Tests.{tests}
use Rattle.std.proofs.lemmas.Iterator.{YieldsList-from_range}
use Rattle.std.proofs.lemmas.Iterator.Search.{all_from_yields_List}
use Rattle.std.proofs.Math.Dec.{eqb, leb}
use Rattle.network.specs.Networks.{terminals}
use Rattle.network.specs.Check.{label_in, labels_lowest}
use Rattle.prelude.specs.Arrays.{all_range}
use Rattle.network_check.proofs.labels_lowest.Goals as goal

pub returns : goal.returns
unfolding labels_lowest
returns c =
    let label : ℕ → ℕ = label_in c.args.labels in
    let p : ℕ → _ = λ i. leb (label i) i && eqb (label (label i)) (label i) in
    let n : ℕ = terminals c.args.q.request.r in
    all_from_yields_List p _ _ _ c.all.ensures.ran (YieldsList-from_range 0 n n refl (omega arith)) (λ x b q k. search (rules, tests))
    ∙ all_range p n 0
