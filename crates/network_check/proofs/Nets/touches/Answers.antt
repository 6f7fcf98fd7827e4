-- Each end is tested. Assumes nothing.
use Rattle.std.proofs.Common.{rules, ◌*◌, ◌+◌, ◌∙◌, refl, arith}
use borrow.Author.Tests.{tests}
use Rattle.std.proofs.lemmas.Iterator.{YieldsList-from_range}
use Rattle.std.proofs.lemmas.Iterator.Search.{any_from_yields_List}
use Rattle.network.specs.Check.{shut_at, label_in, near_in, leads, touching}
use Rattle.prelude.specs.Arrays.{any_range}
use Rattle.network_check.proofs.Nets.touches.Goals as goal

pub returns : goal.returns
unfolding touching
returns c =
    let a = c.args.self.now in
    let p = leads a.r (shut_at a.shut) (label_in a.labels) (near_in c.args.marked.now) c.args.i in
    any_from_yields_List p _ _ _ c.any.ensures.ran (YieldsList-from_range 1 (2 * a.r + 1) (2 * a.r) refl (omega arith)) (λ x b q k. search (rules, tests))
    ∙ any_range p (2 * a.r) 1
