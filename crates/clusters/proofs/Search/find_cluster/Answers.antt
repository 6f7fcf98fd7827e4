-- The terminals that have left the queue have all their neighbours visited; at the end all have. Assumes nothing.
use Rattle.answer.specs.Values.{assigned}
use Rattle.network.specs.Value.{terminals_most}
use Rattle.clusters.specs.Search.{Left}
use Rattle.clusters.proofs.SearchLaws.{searching_first, left_none, cluster_labelled, labelled_start}
use Prim.Native.Nat.{ℕ}
use lib.ListN.{length}
use mathlib.Core.Path.{◌≡◌, subst}
use native.Mathlib.Omega.{arith}
use borrow.Author.Rules.{rules}
use Rattle.clusters.proofs.Search.find_cluster.Goals as goal

pub loop-head-init : goal.loop-head-init
loop-head-init c =
    let p = c.requires in
    let few = c.args.graph.now.few in
    let long : length c.args.self.now.queue ≡ terminals_most = search rules in
    let q = searching_first _ _ few _ _ _ long p.labelled in
    rw c.visit.ensures (left_none _ _ few _ _ q p.inside p.new (labelled_start _ _ few _ _ p.labelled p.inside p.new))

pub returns : goal.returns
returns c =
    let p = c.requires in
    let g = c.args.graph.now in
    let l = c.loop-head in
    let w = l.invariant.within in
    let e : l.head ≡ l.self.tail = omega arith in
    cluster_labelled _ _ g.few _ l.self p.inside (labelled_start _ _ g.few _ _ p.labelled p.inside p.new)
    (subst (λ (k : ℕ). Left g.count (assigned g.values) c.args.start l.self k) e l.invariant)
