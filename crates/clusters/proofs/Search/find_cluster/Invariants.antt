-- The terminals that have left the queue have all their neighbours visited; at the end all have. Assumes nothing.
use Rattle.answer.specs.Values.{assigned}
use Rattle.clusters.specs.Search.{Left}
use Prim.Native.Nat.{◌-◌}
use Rattle.clusters.proofs.Search.find_cluster.Given as goal

abbrev pub invariant-loop-head : goal.invariant-loop-head
invariant-loop-head l = Left l.graph.count (assigned l.graph.values) l.start l.self l.head

abbrev pub decreases-loop-head : goal.decreases-loop-head
decreases-loop-head l = l.graph.count - l.head
