-- The terminals below the index that a true X joins to the node are visited. Assumes nothing.
use Rattle.answer.specs.Values.{assigned}
use Rattle.clusters.specs.Search.{Further}
use Rattle.clusters.proofs.Search.visit_neighbours.Given as goal

abbrev pub invariant-loop-neighbour : goal.invariant-loop-neighbour
invariant-loop-neighbour l = Further l.graph.count (assigned l.graph.values) l.start l.node l.initial.self l.self l.neighbour
