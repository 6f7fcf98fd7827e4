-- The clusters whose lowest terminal is below the index are found. Assumes nothing.
use Rattle.answer.specs.Values.{assigned}
use Rattle.clusters.specs.Search.{Labelled}
use Rattle.clusters.proofs.find_labels.Given as goal

abbrev pub invariant-loop-start : goal.invariant-loop-start
invariant-loop-start l = Labelled l.count (assigned l.fn.values) l.start l.search.labels
