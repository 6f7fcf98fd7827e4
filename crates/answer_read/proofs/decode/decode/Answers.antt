-- The two arrays are those of the definition, the labels since group 1 holds. Assumes nothing.
use Rattle.answer.specs.Decode.{decoded}
use Rattle.clusters.proofs.ChainNets.{labels_decoded}
use Rattle.answer_read.proofs.decode.decode.Goals as goal

pub returns : goal.returns
unfolding decoded
returns c =
    let q = c.args.good.request in
    rw (← c.decode_literals-literals.ensures, ← (labels_decoded _ _ c.requires q.n c.args.good.good.r_high), ← c.find_labels-labels.ensures)
