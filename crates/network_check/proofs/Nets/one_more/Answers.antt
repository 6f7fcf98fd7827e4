-- The terminals below the index have their new mark, those from there on the old one. Assumes nothing.
use Rattle.std.proofs.Common.{rules, ◌≡◌, true, false, get_or}
use Rattle.network.specs.Check.{shut_at, label_in, near_in, nearer}
use Rattle.network.proofs.CheckLaws.{nearer_true, nearer_false}
use Rattle.network_check.proofs.Filled.{filled_set, filled_kept}
use Rattle.network_check.proofs.Nets.one_more.Goals as goal
use Rattle.network_check.proofs.Nets.one_more.Goals.{then-not-marked-i+then-touches, else-not-marked-i, else-not-marked-i-via-then-not-marked-i+else-touches, else-not-marked-i-via-else-not-marked-i}

pub loop-i-preserved : goal.loop-i-preserved
unfolding nearer
loop-i-preserved c =
    let l = c.loop-i in
    let a = c.args.self.now in
    let old = c.args.marked.now in
    let shut = shut_at a.shut in
    let label = label_in a.labels in
    let p = near_in old in
    let f = nearer a.r shut label p in
    elim c.if-not-marked-i.branch [
      | then-not-marked-i+then-touches w ↦
          rw w.more-is (filled_set false f old l.more l.i true l.invariant (search rules) (nearer_true a.r shut label p l.i _ w.touches.ensures w.if-touches.true))
      | else-not-marked-i w ↦
          let same : get_or old l.i false ≡ f l.i = elim w.else-not-marked-i.branch [
            | else-not-marked-i-via-then-not-marked-i+else-touches v ↦ nearer_false a.r shut label p l.i _ v.touches.ensures v.if-touches.false
            | else-not-marked-i-via-else-not-marked-i v ↦ rw v.if-not-marked-i.false
          ] in
          rw w.more-is (filled_kept false f old l.more l.i l.invariant same)
    ]
