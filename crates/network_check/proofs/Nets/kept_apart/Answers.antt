-- After s switches the array holds each terminal's part with the closed ones among them merged. Assumes nothing.
use Rattle.network.specs.Check.{shut_at, label_in}
use Rattle.network.proofs.CheckLaws.{apart_of, part_zero, part_open, part_closed}
use mathlib.Core.Path.{◌∙◌}
use Prim.Native.Nat.{◌+◌, ◌*◌}
use native.Mathlib.Omega.{arith}
use Rattle.network_check.proofs.Nets.kept_apart.Goals as goal
use Rattle.network_check.proofs.Nets.kept_apart.Goals.{then-self-s, else-self-s}

pub loop-s-init : goal.loop-s-init
loop-s-init c = λ i h. part_zero _ _ i

pub loop-s-preserved : goal.loop-s-preserved
loop-s-preserved c =
    let l = c.loop-s in
    let a = c.args.self.now in
    let was = l.invariant in
    λ i h.
    elim c.if-self-s.branch [
      | then-self-s w ↦ rw w.parts-is (w.merge-parts.ensures i (omega arith)
          ∙ part_closed (shut_at a.shut) (label_in a.labels) l.s i _ _ _ w.if-self-s.true (was (2 * l.s + 1) (omega arith))
          (was (2 * l.s + 2) (omega arith)) (was i h))
      | else-self-s w ↦ rw w.parts-is (was i h ∙ part_open (shut_at a.shut) (label_in a.labels) l.s i w.if-self-s.false)
    ]

pub returns : goal.returns
returns c =
    let l = c.loop-s in
    let a = c.args.self.now in
    apart_of (shut_at a.shut) (label_in a.labels) a.r l.s _ _ (omega arith) (l.invariant 0 (omega arith)) (l.invariant (2 * a.r + 1) (omega arith))
