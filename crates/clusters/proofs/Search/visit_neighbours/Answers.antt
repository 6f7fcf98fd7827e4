-- The terminals below the index that a true X joins to the node are visited. Assumes nothing.
use Rattle.clusters.specs.Search.{visited_at}
use Rattle.clusters.proofs.SearchLaws.{room_left, further_kept, further_more}
use Rattle.prelude.specs.Tests.{T_of}
use mathlib.Core.Path.{sym, ◌∙◌, subst}
use Rattle.std.proofs.Common.{ap, not}
use native.Mathlib.Omega.{arith}
use lib.Dec.{T}
use Rattle.clusters.proofs.Search.visit_neighbours.Goals as goal
use Rattle.clusters.proofs.Search.visit_neighbours.Goals.{then-is_none+then-internal_edge, else-is_none, else-is_none-via-then-is_none+else-internal_edge, else-is_none-via-else-is_none}

pub visit-requires : goal.visit-requires
visit-requires c =
    let few = c.args.graph.now.few in
    let l = c.loop-neighbour in
    let r = room_left _ _ few _ l.self l.invariant.searching l.neighbour (omega arith) (T_of _ (ap not (c.is_none.ensures ∙ ap not c.if-is_none.true))) in
    (omega arith, omega arith)

pub loop-neighbour-preserved : goal.loop-neighbour-preserved
loop-neighbour-preserved c =
    let few = c.args.graph.now.few in
    let s = c.loop-neighbour.self in
    let f = c.loop-neighbour.invariant in
    let j = c.loop-neighbour.neighbour in
    elim c.if-is_none.branch [
      | then-is_none+then-internal_edge w ↦
          rw (w.self-is, w.visit.ensures)
          (further_more _ _ few _ _ _ s j f c.requires.inside c.requires.label (omega arith) (c.is_none.ensures ∙ ap not w.if-is_none.true)
          (sym w.internal_edge.ensures ∙ w.if-internal_edge.true))
      | else-is_none w ↦
          rw w.self-is (further_kept _ _ few _ _ _ s j f (λ x.
          elim w.else-is_none.branch [
            | else-is_none-via-then-is_none+else-internal_edge v ↦ absurd (subst T (sym v.internal_edge.ensures ∙ v.if-internal_edge.false) x)
            | else-is_none-via-else-is_none v ↦ T_of (visited_at s.labels j) (c.is_none.ensures ∙ ap not v.if-is_none.false)
          ]))
    ]
