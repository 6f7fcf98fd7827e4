-- The clusters whose lowest terminal is below the index are found. Assumes nothing.
use Rattle.clusters.proofs.ChainNets.{labels_past}
use Rattle.clusters.proofs.SearchLaws.{labelled_skip, labelled_all}
use Rattle.answer.specs.Values.{assigned}
use Rattle.prelude.specs.Arrays.{made}
use Rattle.clusters.specs.Search.{label_at, Labelled}
use Rattle.clusters.proofs.find_labels.Goals.{then-is_none, else-is_none}
use Rattle.std.specs.Prelude.{unwrap_or}
use Rattle.std.proofs.Common.{ap, not, rules}
use Prim.Native.Nat.{ℕ}
use mathlib.Core.Path.{◌≡◌, sym, ◌∙◌, subst}
use native.Mathlib.Omega.{arith}
use Rattle.clusters.proofs.find_labels.Goals as goal

pub returns-then-count-gt-TERMINALS : goal.returns-then-count-gt-TERMINALS
returns-then-count-gt-TERMINALS c = sym (labels_past _ _ c.if-count-gt-TERMINALS.true)

pub loop-start-preserved : goal.loop-start-preserved
loop-start-preserved c =
    elim c.if-is_none.branch [
      | then-is_none w ↦ rw w.search-is w.find_cluster.ensures
      | else-is_none w ↦ rw w.search-is (labelled_skip _ _ (omega arith) _ _ c.loop-start.invariant (omega arith) (c.is_none.ensures ∙ ap not w.if-is_none.false))
    ]

pub returns : goal.returns
returns c =
    let a = c.args in
    let s = c.loop-start.search in
    let e : c.loop-start.start ≡ a.count = omega arith in
    labelled_all _ _ (omega arith) s.labels _
    (subst (λ (k : ℕ). Labelled a.count (assigned a.values) k s.labels) e c.loop-start.invariant) c.from_fn.ensures.items.long
    (λ i h. made _ _ (λ i. unwrap_or (label_at s.labels i) 0) _ (λ x y q l z. search rules) _ c.from_fn.ensures.items i 0 h)
