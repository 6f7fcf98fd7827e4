-- Where the clause lies: the store's part or the text's. Assumes nothing.
use Rattle.std.proofs.Common.{◌-◌, sym, ap, ◌∙◌, subst, arith}
use Rattle.added.proofs.RecordLaws.{with_less}
use Rattle.lrat.specs.Bytes.{found_in}
use Rattle.lrat.specs.State.{Spelled}
use Rattle.lrat.proofs.StateLaws.{stands_original, stands_added, clause_below, clause_added}
use Rattle.lrat_check.proofs.ClauseLaws.{original_part, original_below}
use Rattle.lrat_check.proofs.clause.Clauses.evaluate.Goals as goal

pub evaluate_original-requires : goal.evaluate_original-requires
evaluate_original-requires c =
    let s = c.args.self in
    let inside = s.store.originals.inside (c.args.x - 1) (omega (arith, c.requires.named, c.if-x-self.true)) in
    record {
      below = original_below s.store.count s.store.literals.now s.store.pairs.now s.store.text.now s.a s.added.now c.args.x c.requires.named c.if-x-self.true inside _ _ c.requires.long
          (clause_below _ _ _ _ _ _ _ _ s.store.originals s.additions (stands_original _ _ _ _ c.requires.named c.if-x-self.true));
    }

pub returns-then-x-self : goal.returns-then-x-self
returns-then-x-self c =
    let s = c.args.self in
    let inside = s.store.originals.inside (c.args.x - 1) (omega (arith, c.requires.named, c.if-x-self.true)) in (
      stands_original _ _ _ _ c.requires.named c.if-x-self.true,
      c.evaluate_original.ensures
          ∙ ap (found_in c.args.values.stamp.byte c.args.values.bytes.now)
          (original_part s.store.count s.store.literals.now s.store.pairs.now s.store.text.now s.a s.added.now c.args.x c.requires.named c.if-x-self.true inside),
    )

pub returns-in_err-k : goal.returns-in_err-k
returns-in_err-k c = rw c.from_residual.ensures c.in_err-k.ensures

pub offset-requires : goal.offset-requires
offset-requires c = omega (arith, with_less _ _ _ _ c.in_ok-k.ensures.found, c.args.self.additions.room)

pub evaluate_added-requires : goal.evaluate_added-requires
evaluate_added-requires c =
    let s = c.args.self in
    let k = c.in_ok-k.ensures in
    rw c.offset.ensures (subst (Spelled s.store.text.now _) (sym c.requires.long) (s.additions.placed _ (with_less _ _ _ _ k.found) k.long))

pub returns : goal.returns
returns c =
    let s = c.args.self in
    let k = c.in_ok-k.ensures in (
      stands_added _ _ _ _ c.if-x-self.false _ k.found k.long,
      c.evaluate_added.ensures
          ∙ ap (found_in c.args.values.stamp.byte c.args.values.bytes.now)
          (rw c.offset.ensures (clause_added s.store.count s.store.literals.now s.store.pairs.now s.store.text.now s.a s.added.now c.args.x _ c.if-x-self.false k.found)),
    )
