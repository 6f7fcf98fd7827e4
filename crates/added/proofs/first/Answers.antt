-- The invariant: no record so far has the id. Assumes nothing.
use Rattle.std.proofs.Common.{◌≡◌, ◌<◌, ◌/◌, ◌⊎◌, length, sym, ap, ◌∙◌, inl, inr, arith, min}
use Rattle.prelude.specs.Tests.{eq?}
use Rattle.added.specs.Record.{id_of}
use Rattle.added.proofs.RecordLaws.{with_is, with_none}
use Rattle.added.proofs.first.Goals as goal

pub returns-then-added-k-clause-first : goal.returns-then-added-k-clause-first
unfolding id_of
returns-then-added-k-clause-first c =
    let less : c.loop-k.k < min (length c.args.added.now / 3) c.args.a = omega (arith, c.loop-k-test.true, c.min-k-end.ensures) in
    with_is c.args.added.now c.args.a c.args.id c.loop-k.k
    (record {
      low = omega arith;
      high = omega (arith, less);
      room = omega (arith, less);
      same = c.if-added-k.true;
      first = λ i l. c.loop-k.invariant i;
    })

pub loop-k-preserved : goal.loop-k-preserved
unfolding id_of
loop-k-preserved c j l e = go (eq? j c.loop-k.k)
  where
    go : (j ≡ c.loop-k.k) ⊎ (j ≡ c.loop-k.k → ⊥) → ⊥
    go (inl z) = c.if-added-k.false (ap (id_of c.args.added.now) (sym z) ∙ e)
    go (inr d) = c.loop-k.invariant j (omega arith) e

pub returns-clause-first : goal.returns-clause-first
returns-clause-first c =
    with_none c.args.added.now c.args.a c.args.id
    (λ j l f. c.loop-k.invariant j (omega (arith, f, c.loop-k-test.false, c.min-k-end.ensures)))
