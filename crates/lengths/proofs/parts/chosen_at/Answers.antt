-- `parts::chosen_at` meets its contract. Assumes nothing.
use mathlib.Core.Path.{◌≡◌, ap, ◌∙◌}
use mathlib.Core.Bool.{true, false}
use native.Mathlib.Omega.{arith}
use Rattle.rows.specs.Rows.{literal_on}
use Rattle.rows.proofs.RowsLaws.{literal_there}
use Rattle.lengths.specs.Lines.{literal_length}
use Rattle.lengths.specs.Length.Laws.{chosen_is, chosen_low}
use Rattle.lengths.proofs.parts.chosen_at.Goals as goal

pub literal_length-requires : goal.literal_length-requires
literal_length-requires c =
    let f = c.args.row in
    let low = chosen_low c.args.row.n c.args.row.r (omega (arith, f.few.1)) (omega (arith, f.few.2)) c.args.s c.args.v (omega arith) (omega arith) in
    omega (arith, c.chosen.ensures, low)

pub returns-then-literal_on-value : goal.returns-then-literal_on-value
returns-then-literal_on-value c =
    let on-is : c.literal_on.result ≡ literal_on c.args.row.n c.args.row.k c.args.v = let a = c.args in
    let f = a.row in
    c.literal_on.ensures ∙ literal_there a.row.n a.row.k a.v f.few.0 f.few.1 f.there c.requires.1 in
    let a = c.args in
    (c.literal_length.ensures.0 ∙ ap literal_length c.chosen.ensures ∙ chosen_is a.row.n a.row.r a.row.k a.s a.v a.value _ true on-is c.if-literal_on-value.true, c.literal_length.ensures.1)

pub returns : goal.returns
returns c =
    let on-is : c.literal_on.result ≡ literal_on c.args.row.n c.args.row.k c.args.v = let a = c.args in
    let f = a.row in
    c.literal_on.ensures ∙ literal_there a.row.n a.row.k a.v f.few.0 f.few.1 f.there c.requires.1 in
    let a = c.args in
    (chosen_is a.row.n a.row.r a.row.k a.s a.v a.value _ false on-is c.if-literal_on-value.false, omega arith)
