-- The remainder by 2^k keeps the k lowest rows, whose ones are counted; past the last row there is none. Assumes nothing.
use mathlib.Core.Path.{◌≡◌, sym, ap, ◌∙◌}
use Prim.Native.Nat.{ℕ, ◌%◌, ◌≤◌, ◌<◌}
use native.Mathlib.Omega.{arith}
use Rattle.prelude.specs.Tests.{le?}
use lib.Pow.{pow_pos}
use lib.Count.{ones}
use Rattle.std.proofs.Common.{⊎_elim}
use Rattle.std.proofs.Math.Nat.{min-eq_left, min-eq_right}
use Rattle.request.specs.Numbers.{rows_most}
use Rattle.rows.specs.Rows.{set_below}
use Rattle.rows.proofs.RowsLaws.{ones_below, set_past, one_shifted}
use Rattle.rows.proofs.rows_below.Goals as goal

pub nonzero_rem-result : goal.nonzero_rem-result
nonzero_rem-result c = rw (one_shifted c.min.result 32 (omega (arith, c.min.ensures))) (pow_pos c.min.result)

pub returns : goal.returns
returns c =
    let a = c.args in
    let m = c.min.result in
    let same : set_below a.rows m ≡ set_below a.rows a.k =
    ⊎_elim (λ (h : a.k ≤ rows_most). ap (set_below a.rows) (c.min.ensures ∙ min-eq_left h))
    (λ (h : rows_most < a.k). ap (set_below a.rows) (c.min.ensures ∙ min-eq_right (omega (arith, h))) ∙ sym (set_past a.rows rows_most a.k c.ranges.rows.fits (omega (arith, h))))
    (le? a.k rows_most)
    in ap (λ (n : ℕ). ones (a.rows % n)) (one_shifted m 32 (omega (arith, c.min.ensures))) ∙ ones_below a.rows m ∙ same
