-- The lines of the switches below the index are added, of 16 bytes at most each. Assumes nothing.
use Rattle.std.proofs.Common.{◌≡◌, ℕ, sym, ap, arith}
use Rattle.prelude.specs.Blocks.{each}
use Rattle.prelude.specs.Blocks.Laws.{each_more}
use Rattle.reports.specs.Texts.Laws.{added_none, added_then, added_as}
use Rattle.reports.specs.Reports.{switch_text}
use Rattle.reports.proofs.buffer.Text.put_switches.Goals as goal

pub loop-s-init : goal.loop-s-init
unfolding each
loop-s-init c = added_none _

pub loop-s-preserved : goal.loop-s-preserved
loop-s-preserved c =
    added_as (sym (each_more c.loop-s.s (switch_text c.args.w))) (omega arith) (added_then c.loop-s.invariant c.put_switch.ensures)

pub returns : goal.returns
returns c =
    let a = c.args in
    let e : c.loop-s.s ≡ a.r = omega arith in
    added_as (ap (λ (s : ℕ). each s (switch_text a.w)) e) (omega arith) c.loop-s.invariant
