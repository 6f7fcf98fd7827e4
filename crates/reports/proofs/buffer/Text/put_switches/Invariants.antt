-- The lines of the switches below the index are added, of 16 bytes at most each. Assumes nothing.
use Rattle.std.proofs.Common.{◌*◌}
use Rattle.prelude.specs.Blocks.{each}
use Rattle.reports.specs.Texts.{Added}
use Rattle.reports.specs.Reports.{switch_text}
use Rattle.reports.proofs.buffer.Text.put_switches.Given as goal

abbrev pub invariant-loop-s : goal.invariant-loop-s
invariant-loop-s l = Added l.initial.self (each l.s (switch_text l.w)) (l.s * 16) l.self
