-- The line's form is that of the numbers from p on; each number ends past p and inside the text, so the rest of the text gets shorter.
-- Assumes nothing.
use mathlib.Core.Path.{◌≡◌}
use Prim.Native.Nat.{◌-◌, ◌<◌}
use lib.ListN.{length}
use Rattle.answer.specs.Lines.{form_from, form_at}
use Rattle.answer_read.proofs.lines.v_form.Given as goal

abbrev pub invariant-loop-at : goal.invariant-loop-at
invariant-loop-at l = record { past : l.at < l.p; left : form_at l.text l.at ≡ form_from (length l.text) l.text l.p }

abbrev pub decreases-loop-at : goal.decreases-loop-at
decreases-loop-at l = length l.text - l.p
