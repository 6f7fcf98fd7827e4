-- The numbers from p on give what the whole line gives; each ends past p and inside the text, so the rest of the text gets shorter.
-- Assumes nothing.
use Rattle.answer.specs.Values.{named_from}
use mathlib.Core.Path.{◌≡◌}
use Prim.Native.Nat.{ℕ, ◌+◌, ◌-◌, ◌≤◌}
use lib.ListN.{length}
use Rattle.answer_read.proofs.values.Named.take.Given as goal

abbrev pub invariant-loop-p : goal.invariant-loop-p
invariant-loop-p l =
    (f : ℕ) × (length l.text ≤ f + l.p)
    × (named_from f l.self.top l.self.keep l.text l.p l.values ≡ named_from (length l.text) l.self.top l.self.keep l.text l.at l.initial.values)

abbrev pub decreases-loop-p : goal.decreases-loop-p
decreases-loop-p l = length l.text - l.p
