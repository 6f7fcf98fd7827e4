-- After s switches the array holds each terminal's part with the closed ones among them merged. Assumes nothing.
use Rattle.network.specs.Networks.{terminals}
use Rattle.network.specs.Check.{shut_at, label_in, part}
use mathlib.Core.Path.{◌≡◌}
use Prim.Native.Nat.{ℕ, ◌<◌}
use lib.ListN.{get_or}
use Rattle.network_check.proofs.Nets.kept_apart.Given as goal

abbrev pub invariant-loop-s : goal.invariant-loop-s
invariant-loop-s l = (i : ℕ) → i < terminals l.self.r → get_or l.parts i 0 ≡ part (shut_at l.self.shut) (label_in l.self.labels) l.s i
