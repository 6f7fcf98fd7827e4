-- After t steps the marks are the terminals within t closed switches of the sink. Assumes nothing.
use Rattle.network.specs.Networks.{terminals}
use Rattle.network.specs.Check.{shut_at, label_in, near}
use mathlib.Core.Path.{◌≡◌}
use mathlib.Core.Bool.{false}
use Prim.Native.Nat.{ℕ, ◌<◌}
use lib.ListN.{get_or}
use Rattle.network_check.proofs.Nets.near_source.Given as goal

abbrev pub invariant-loop : goal.invariant-loop
invariant-loop l =
    (i : ℕ) → i < terminals l.self.r → get_or l.marked i false ≡ near l.self.r (shut_at l.self.shut) (label_in l.self.labels) l.counter i
