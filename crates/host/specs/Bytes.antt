-- A network as bytes, for a host, and back. Assumes nothing.
use Rattle.std.specs.Prelude.{List, ◌∷◌, ◌++◌, ℕ, ◌+◌, get_or}
use Rattle.prelude.specs.Lists.{tab}
use Rattle.request.specs.Numbers.{switches_most}
use Rattle.network.specs.Value.{terminals_most}
use Rattle.network.specs.declared.Network.{Network}
pub mod Laws

-- a network for the host: r, the literals, the labels
abbrev pub network_bytes : Network → List ℕ
network_bytes w = w.r ∷ (w.literals ++ w.labels)

-- the network of such bytes: byte 0 is r, bytes 1 to 7 are the literals, bytes 8 to 23 the labels
abbrev pub network_of : List ℕ → Network
network_of bytes = record { r = get_or bytes 0 0; literals = tab 1 switches_most (λ i. get_or bytes i 0); labels = tab (switches_most + 1) terminals_most (λ i. get_or bytes i 0) }
