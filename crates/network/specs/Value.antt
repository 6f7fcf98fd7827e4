-- Networks as values. Assumes nothing.
use Rattle.std.specs.Prelude.{Bool, ◌&&◌, ℕ, eqb, replicate, take}
use Rattle.prelude.specs.Lists.{equal_lists}
use Rattle.request.specs.Numbers.{switches_most}
use Rattle.network.specs.Networks.{terminals, Net}
use Rattle.network.specs.declared.Network.{Network}
pub mod Laws

-- the most terminals, of a network whose arrays have a literal for each of the most switches and a label for each terminal
abbrev pub terminals_most : ℕ
terminals_most = terminals switches_most

-- the first r literals and 2r + 2 labels of a network: "entries past r literals and N labels are unread"
unfoldable pub listed : ℕ → Network → Net
listed r w = record { literals = take r w.literals; labels = take (terminals r) w.labels }

-- "the network with r = 0 and every entry 0"
abbrev pub zeros : Network
zeros = record { r = 0; literals = replicate switches_most 0; labels = replicate terminals_most 0 }

-- whether two networks are equal
unfoldable pub same_network : Network → Network → Bool
same_network a b = eqb a.r b.r && (equal_lists a.literals b.literals && equal_lists a.labels b.labels)
