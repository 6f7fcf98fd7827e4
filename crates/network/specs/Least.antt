-- What "least" means (demand 3). Assumes nothing.
use Rattle.std.specs.Prelude.{◌≡◌, ◌≤◌, ◌<◌}
use Rattle.request.specs.declared.Request.{Request}
use Rattle.network.specs.declared.Network.{Network}
use Rattle.network.specs.Networks.{Net, switches, Formed, Does}
use Rattle.network.specs.Value.{listed}

-- "least" of a request with r = k and a network
pub record LeastFor (q : Request) (w : Network) : Type 0 where
  -- the network has k switches
  pub size : w.r ≡ q.r
  -- it has the form: "a literal for each switch and a label for each terminal", each label "the lowest terminal of its net"
  pub form : Formed q (listed q.r w)
  -- it does the job: "on each on row a walk from the source's net to the sink's net uses at most M closed switches, and on each off
  -- row no walk of closed switches joins them"; of a free row nothing is asked
  pub does : Does q (listed q.r w)
  -- no network with fewer does: "Each other network that demand 3 compares with k may have any number r of switches, past 7 too:
  -- its literals and labels are then lists of r and N entries, and the request's n, table and M stay"; so do its free rows
  pub least : (v : Net) → Formed q v → Does q v → q.r ≤ switches v

-- what no network of r switches says of the others: each network of any number of switches that does the job has more than r
abbrev pub MoreThan : Request → Type 0
MoreThan q = (v : Net) → Formed q v → Does q v → q.r < switches v
