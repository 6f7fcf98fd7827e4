-- What the answer of checking a network means (document 01, "Checking a network"). Assumes nothing.
use Rattle.std.specs.Prelude.{◌≡◌, ◌↔◌, ℕ, ◌^◌, ◌<◌, Some, None, Ok, Err}
use Rattle.refusal.specs.declared.Refusal.{Refusal}
use Rattle.request.specs.Numbers.{Good}
use Rattle.rows.specs.Rows.{row_at}
use Rattle.request.specs.declared.Request.{Request}
use Rattle.network.specs.Networks.{FormedAs, Done, Does}
use Rattle.network.specs.Check.{Checked}
use Rattle.network.specs.Value.{listed}
use Rattle.network.specs.declared.Network.{Network}

-- the request is good, the network has its r switches and the form
pub record Accepted (q : Request) (w : Network) : Type 0 where
  pub good : Good q
  pub size : w.r ≡ q.r
  pub form : FormedAs q.n q.r (listed q.r w)

-- row k is wrong, and every lower row is right
pub record LowestWrong (q : Request) (w : Network) (k : ℕ) : Type 0 where
  pub row : k < 2 ^ q.n
  pub wrong : Done q.r q.m (listed q.r w) (row_at q k) → ⊥
  pub lower : (j : ℕ) → j < k → Done q.r q.m (listed q.r w) (row_at q j)

-- "does" exactly when the network does the job; a row k exactly when k is the lowest wrong row; a refusal exactly when the
-- request, the number of switches or the form is not accepted
pub record Means (q : Request) (w : Network) (x : Checked) : Type 0 where
  pub does : (x ≡ Ok None) ↔ (Accepted q w × Does q (listed q.r w))
  pub wrong : (k : ℕ) → (x ≡ Ok (Some k)) ↔ (Accepted q w × LowestWrong q w k)
  pub refused : ((e : Refusal) × (x ≡ Err e)) ↔ (Accepted q w → ⊥)
