-- Laws of walks, and of doing the job for another number of switches. Assumes nothing.
use Rattle.std.specs.Prelude.{◌≡◌, Bool, List, [], ◌∷◌, ◌++◌, ◌↔◌, ℕ}
use Rattle.std.proofs.Common.{sym, ◌∙◌, subst}
use Rattle.request.specs.declared.Request.{Request}
use Rattle.request.specs.Numbers.{with_switches}
use Rattle.rows.proofs.RowsLaws.{rows_with}
use Rattle.network.specs.Networks.{Net, other, switches, Walk, DoesAll, Does}

module _ (r : ℕ) (shut : ℕ → Bool) (label : ℕ → ℕ) where
  -- a walk may start anywhere on the net
  pub walk_from : {a b : ℕ} (es : List ℕ) (c : ℕ) → label a ≡ label b → Walk r shut label b es c → Walk r shut label a es c
  walk_from [] c p w = p ∙ w
  walk_from (e ∷ es) c p w = (p ∙ w.0, w.1, w.2)

  -- one walk after another
  pub walk_append : (a : ℕ) (es : List ℕ) (b : ℕ) (fs : List ℕ) (c : ℕ) → Walk r shut label a es b → Walk r shut label b fs c
      → Walk r shut label a (es ++ fs) c
  walk_append a [] b fs c w v = walk_from fs c w v
  walk_append a (e ∷ es) b fs c w v = (w.0, w.1, walk_append (other e) es b fs c w.2 v)

-- a request for another number of switches asks the same of a network
pub does_with : (q : Request) (r : ℕ) (w : Net) → Does (with_switches q r) w ↔ Does q w
does_with q r w = (
  subst (DoesAll (switches w) q.m w) (rows_with q r),
  subst (DoesAll (switches w) q.m w) (sym (rows_with q r)),
)
