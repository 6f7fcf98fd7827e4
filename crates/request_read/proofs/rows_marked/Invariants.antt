-- `request_read::rows_marked` meets its contract. The invariant: the number is that of the bytes that were taken from the end of the run.
-- Assumes nothing.
use Rattle.std.proofs.Common.{◌≡◌, ◌++◌, List, ℕ, length}
use Rattle.request.specs.Line.{marked}
use Rattle.request_read.proofs.rows_marked.Given as goal

abbrev pub invariant-loop-b : goal.invariant-loop-b
invariant-loop-b l = (t : List ℕ) × (l.run ≡ l.b-iterator.iter.rest.now ++ t) × (l.rows ≡ marked l.mark t 0 (length t))
