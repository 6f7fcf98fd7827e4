-- The records of added clauses: "Each added clause's record becomes id, offset, length, three entries" (document 02, U4). This file and
-- its laws alone say where an entry lies. Assumes nothing.
use Rattle.std.specs.Prelude.{Bool, ◌&&◌, cond, List, ℕ, zero, suc, ◌+◌, ◌*◌, ◌≤◌, eqb, leb, length, get_or, set, Some, None}
use Rattle.std.proofs.Common.{Option}

-- the entries of a record
abbrev pub entries : ℕ
entries = 3

-- a slice has room for k records: record k lies wholly inside where there is room for k + 1
abbrev pub Room : ℕ → List ℕ → Type 0
Room k added = entries * k ≤ length added

-- whether it has
unfoldable pub fits : ℕ → List ℕ → Bool
fits k added = leb (entries * k) (length added)

-- record k
unfoldable pub id_of : List ℕ → ℕ → ℕ
id_of added k = get_or added (entries * k) 0

unfoldable pub offset_of : List ℕ → ℕ → ℕ
offset_of added k = get_or added (entries * k + 1) 0

unfoldable pub length_of : List ℕ → ℕ → ℕ
length_of added k = get_or added (entries * k + 2) 0

-- record k written
unfoldable pub recorded : List ℕ → ℕ → ℕ → ℕ → ℕ → List ℕ
recorded added k id offset n = set (set (set added (entries * k) id) (entries * k + 1) offset) (entries * k + 2) n

-- and deleted: "its pair's length becomes 0", its id and its place stay
unfoldable pub emptied : List ℕ → ℕ → List ℕ
emptied added k = set added (entries * k + 2) 0

-- "the first of the a records, wholly inside the slice, with this id": of n records from record k on, and of a records
unfoldable pub first_from : ℕ → List ℕ → ℕ → ℕ → Option ℕ
first_from zero added k id = None
first_from (suc n) added k id = cond (fits (k + 1) added && eqb (id_of added k) id) (Some k) (first_from n added (k + 1) id)

unfoldable pub first_with : ℕ → List ℕ → ℕ → Option ℕ
first_with a added id = first_from a added 0 id
