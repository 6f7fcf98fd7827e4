-- The clauses that stand, and hints and deletions over them. Assumes nothing.
use Rattle.std.specs.Prelude.{◌≡◌, Bool, true, false, not, cond, List, [], ◌∷◌, ℕ, zero, suc, ◌+◌, ◌-◌, ◌*◌, ◌≤◌, ◌<◌, eqb, leb, ℤ, length, get_or, Some, None}
use Rattle.std.proofs.Common.{Option}
use Rattle.added.specs.Record.{Room, id_of, offset_of, length_of, emptied, first_with}
use Rattle.cnf.specs.Cnf.{Clause, Formula}
use Rattle.numeral.specs.Number.{byte_at, literal_at}
use Rattle.lrat.specs.Rules.{Values, spent, goes_on, hinted}
use Rattle.lrat.specs.Words.{text_limit, plain_at, literals_at, ids_at, run_at}
use Rattle.lrat.specs.Bytes.{last_stamp, values_in, DuringLine, Below, stored_clause}
pub mod Props

-- whether a record that there may be is of a clause that stands: a deleted one's "pair's length becomes 0"
abbrev pub not_deleted : List ℕ → Option ℕ → Bool
not_deleted added None = false
not_deleted added (Some k) = not (eqb (length_of added k) 0)

-- whether clause x stands, of C original clauses and a records: "original clauses stay standing", and above C the record with the id x
-- says; a number between two ids has none
unfoldable pub stands_in : ℕ → ℕ → List ℕ → ℕ → Bool
stands_in C a added x = cond (leb x C) (leb 1 x) (not_deleted added (first_with a added x))

-- record k is that of the id x, and its clause is not deleted
pub record Standing (a : ℕ) (added : List ℕ) (x k : ℕ) : Type 0 where
  pub found : Some k ≡ first_with a added x
  pub long : length_of added k ≡ 0 → ⊥

-- the literals of a clause by its record: those that the text has from the record's offset on
abbrev pub text_clause : List ℕ → List ℕ → Option ℕ → Clause
text_clause t added None = []
text_clause t added (Some k) = literals_at t (offset_of added k - 1)

-- the literals of clause x: the formula's, or those of the record with the id x
unfoldable pub clause_at : Formula → List ℕ → ℕ → List ℕ → ℕ → Clause
clause_at F t a added x = cond (leb x (length F)) (get_or F (x - 1) []) (text_clause t added (first_with a added x))

-- the last id of a records, C before the first
abbrev pub last_id : ℕ → ℕ → List ℕ → ℕ
last_id C zero added = C
last_id C (suc k) added = id_of added k

-- what the hints from p on end in
unfoldable pub hints_of : Formula → List ℕ → ℕ → List ℕ → Values → ℕ → ℕ
hints_of F t a added τ p = hinted (stands_in (length F) a added) (clause_at F t a added) τ (ids_at t p)

-- ---- "Deletion, left to right: 19 if an id doesn't stand; original clauses stay standing. Its pair's length becomes 0"
pub record Deleted : Type 0 where
  pub code : ℕ
  pub added : List ℕ

abbrev pub deleted : ℕ → List ℕ → Deleted
deleted k l = record { code = k; added = l }

abbrev pub emptied_at : List ℕ → Option ℕ → List ℕ
emptied_at added None = added
emptied_at added (Some k) = emptied added k

unfoldable pub without : ℕ → ℕ → List ℕ → ℕ → List ℕ
without C a added x = cond (leb x C) added (emptied_at added (first_with a added x))

unfoldable pub delete_all : ℕ → ℕ → List ℕ → List ℕ → Deleted
delete_all C a added [] = deleted goes_on added
delete_all C a added (x ∷ xs) = cond (stands_in C a added x) (delete_all C a (without C a added x) xs) (deleted 19 added)

-- ---- where clauses lie
-- each of the store's first C pairs is inside, and its variables are below n
pub record OriginalsInStore (C : ℕ) (lits : List ℤ) (pairs : List ℕ) (n : ℕ) : Type 0 where
  pub long : 2 * C ≤ length pairs
  pub inside : (k : ℕ) → k < C → get_or pairs (2 * k) 0 + get_or pairs (2 * k + 1) 0 ≤ length lits
  pub below : (k : ℕ) → k < C → Below n (stored_clause lits pairs k)

-- at the place o of the text starts the first of a run of literals, a space after its 0, the variables below n
pub record Spelled (t : List ℕ) (o n : ℕ) : Type 0 where
  pub first : 1 ≤ o
  pub form : (run_at literal_at t (o - 1)).next ≡ 0 → ⊥
  pub after : byte_at t (run_at literal_at t (o - 1)).next ≡ 32
  pub below : Below n (literals_at t (o - 1))

-- ids rise from C on: record k's is above C, and those from one record to a later one are as many at least as the records
pub record Rising (C a : ℕ) (added : List ℕ) : Type 0 where
  pub above : (k : ℕ) → k < a → C < id_of added k
  pub apart : (j k : ℕ) → j ≤ k → k < a → id_of added j + k ≤ id_of added k + j

-- the records lie in their slice, their ids rise, and each clause that is not deleted lies in the text
pub record AddedInText (C : ℕ) (t : List ℕ) (a : ℕ) (added : List ℕ) (n : ℕ) : Type 0 where
  pub room : Room a added
  pub rising : Rising C a added
  pub placed : (k : ℕ) → k < a → (length_of added k ≡ 0 → ⊥) → Spelled t (offset_of added k) n

-- how many values there may be: V + 1 of them
abbrev pub values_limit : ℕ
values_limit = 65536

-- ---- what a line is checked with: C clauses of the store, a added ones, the line's stamp g, and n values
pub record Ready (C : ℕ) (lits : List ℤ) (pairs t : List ℕ) (a : ℕ) (added : List ℕ) (g n : ℕ) : Type 0 where
  -- the original clauses lie in the store, with variables below n
  pub originals : OriginalsInStore C lits pairs n
  -- the added clauses that are not deleted lie in the text, with variables below n
  pub additions : AddedInText C t a added n
  -- a variable is far below what a literal of the store can hold
  pub values_fit : n ≤ values_limit
  -- a place of the text fits into an entry of a record
  pub text_fits : length t ≤ text_limit
  -- the stamp and the one above it fit into a byte
  pub stamp_fits : g ≤ last_stamp

-- ---- the code after one hint x, and the values that it leaves: "spent" where the hints after it go on under these, else what all
-- of them end in
pub record AfterHint (F : Formula) (t : List ℕ) (a : ℕ) (added : List ℕ) (g x : ℕ) (before : List ℕ) (code : ℕ) (vs : List ℕ)
    : Type 0 where
  pub during : DuringLine g vs
  pub so : (xs : List ℕ) → hinted (stands_in (length F) a added) (clause_at F t a added) (values_in g before) (x ∷ xs)
      ≡ cond (eqb code spent) (hinted (stands_in (length F) a added) (clause_at F t a added) (values_in g vs) xs) code

-- where the run of the hints ends, 0 if it has not the form, and what they end in
pub record Hinted : Type 0 where
  pub next : ℕ
  pub code : ℕ

-- and after all hints from at on: where their run ends, 0 if it has not the form, and what they end in
pub record AfterHints (F : Formula) (t : List ℕ) (at a : ℕ) (added : List ℕ) (g : ℕ) (before : List ℕ) (r : Hinted)
    (vs : List ℕ) : Type 0 where
  pub during : DuringLine g vs
  pub form : r.next ≡ (run_at plain_at t at).next
  pub code : (r.next ≡ 0 → ⊥) → r.code ≡ hints_of F t a added (values_in g before) at
