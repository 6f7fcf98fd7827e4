-- The tests that checking a network makes, and its answer. Assumes nothing.
use Rattle.std.specs.Prelude.{Bool, true, false, not, ◌&&◌, ◌||◌, cond, List, [], ◌∷◌, ℕ, zero, suc, ◌+◌, ◌*◌, ◌^◌, eqb, leb, ltb, get_or, Option, Some, None, Result, Ok, Err}
use Rattle.prelude.specs.Lists.{any_from, all_from, first_of}
use Rattle.refusal.specs.Refusal.{number, numbered}
use Rattle.refusal.specs.declared.Refusal.{Refusal}
use Rattle.refusal.specs.declared.Refusal.TheVariants.{NetworkForm}
use Rattle.request.specs.Numbers.{refusal_of}
use Rattle.rows.specs.Rows.{Row, rows_of}
use Rattle.rows.specs.declared.Kind.{Kind}
use Rattle.rows.specs.declared.Kind.TheVariants.{On, Off, Free}
use Rattle.request.specs.declared.Request.{Request}
use Rattle.network.specs.Networks.{terminals, Net, source, sink, switch_of, other, closed_on, label_at}
use Rattle.network.specs.Value.{listed}
use Rattle.network.specs.declared.Network.{Network}

-- what checking a network answers: no row, where it does the job, or the lowest wrong row; or a refusal
abbrev pub Checked : Type 0
Checked = Result (Option ℕ) Refusal

-- document 01's number of an answer, 0 where it is not a refusal
abbrev pub number_of : Checked → ℕ
number_of (Ok None) = 0
number_of (Ok (Some k)) = 0
number_of (Err e) = number e

-- and its values: the lowest wrong row, where there is one
abbrev pub values_of : Checked → List ℕ
values_of (Ok None) = []
values_of (Ok (Some k)) = k ∷ []
values_of (Err e) = []

-- an array's entries by index
abbrev pub shut_at : List Bool → ℕ → Bool
shut_at l s = get_or l s false

abbrev pub label_in : List ℕ → ℕ → ℕ
label_in l i = get_or l i 0

abbrev pub near_in : List Bool → ℕ → Bool
near_in l i = get_or l i false

-- terminal i is on the sink's net
unfoldable pub at_sink : ℕ → (ℕ → ℕ) → ℕ → Bool
at_sink r label i = eqb (label i) (label (sink r))

module _ (r : ℕ) (shut : ℕ → Bool) (label : ℕ → ℕ) where
  -- e is an end of a closed switch on the net of i, and p marks the switch's other end
  abbrev pub leads : (ℕ → Bool) → ℕ → ℕ → Bool
  leads p i e = eqb (label i) (label e) && (shut (switch_of e) && p (other e))

  -- some closed switch leads from the net of i to a terminal that p marks
  unfoldable pub touching : (ℕ → Bool) → ℕ → Bool
  touching p i = any_from 1 (2 * r) (leads p i)

  -- i is marked, or one closed switch away from a terminal that is
  unfoldable pub nearer : (ℕ → Bool) → ℕ → Bool
  nearer p i = p i || touching p i

  -- the sink's net is within t closed switches of the net of i
  unfoldable pub near : ℕ → ℕ → Bool
  near zero i = at_sink r label i
  near (suc t) i = nearer (near t) i

-- x, but p in place of q where the test holds
abbrev pub move : Bool → ℕ → ℕ → ℕ → ℕ
move t p q x = cond (t && eqb x q) p x

module _ (shut : ℕ → Bool) (label : ℕ → ℕ) where
  -- the part of terminal i once the ends of each closed switch among the first s are merged
  unfoldable pub part : ℕ → ℕ → ℕ
  part zero i = label i
  part (suc s) i = move (shut s) (part s (2 * s + 1)) (part s (2 * s + 2)) (part s i)

-- the source and the sink are in different parts
unfoldable pub apart : ℕ → (ℕ → Bool) → (ℕ → ℕ) → Bool
apart r shut label = not (eqb (part shut label r source) (part shut label r (sink r)))

-- a row is right: an on row by search from the sink, an off row by merging, a free row in any case
abbrev pub right_if : Kind → ℕ → ℕ → (ℕ → Bool) → (ℕ → ℕ) → Bool
right_if On r m shut label = near r shut label m source
right_if Off r m shut label = apart r shut label
right_if Free r m shut label = true

abbrev pub row_right : ℕ → ℕ → Net → Row → Bool
row_right r m w row = right_if row.kind r m (closed_on row w) (label_at w)

-- the form: every literal below 2n, every label the lowest terminal of its net
unfoldable pub literals_low : ℕ → ℕ → (ℕ → ℕ) → Bool
literals_low n r literal = all_from 0 r (λ s. ltb (literal s) (2 * n))

unfoldable pub labels_lowest : ℕ → (ℕ → ℕ) → Bool
labels_lowest r label = all_from 0 (terminals r) (λ i. leb (label i) i && eqb (label (label i)) (label i))

-- "13 if its r isn't the request's, or a literal or a label breaks the form"
unfoldable pub fitting : Request → Network → Bool
fitting q w =
    eqb w.r q.r && (literals_low q.n q.r (label_in w.literals) && labels_lowest q.r (label_in w.labels))

-- the first row that is wrong, or the number of rows
unfoldable pub first_wrong : Request → Network → ℕ
first_wrong q w = first_of (λ row. not (row_right q.r q.m (listed q.r w) row)) (rows_of q)

-- "Otherwise \"does\", or the lowest wrong row"
unfoldable pub rows_answer : Request → Network → Option ℕ
rows_answer q w = cond (ltb (first_wrong q w) (2 ^ q.n)) (Some (first_wrong q w)) None

-- checking a network in the documents' numbers: those of the request, then 13; 0 where neither applies
unfoldable pub checked_number : Request → Network → ℕ
checked_number q w = cond (eqb (refusal_of q) 0) (cond (fitting q w) 0 13) (refusal_of q)

-- and values: the lowest wrong row, where there is one and nothing is refused
unfoldable pub checked_values : Request → Network → List ℕ
checked_values q w =
    cond (eqb (refusal_of q) 0) (cond (fitting q w) (cond (ltb (first_wrong q w) (2 ^ q.n)) (first_wrong q w ∷ []) []) []) []

-- the same as an answer of the program
unfoldable pub checked_of : Request → Network → Checked
checked_of q w =
    cond (eqb (refusal_of q) 0) (cond (fitting q w) (Ok (rows_answer q w)) (Err NetworkForm)) (Err (numbered (refusal_of q)))
