-- Networks of any number of switches, walks, and doing the job (document 01, "Networks"). Assumes nothing.
use Rattle.std.specs.Prelude.{◌≡◌, Bool, List, [], ◌∷◌, ℕ, ◌+◌, ◌-◌, ◌*◌, ◌/◌, ◌≤◌, ◌<◌, T, length, get_or}
use Rattle.prelude.specs.Lists.{Each}
use Rattle.rows.specs.Rows.{Row, rows_of}
use Rattle.rows.specs.declared.Kind.{Kind}
use Rattle.rows.specs.declared.Kind.TheVariants.{On, Off, Free}
use Rattle.request.specs.declared.Request.{Request}

-- "There are N = 2r+2 terminals"
abbrev pub terminals : ℕ → ℕ
terminals r = 2 * r + 2

-- "0 is the source, 2r+1 the sink"
abbrev pub source : ℕ
source = 0

abbrev pub sink : ℕ → ℕ
sink r = 2 * r + 1

-- "Switch s has ends 2s+1 and 2s+2; e' is the other end of e's switch": the switch of an end, and e'
abbrev pub switch_of : ℕ → ℕ
switch_of e = (e - 1) / 2

abbrev pub other : ℕ → ℕ
other e = 4 * switch_of e + 3 - e

-- "A network is a literal for each switch and a label for each terminal"; here as lists, of any length
pub record Net : Type 0 where
  pub literals : List ℕ
  pub labels : List ℕ

abbrev pub literal_at : Net → ℕ → ℕ
literal_at w s = get_or w.literals s 0

abbrev pub label_at : Net → ℕ → ℕ
label_at w i = get_or w.labels i 0

-- the number of switches
abbrev pub switches : Net → ℕ
switches w = length w.literals

-- the form of a network of r switches over n inputs: r literals below 2n; a label for each of the 2r+2 terminals, which is "the
-- lowest terminal of its net": a terminal of that net, at or below every terminal of it
pub record FormedAs (n r : ℕ) (w : Net) : Type 0 where
  pub literals_long : length w.literals ≡ r
  pub labels_long : length w.labels ≡ terminals r
  pub literals_low : (s : ℕ) → s < r → literal_at w s < 2 * n
  pub labels_low : (i : ℕ) → i < terminals r → label_at w i ≤ i
  pub labels_own : (i : ℕ) → i < terminals r → label_at w (label_at w i) ≡ label_at w i

-- the form of a network of any number of switches, for a request
abbrev pub Formed : Request → Net → Type 0
Formed q w = FormedAs q.n (switches w) w

-- "A switch is closed on a row when its literal is 1 there"
abbrev pub closed_on : Row → Net → ℕ → Bool
closed_on row w s = row.value (literal_at w s)

-- Walks, over the closed switches and the labels as functions
module _ (r : ℕ) (shut : ℕ → Bool) (label : ℕ → ℕ) where
  -- e is an end of a closed switch: "current passes either way", so either end may be entered
  pub record Enters (e : ℕ) : Type 0 where
    pub low : 1 ≤ e
    pub high : e ≤ 2 * r
    pub closed : T (shut (switch_of e))

  -- a walk from the net of a to the net of b that enters switches at the listed ends, in order
  abbrev pub Walk : ℕ → List ℕ → ℕ → Type 0
  Walk a [] b = label a ≡ label b
  Walk a (e ∷ es) b = (label a ≡ label e) × Enters e × Walk (other e) es b

-- "on each on row a walk from the source's net to the sink's net uses at most M closed switches, and on each off row no walk of
-- closed switches joins them"; on a free row "a network may conduct there or not" (document 02, U1)
abbrev pub DoneIf : Kind → ℕ → ℕ → (ℕ → Bool) → (ℕ → ℕ) → Type 0
DoneIf On r m shut label = (es : List ℕ) × (length es ≤ m) × Walk r shut label source es (sink r)
DoneIf Off r m shut label = (es : List ℕ) → Walk r shut label source es (sink r) → ⊥
DoneIf Free r m shut label = Unit {0}

-- a network of r switches does the job of one row
abbrev pub Done : ℕ → ℕ → Net → Row → Type 0
Done r m w row = DoneIf row.kind r m (closed_on row w) (label_at w)

-- and of each row of a list
abbrev pub DoesAll : ℕ → ℕ → Net → List Row → Type 0
DoesAll r m w rows = Each (Done r m w) rows

-- a network of any number of switches does a request's job: "the request's n, table and M stay", and "A network does the job when its
-- on and off rows are right"
abbrev pub Does : Request → Net → Type 0
Does q w = DoesAll (switches w) q.m w (rows_of q)
