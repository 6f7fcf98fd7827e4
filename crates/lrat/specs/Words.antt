-- The numbers of a line, and the form of a line. Assumes nothing.
use Rattle.std.specs.Prelude.{cond, List, [], ◌∷◌, map, ℕ, zero, suc, ◌+◌, eqb, length}
use Rattle.cnf.specs.Cnf.{Clause}
use Rattle.cnf.specs.declared.Literal.{Literal}
use Rattle.numeral.specs.Number.{Read, byte_at, number_at, literal_at}
pub mod Laws
pub mod Lines

-- "15 for text above 16,777,215 bytes"
abbrev pub text_limit : ℕ
text_limit = 16777215

-- how a number is read: literal_at with a minus where one stands, plain_at without
abbrev pub Reader : Type 0
Reader = List ℕ → ℕ → Read

abbrev pub plain_at : Reader
plain_at t p = number_at t p 0

-- ---- the numbers of a run
-- from the place p before the first number on, up to a 0 or to what is no number; f of them at most
unfoldable pub words_from : Reader → ℕ → List ℕ → ℕ → List Read
words_from read zero t p = []
words_from read (suc f) t p =
    cond (eqb (read t (p + 1)).value 0) [] (read t (p + 1) ∷ words_from read f t (read t (p + 1)).next)

-- a text has fewer numbers than bytes
unfoldable pub words_at : Reader → List ℕ → ℕ → List Read
words_at read t p = words_from read (length t) t p

-- a literal by its minus and its variable, a number as a literal, and the literals of a run
abbrev pub literal : ℕ → ℕ → Literal
literal m v = record { variable = v; negative = eqb m 1 }

abbrev pub literal_of : Read → Literal
literal_of w = literal w.minus w.value

unfoldable pub literals_at : List ℕ → ℕ → Clause
literals_at t p = map literal_of (words_at literal_at t p)

-- the ids of a run: hints, or what a deletion names
unfoldable pub ids_at : List ℕ → ℕ → List ℕ
ids_at t p = map (λ (w : Read). w.value) (words_at plain_at t p)

-- ---- the form of a run: numbers with a space before each, a 0 last
-- where the last number before the 0 ends, and where the 0 does; 0 and 0 for what has not this form
pub record Run : Type 0 where
  pub end : ℕ
  pub next : ℕ

abbrev pub run : ℕ → ℕ → Run
run end next = record { end = end; next = next }

unfoldable pub run_from : Reader → ℕ → List ℕ → ℕ → Run
run_from read zero t p = run 0 0
run_from read (suc f) t p =
    cond (eqb (byte_at t p) 32)
    (cond (eqb (read t (p + 1)).next 0) (run 0 0)
    (cond (eqb (read t (p + 1)).value 0) (run p (read t (p + 1)).next) (run_from read f t (read t (p + 1)).next)))
    (run 0 0)

unfoldable pub run_at : Reader → List ℕ → ℕ → Run
run_at read t p = run_from read (length t + 1) t p

-- ---- "Lines are \"id literals 0 hints 0\" or \"id d ids 0\", the id of a d line free"
pub data Line : Type 0 where
  -- "16 bad form, an unfinished line and a negative hint or id included"
  no_line : Line
  -- an addition: its id, the place before its literals, where they end, the place before its hints, the next line
  addition : (id at end hints next : ℕ) → Line
  -- a deletion: the place before its ids, the next line
  deletion : (at next : ℕ) → Line

-- a newline has to stand at e, the end of the last run; e is 0 where that has not the form
abbrev pub closed : List ℕ → ℕ → Line → Line
closed t e l = cond (eqb e 0) no_line (cond (eqb (byte_at t e) 10) l no_line)

-- the ids from p on, after the d
unfoldable pub deletion_at : List ℕ → ℕ → Line
deletion_at t p = closed t (run_at plain_at t p).next (deletion p ((run_at plain_at t p).next + 1))

-- the hints, after the literals' run l from p on
unfoldable pub hints_after : List ℕ → ℕ → ℕ → Run → Line
hints_after t id p l =
    cond (eqb l.next 0) no_line
    (closed t (run_at plain_at t l.next).next (addition id p l.end l.next ((run_at plain_at t l.next).next + 1)))

unfoldable pub addition_at : List ℕ → ℕ → ℕ → Line
addition_at t id p = hints_after t id p (run_at literal_at t p)

-- what follows the id w
unfoldable pub line_after : List ℕ → Read → Line
line_after t w =
    cond (eqb w.next 0) no_line
    (cond (eqb (byte_at t w.next) 32)
    (cond (eqb (byte_at t (w.next + 1)) 100) (deletion_at t (w.next + 2)) (addition_at t w.value w.next))
    no_line)

-- the line at p
unfoldable pub line_at : List ℕ → ℕ → Line
line_at t p = line_after t (plain_at t p)
