-- The lines of an answer: where one ends, the s line, and the form of a v line. Assumes nothing.
use Rattle.std.specs.Prelude.{Bool, false, cond, Option, Some, None, List, [], ◌∷◌, ℕ, zero, suc, ◌+◌, eqb, length, take, drop}
use Rattle.prelude.specs.Lists.{equal_lists, first_of}
use Rattle.numeral.specs.Number.{byte_at, literal_at}
use Rattle.answer.specs.declared.Form.{Form}
pub mod Laws

-- the place of the first newline from p on, or the text's end
unfoldable pub line_end : List ℕ → ℕ → ℕ
line_end t p = p + first_of (eqb 10) (drop p t)

-- whether the bytes w stand in the text from p on
unfoldable pub stands_at : List ℕ → ℕ → List ℕ → Bool
stands_at t p w = equal_lists (take (length w) (drop p t)) w

-- "s SATISFIABLE" and the newline
abbrev pub solution_line : List ℕ
solution_line = 115 ∷ 32 ∷ 83 ∷ 65 ∷ 84 ∷ 73 ∷ 83 ∷ 70 ∷ 73 ∷ 65 ∷ 66 ∷ 76 ∷ 69 ∷ 10 ∷ []

-- the form of a v line: the place after its newline, and whether its last number is 0; next is 0 where it has not the form
abbrev pub formed : ℕ → Bool → Form
formed next last = record { next = next; last = last }

abbrev pub no_form : Form
no_form = formed 0 false

-- the same with nothing where it has not the form
abbrev pub some_form : Form → Option Form
some_form f = cond (eqb f.next 0) None (Some f)

-- "lines \"v \" with numbers, at least one on each, the 0 included; 0 ends the numbers": a space before each number, a newline
-- after the last, a 0 only last; from the place p before a number, f numbers at most
unfoldable pub form_from : ℕ → List ℕ → ℕ → Form
form_from zero t p = no_form
form_from (suc f) t p =
    cond (eqb (byte_at t p) 32)
    (cond (eqb (literal_at t (p + 1)).next 0) no_form
    (cond (eqb (byte_at t (literal_at t (p + 1)).next) 10)
    (formed ((literal_at t (p + 1)).next + 1) (eqb (literal_at t (p + 1)).value 0))
    (cond (eqb (literal_at t (p + 1)).value 0) no_form (form_from f t (literal_at t (p + 1)).next))))
    no_form

-- the form of the line at p
unfoldable pub form_at : List ℕ → ℕ → Form
form_at t p = cond (eqb (byte_at t p) 118) (form_from (length t) t (p + 1)) no_form
