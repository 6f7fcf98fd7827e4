-- A line, and all lines of a text (document 01, "Checking a refutation"), over any formula. Assumes nothing.
use Rattle.std.specs.Prelude.{Bool, true, false, not, ◌&&◌, cond, List, [], ◌∷◌, ℕ, zero, suc, ◌+◌, ◌-◌, eqb, ltb, length}
use Rattle.added.specs.Record.{fits, recorded}
use Rattle.cnf.specs.Cnf.{Clause, Formula}
use Rattle.lrat.specs.Rules.{unset, falsified, literals_good, conflict, goes_on, says_none}
use Rattle.lrat.specs.Words.{literals_at, ids_at, Line, no_line, addition, deletion, line_at}
use Rattle.lrat.specs.State.{last_id, hints_of, delete_all}

-- what a line leaves: its code, the number of added records, the next line, the added records
pub record Left : Type 0 where
  pub code : ℕ
  pub a : ℕ
  pub next : ℕ
  pub added : List ℕ

abbrev pub left : ℕ → ℕ → ℕ → List ℕ → Left
left code a next added = record { code = code; a = a; next = next; added = added }

abbrev pub stop : ℕ → ℕ → List ℕ → Left
stop code a added = left code a 0 added

abbrev pub is_empty : Clause → Bool
is_empty [] = true
is_empty (l ∷ c) = false

-- record a: the clause's id, and its place "in bytes of the refutation's text from the first literal's first byte to the last literal's
-- last"
abbrev pub pushed : List ℕ → ℕ → ℕ → ℕ → ℕ → List ℕ
pushed added a id at end = recorded added a id (at + 1) (end - (at + 1))

-- a line whose hints ended in k: "The empty clause ends the check with \"none\"", another one is added
unfoldable pub concluded : ℕ → Bool → ℕ → List ℕ → ℕ → ℕ → ℕ → ℕ → Left
concluded k empty a added id at end next =
    cond (eqb k conflict) (cond empty (stop says_none a added) (left goes_on (a + 1) next (pushed added a id at end))) (stop k a added)

-- "17 is now for an id not above C and the last"; "18 literal outside ±V or variable twice; 22 no place for the pair of a non-empty
-- clause; then hints"
unfoldable pub add_step : Formula → List ℕ → ℕ → ℕ → List ℕ → ℕ → ℕ → ℕ → ℕ → ℕ → Left
add_step F t variables a added id at end hints next =
    cond (ltb (last_id (length F) a added) id)
    (cond (literals_good variables (literals_at t at))
    (cond (not (is_empty (literals_at t at)) && not (fits (a + 1) added)) (stop 22 a added)
    (concluded (hints_of F t a added (falsified unset (literals_at t at)) hints) (is_empty (literals_at t at)) a added id at end next))
    (stop 18 a added))
    (stop 17 a added)

-- "Deletion, left to right": what was deleted before an id that does not stand is kept
unfoldable pub delete_step : Formula → List ℕ → ℕ → List ℕ → ℕ → ℕ → Left
delete_step F t a added at next =
    left (delete_all (length F) a added (ids_at t at)).code a next (delete_all (length F) a added (ids_at t at)).added

-- "Per line: 16 bad form" first, of the whole line
unfoldable pub step_of : Formula → List ℕ → ℕ → ℕ → List ℕ → Line → Left
step_of F t variables a added no_line = stop 16 a added
step_of F t variables a added (addition id at end hints next) = add_step F t variables a added id at end hints next
step_of F t variables a added (deletion at next) = delete_step F t a added at next

unfoldable pub line_step : Formula → List ℕ → ℕ → ℕ → List ℕ → ℕ → Left
line_step F t variables a added p = step_of F t variables a added (line_at t p)

-- lines from p on, f of them at most: "text after it is unread. 23 if text ends first"
abbrev pub on_left : Left → (ℕ → List ℕ → ℕ → Left) → Left
on_left l k = cond (eqb l.code goes_on) (k l.a l.added l.next) (stop l.code l.a l.added)

unfoldable pub lines_from : ℕ → Formula → List ℕ → ℕ → ℕ → List ℕ → ℕ → Left
lines_from zero F t variables a added p = stop 23 a added
lines_from (suc f) F t variables a added p =
    cond (ltb p (length t)) (on_left (line_step F t variables a added p)
    (λ b l q. lines_from f F t variables b l q)) (stop 23 a added)

-- a line has a byte at least
unfoldable pub lines_of : Formula → List ℕ → ℕ → List ℕ → Left
lines_of F t variables added = lines_from (length t) F t variables 0 added 0
