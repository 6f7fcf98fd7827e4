-- Reading an answer, line by line from the top. Assumes nothing.
use Rattle.std.specs.Prelude.{◌≡◌, Result, Ok, Err, cond, List, ℕ, zero, suc, ◌+◌, eqb, leb, length, replicate}
use Rattle.refusal.specs.declared.Refusal.{Refusal}
use Rattle.refusal.specs.Refusal.{number, unless}
use Rattle.request.specs.Numbers.{refusal_of}
use Rattle.request.specs.declared.Request.{Request}
use Rattle.network.specs.declared.Network.{Network}
use Rattle.network.specs.Value.{zeros}
use Rattle.formula.specs.Count.{network_count, values_most, variable_count}
use Rattle.numeral.specs.Number.{byte_at}
use Rattle.answer.specs.Lines.{line_end, stands_at, solution_line, form_at}
use Rattle.answer.specs.Values.{Named, kept, named_from, complete, assigned, holding}
use Rattle.answer.specs.Decode.{decoded}
use Rattle.answer.specs.declared.Phase.{Phase}
use Rattle.answer.specs.declared.Phase.TheVariants.{Before, Naming, After}
use Rattle.answer.specs.declared.Progress.{Progress}

-- what a line gives: the refusal, 0 if none; the phase, 0 before the s line, 1 after it, 2 after the 0; the values; the next line
pub record Line : Type 0 where
  pub refusal : ℕ
  pub phase : ℕ
  pub values : List ℕ
  pub next : ℕ

abbrev pub line : ℕ → ℕ → List ℕ → ℕ → Line
line refusal phase values next = record { refusal = refusal; phase = phase; values = values; next = next }

-- what the lines give
pub record Lines : Type 0 where
  pub refusal : ℕ
  pub phase : ℕ
  pub values : List ℕ

abbrev pub gave : ℕ → ℕ → List ℕ → Lines
gave refusal phase values = record { refusal = refusal; phase = phase; values = values }

module _ (top keep : ℕ) (t : List ℕ) where
  -- "Lines starting with c are passed over"; an unfinished one is 9
  unfoldable pub passed : ℕ → ℕ → List ℕ → Line
  passed p phase values = cond (eqb (line_end t p) (length t)) (line 9 phase values 0) (line 0 phase values (line_end t p + 1))

  -- a v line of the form, with its values: "10 for a variable above V, or an X or L variable named twice"
  unfoldable pub valued : ℕ → List ℕ → Named → Line
  valued p before v =
      cond v.refused (line 10 1 v.values 0) (line 0 (cond (form_at t p).last 2 1) v.values (form_at t p).next)

  -- "One \"s SATISFIABLE\" comes before lines \"v \" with numbers ..; 0 ends the numbers and only c lines follow. 9 for any other
  -- line or an unfinished one, tested before the line's variables"
  unfoldable pub line_step : ℕ → ℕ → List ℕ → Line
  line_step p phase values =
      cond (eqb (byte_at t p) 99) (passed p phase values)
      (cond (eqb phase 0) (cond (stands_at t p solution_line) (line 0 1 values (p + 14)) (line 9 phase values 0))
      (cond (eqb phase 1)
      (cond (eqb (form_at t p).next 0) (line 9 phase values 0) (valued p values (named_from (length t) top keep t (p + 1) values)))
      (line 9 phase values 0)))

  -- "lines from the top": from the place p on, f lines at most
  unfoldable pub lines_from : ℕ → ℕ → ℕ → List ℕ → Lines
  lines_from zero p phase values = gave 0 phase values
  lines_from (suc f) p phase values =
      cond (leb (length t) p) (gave 0 phase values)
      (cond (eqb (line_step p phase values).refusal 0)
      (lines_from f (line_step p phase values).next (line_step p phase values).phase (line_step p phase values).values)
      (gave (line_step p phase values).refusal (line_step p phase values).phase (line_step p phase values).values))

-- a reading: the refusal, 0 where the answer is taken, and the network that it describes
pub record Decoded : Type 0 where
  pub refusal : ℕ
  pub network : Network

-- a refused reading: "the network with r = 0 and every entry 0"
abbrev pub refused_with : ℕ → Decoded
refused_with x = record { refusal = x; network = zeros }

-- "At the end, 11 if the s line, the 0 or any X or L value is missing ..; 12 if clauses of groups 1 and 2 fail"
unfoldable pub ended : Request → Lines → Decoded
ended q l =
    cond (eqb l.refusal 0)
    (cond (eqb l.phase 2)
    (cond (complete (kept q.n q.r) l.values)
    (cond (holding q (network_count q.n q.r) l.values)
    (record { refusal = 0; network = decoded q.n q.r (assigned l.values) })
    (refused_with 12))
    (refused_with 11))
    (refused_with 11))
    (refused_with l.refusal)

-- reading an answer: the refusals of the request, then the lines, then what is missing
unfoldable pub reading_of : Request → List ℕ → Decoded
reading_of q t =
    cond (eqb (refusal_of q) 0)
    (ended q (lines_from (variable_count q) (kept q.n q.r) t (length t) 0 0 (replicate values_most 0)))
    (refused_with (refusal_of q))

-- a reading as a result
abbrev pub result_of : Decoded → Result Network Refusal
result_of d = unless d.refusal d.network

-- and its network: "the network with r = 0 and every entry 0" where it is refused
abbrev pub read_network : Result Network Refusal → Network
read_network (Ok w) = w
read_network (Err e) = zeros

-- the number of a phase
abbrev pub phase_number : Phase → ℕ
phase_number Before = 0
phase_number Naming = 1
phase_number After = 2

-- what a line gives as a result, the place of the next line, and how far the lines have come after it, which does not matter where it
-- is refused
abbrev pub LineBy : Line → Result ℕ Refusal → Progress → Type 0
LineBy l (Ok next) s = l ≡ line 0 (phase_number s.phase) s.values next
LineBy l (Err e) s = l.refusal ≡ number e

-- what the lines give as a result
abbrev pub LinesBy : Lines → Result Progress Refusal → Type 0
LinesBy l (Ok s) = l ≡ gave 0 (phase_number s.phase) s.values
LinesBy l (Err e) = l.refusal ≡ number e
