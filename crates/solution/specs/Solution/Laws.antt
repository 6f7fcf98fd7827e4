-- An assignment that satisfies a request's clauses, written as an answer, is read back to its network. Assumes nothing.
use Rattle.std.specs.Prelude.{◌≡◌, true, false, List, ◌∷◌, ◌++◌, ℕ, ◌+◌, ◌-◌, ◌≤◌, ◌<◌, length, drop, replicate}
use Rattle.std.proofs.Math.Path.{refl}
use Rattle.std.proofs.Common.{sym, ap, ◌∙◌, arith}
use Rattle.prelude.specs.Lists.{equal_lists, Each}
use Rattle.prelude.specs.Lists.Laws.{length_tab}
use Rattle.cnf.specs.Cnf.{Assignment, Sat}
use Rattle.request.specs.declared.Request.{Request}
use Rattle.request.specs.Numbers.{Good, refusal_of}
use Rattle.request.proofs.NumbersLaws.{refusal_good}
use Rattle.formula.specs.Count.{network_count, values_most, variables_before, variable_count}
use Rattle.formula.specs.Formula.{formula_of}
use Rattle.formula.proofs.FormulaRange.{variables_most_lem}
use Rattle.numeral.specs.Number.{byte_at}
use Rattle.text.specs.Text.{line_text}
use Rattle.answer.specs.Lines.{stands_at, solution_line, formed}
use Rattle.answer.specs.Lines.Laws.{form_first}
use Rattle.answer.specs.Values.{kept, named, named_from, assigned}
use Rattle.answer.proofs.ValuesLaws.{holding_all}
use Rattle.answer.specs.Decode.{decoded}
use Rattle.answer.specs.Reading.{line, gave, line_step, lines_from, ended, reading_of}
use Rattle.answer.proofs.ReadingLaws.{step_solution, step_last, lines_more, lines_end, ended_taken, kept_most}
use Rattle.answer.proofs.ReadingMeaning.{reading_lines}
use Rattle.solution.specs.Solution.{truth, truths, answer_text}
use Rattle.solution.specs.Solution.Numerals.{byte_here, past_one, Short}
use Rattle.solution.specs.Solution.Line.{Spaced, Ended, form_line, line_many}
use Rattle.solution.specs.Solution.Values.{truths_short, values_to, values_none, values_complete, values_agree, values_line}
use Rattle.solution.specs.Solution.Agree.{groups_kept, decoded_same}

-- ---- the lines of the answer of the variables 1 to top, keep of which are kept
module _ (α : Assignment) (top keep : ℕ) (low : top < 1000000000) (small : keep ≤ values_most) (fits : keep ≤ top) where
  -- the answer
  abbrev t : List ℕ
  t = answer_text top α

  -- no values
  abbrev none : List ℕ
  none = replicate values_most 0

  -- the s line stands first
  first : drop 0 t ≡ solution_line ++ (118 ∷ 32 ∷ line_text (truths top α))
  unfolding answer_text
  first = refl

  -- and is found
  solution : true ≡ stands_at t 0 solution_line
  unfolding answer_text stands_at equal_lists
  solution = refl

  -- then the v line
  second : drop 14 t ≡ 118 ∷ 32 ∷ line_text (truths top α)
  unfolding answer_text
  second = refl

  -- with its numbers
  spaced : Spaced t 15 (truths top α)
  spaced = past_one t 14 118 (32 ∷ line_text (truths top α)) second

  -- its variables are short
  short : Each Short (truths top α)
  short = truths_short α 1 top (omega arith) (omega arith)

  -- the text is longer than they are many
  long : 15 + top < length t
  long =
      let n = length_tab 1 top (truth α) in
      let m = line_many t 15 (truths top α) short spaced in
      omega arith

  -- it has the form, with the 0
  end : Ended t 15
  end = form_line t 15 (truths top α) short spaced

  -- what the s line gives
  first_step_lem : line 0 1 none 14 ≡ line_step top keep t 0 0 none
  first_step_lem = step_solution top keep t 0 0 none (λ e. omega (arith, byte_here t 0 115 _ first)) true refl solution refl

  -- what the v line gives
  second_step : line 0 2 (values_to α keep) end.next ≡ line_step top keep t 14 1 none
  second_step =
      let v : byte_at t 14 ≡ 118 = byte_here t 14 118 (32 ∷ line_text (truths top α)) second in
      step_last top keep t 14 1 none (λ e. omega arith) refl (formed end.next true) (sym (form_first t 14 v ∙ end.form))
      (λ e. omega (arith, end.there)) (named false (values_to α keep))
      (values_line α top keep small fits t (length t) 15 (omega (arith, long)) low spaced
      ∙ ap (λ (l : List ℕ). named_from (length t) top keep t 15 l) (sym (values_none α)))
      refl refl

  -- both together
  pub answer_lines : lines_from top keep t (length t) 0 0 none ≡ gave 0 2 (values_to α keep)
  answer_lines =
      lines_more top keep t (length t) 0 0 none (line 0 1 none 14) (omega (arith, long)) (omega (arith, long)) first_step_lem refl
      ∙ lines_more top keep t (length t - 1) 14 1 none (line 0 2 (values_to α keep) end.next) (omega (arith, long))
      (omega (arith, long)) second_step refl
      ∙ sym (lines_end top keep t (length t - 1 - 1) end.next 2 (values_to α keep) end.past)

-- the X and L variables are among all
kept_within : (q : Request) → kept q.n q.r ≤ variable_count q
unfolding variable_count variables_before
kept_within q = omega arith

-- the answer of an assignment that satisfies a request's clauses is taken, and read to the assignment's network
pub solved_read : (q : Request) (α : Assignment) → refusal_of q ≡ 0 → Sat α (formula_of q)
    → reading_of q (answer_text (variable_count q) α) ≡ record { refusal = 0; network = decoded q.n q.r α }
solved_read q α e s =
    reading_lines q (answer_text top α) e
    ∙ ap (ended q)
    (answer_lines α top keep (omega (arith, variables_most_lem q good)) (kept_most q.n q.r good.n_high good.r_high)
    (kept_within q))
    ∙ sym (ended_taken q (gave 0 2 values) refl refl keep true refl (values_complete α keep) refl true
    (holding_all q count values (groups_kept q good (assigned values) α agree s)) refl (decoded q.n q.r α)
    (sym (decoded_same q good (assigned values) α agree)))
  where
    good : Good q
    good = refusal_good q e

    top : ℕ
    top = variable_count q

    keep : ℕ
    keep = kept q.n q.r

    count : ℕ
    count = network_count q.n q.r

    values : List ℕ
    values = values_to α keep

    agree : (x : ℕ) → 1 ≤ x → x ≤ keep → assigned values x ≡ α x
    agree x l h = values_agree α keep x l h
