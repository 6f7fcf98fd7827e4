-- An assignment as an answer: the s line, and one v line with every variable. Assumes nothing.
use Rattle.std.specs.Prelude.{cond, List, ◌∷◌, ◌++◌, ℕ}
use Rattle.prelude.specs.Lists.{tab}
use Rattle.cnf.specs.Cnf.{Assignment, pos, neg}
use Rattle.cnf.specs.declared.Literal.{Literal}
use Rattle.text.specs.Text.{line_text}
use Rattle.answer.specs.Lines.{solution_line}
pub mod Numerals
pub mod Line
pub mod Values
pub mod Agree
pub mod Laws

-- the literal of a variable that an assignment makes true
abbrev pub truth : Assignment → ℕ → Literal
truth α x = cond (α x) (pos x) (neg x)

-- those of the variables 1 to v
abbrev pub truths : ℕ → Assignment → List Literal
truths v α = tab 1 v (truth α)

-- "s SATISFIABLE", then "v " with the numbers, the 0 included
unfoldable pub answer_text : ℕ → Assignment → List ℕ
answer_text v α = solution_line ++ (118 ∷ 32 ∷ line_text (truths v α))
