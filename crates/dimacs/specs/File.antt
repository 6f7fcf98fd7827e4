-- The clause file as a list of bytes, and what its size and writing it answer. Assumes nothing.
use Rattle.std.specs.Prelude.{◌≡◌, cond, Result, Ok, Err, List, [], ◌∷◌, ◌++◌, ℕ, eqb, ltb, length}
use Rattle.prelude.specs.Written.{written}
use Rattle.cnf.specs.Cnf.{Formula}
use Rattle.refusal.specs.declared.Refusal.{Refusal}
use Rattle.refusal.specs.Refusal.{number, unless}
use Rattle.request.specs.Numbers.{Good, refusal_of}
use Rattle.request.specs.declared.Request.{Request}
use Rattle.formula.specs.Formula.{formula_of}
use Rattle.formula.specs.Count.{variable_count, clause_count}
use Rattle.formula.specs.declared.Sizes.{Sizes}
use Rattle.text.specs.Decimal.{decimal}
use Rattle.text.specs.Text.{line_text}
pub mod Answering

-- the length of the file in bytes, or the refusal
abbrev pub Answer : Type 0
Answer = Result ℕ Refusal

-- document 01's number of an answer, 0 where it is a length
abbrev pub number_of : Answer → ℕ
number_of (Ok k) = 0
number_of (Err x) = number x

-- and its values, the length where it is one
abbrev pub values_of : Answer → List ℕ
values_of (Ok k) = k ∷ []
values_of (Err x) = []

-- a request that is not refused, and its sizes
pub record Counted (q : Request) (x : Sizes) : Type 0 where
  pub good : Good q
  pub variables_are : x.variables ≡ variable_count q
  pub clauses_are : x.clauses ≡ clause_count q

-- "p cnf V C" and the newline
unfoldable pub head_text : ℕ → ℕ → List ℕ
head_text v c = 112 ∷ 32 ∷ 99 ∷ 110 ∷ 102 ∷ 32 ∷ (decimal v ++ (32 ∷ (decimal c ++ (10 ∷ []))))

-- "then a line per clause"
unfoldable pub body_text : Formula → List ℕ
body_text [] = []
body_text (c ∷ f) = line_text c ++ body_text f

-- the file of a request
unfoldable pub file_text : Request → List ℕ
file_text q = head_text (variable_count q) (length (formula_of q)) ++ body_text (formula_of q)

-- an answer by its number and the length
abbrev pub answer_by : ℕ → ℕ → Answer
answer_by k size = unless k size

-- "Size of file: only 2 to 5", and since document 02 24: its number is that of the test of numbers. "The size of file becomes exactly the
-- length that writing returns" (document 02, U2)
unfoldable pub size_values : Request → List ℕ
size_values q = cond (eqb (refusal_of q) 0) (length (file_text q) ∷ []) []

-- the answer of the size
unfoldable pub size_answer : Request → Answer
size_answer q = answer_by (refusal_of q) (length (file_text q))

-- "Writing the file: 6 if the buffer is shorter than the file", after the refusals of the request; 0 where it is written
unfoldable pub write_number : Request → ℕ → ℕ
write_number q room = cond (eqb (refusal_of q) 0) (cond (ltb room (length (file_text q))) 6 0) (refusal_of q)

-- "The result is the length"
unfoldable pub write_values : Request → ℕ → List ℕ
write_values q room = cond (eqb (write_number q room) 0) (length (file_text q) ∷ []) []

-- the answer of writing the file
unfoldable pub write_answer : Request → ℕ → Answer
write_answer q room = answer_by (write_number q room) (length (file_text q))

-- "bytes past it stand", and a refusal writes nothing
unfoldable pub file_written : Request → List ℕ → List ℕ
file_written q old = cond (eqb (write_number q (length old)) 0) (written old 0 (file_text q)) old
