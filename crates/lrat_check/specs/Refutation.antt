-- What checking a refutation answers, and what it leaves in the slices that it was lent. Assumes nothing.
use Rattle.std.specs.Prelude.{cond, List, [], ◌∷◌, ◌++◌, ℕ, ◌+◌, eqb, leb, ltb, ℤ, length, drop, Err}
use Rattle.request.specs.declared.Request.{Request}
use Rattle.formula_clauses.specs.Store.{stored_formula, stored_variables, store_refusal, stored_literals, stored_pairs}
use Rattle.lrat.specs.Words.{text_limit}
use Rattle.lrat.specs.Bytes.{zeros}
use Rattle.lrat.specs.Check.{Left, lines_of}
use Rattle.lrat.specs.Outcome.{outcome_of, end_number}
use Rattle.lrat.specs.declared.Checked.{Checked}
use Rattle.refusal.specs.Refusal.{numbered}
pub mod Seam
pub mod Laws
pub mod Sound

-- the slices that a check is lent: literals and pairs of the store, records of added clauses, values
pub record Lent : Type 0 where
  pub literals : List ℤ
  pub pairs : List ℕ
  pub added : List ℕ
  pub values : List ℕ

abbrev pub lent : List ℤ → List ℕ → List ℕ → List ℕ → Lent
lent literals pairs added values = record { literals = literals; pairs = pairs; added = added; values = values }

-- "7, 8; 14 if the byte slice of values is shorter than V+1; 15 for text above 16,777,215 bytes", after the refusals of the request; 0 if none of these
unfoldable pub refusal_before : Request → ℕ → Lent → ℕ
refusal_before q size s =
    cond (eqb (store_refusal q (length s.literals) (length s.pairs)) 0)
    (cond (leb (length s.values) (stored_variables q)) 14 (cond (ltb text_limit size) 15 0))
    (store_refusal q (length s.literals) (length s.pairs))

-- the lines of a text, over a request's formula
unfoldable pub lines_for : Request → List ℕ → List ℕ → Left
lines_for q text added = lines_of (stored_formula q) text (stored_variables q) added

-- checking a refutation in document 01's numbers: those before the lines, or that of the lines
unfoldable pub check_number : Request → List ℕ → Lent → ℕ
check_number q text s =
    cond (eqb (refusal_before q (length text) s) 0) (end_number (lines_for q text s.added).code) (refusal_before q (length text) s)

-- and values: "The result carries the number a of added pairs too, 0 for a refusal up to 15"
unfoldable pub check_values : Request → List ℕ → Lent → List ℕ
check_values q text s = cond (eqb (refusal_before q (length text) s) 0) (lines_for q text s.added).a 0 ∷ []

-- the same as an answer of the program
unfoldable pub check_answer : Request → List ℕ → Lent → Checked
check_answer q text s =
    cond (eqb (refusal_before q (length text) s) 0)
    (record { outcome = outcome_of (lines_for q text s.added).code; count = (lines_for q text s.added).a })
    (record { outcome = Err (numbered (refusal_before q (length text) s)); count = 0 })

-- the slices afterwards: "A refusal of 1 to 15 writes nothing. For 16 to 23 the store is filled, added pairs are those of accepted
-- lines, deletions made are kept. After every check that got past 15 the first V+1 values are 0. All other entries stand"
unfoldable pub check_leaves : Request → List ℕ → Lent → Lent
check_leaves q text s =
    cond (eqb (refusal_before q (length text) s) 0)
    (lent
    (stored_literals q (length s.pairs) s.literals)
    (stored_pairs q (length s.literals) s.pairs)
    (lines_for q text s.added).added
    (zeros (stored_variables q + 1) ++ drop (stored_variables q + 1) s.values))
    s
