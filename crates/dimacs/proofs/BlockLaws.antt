-- Laws of lines of signed numbers and of blocks of them. Assumes nothing.
use Rattle.std.specs.Prelude.{◌≡◌, List, [], ◌∷◌, ◌++◌, ℕ, zero, suc, ◌+◌, ◌≤◌, ◌<◌, ℤ, get_or, take, drop}
use Rattle.std.proofs.Math.Path.{refl, ap}
use Rattle.std.proofs.Common.{sym, ap₂, ◌∙◌, add-one, length-drop, get_or-drop, take-take}
use native.Mathlib.Omega.{arith}
use Rattle.std.proofs.Math.IntN as Z
use Rattle.std.proofs.Math.ListN.{length, length-append}
use Rattle.std.proofs.Math.Seq.{take-length}
use Rattle.prelude.specs.Blocks.{each, flatten, pairs_from}
use Rattle.prelude.specs.Blocks.Laws.{each_more, each_room, each_same, flatten_room, pairs_length}
use Rattle.prelude.specs.Lists.{Each}
use Rattle.prelude.specs.Lists.Laws.{each_out}
use Rattle.prelude.specs.Written.{written}
use Rattle.cnf.specs.Cnf.{Clause, Formula}
use Rattle.formula.proofs.FormulaRange.{ClauseIn}
use Rattle.formula_clauses.specs.Store.{signs}
use Rattle.formula_clauses.specs.Store.Laws.{signs_length, stored_offset, stored_length, stored_read}
use Rattle.text.specs.Text.{number_text, numbers_text, line_text}
use Rattle.text.specs.Text.Laws.{numbers_more, numbers_room, signed_texts, line_text_lem}
use Rattle.dimacs.specs.File.{body_text}
use Rattle.dimacs.proofs.FileLaws.{body_none, body_more}
use Rattle.dimacs.specs.Block.{numbers_line, line_of, block_text, Within}

-- a line is its numbers, 0 and the newline
pub line_parts : (xs : List ℤ) → numbers_line xs ≡ numbers_text xs ++ (48 ∷ 10 ∷ [])
unfolding numbers_line
line_parts xs = refl

-- its length
pub line_size : (xs : List ℤ) → length (numbers_line xs) ≡ length (numbers_text xs) + 2
line_size xs = ap length (line_parts xs) ∙ length-append (numbers_text xs) (48 ∷ 10 ∷ [])

-- the numbers of a clause, one by one
module _ (l : List ℤ) (from count : ℕ) (within : from + count ≤ length l) (i : ℕ) (h : i < count) where
  pub part_more : numbers_text (take (i + 1) (drop from l))
      ≡ numbers_text (take i (drop from l)) ++ number_text (get_or l (from + i) (Z.pos 0))
  part_more =
      let n = length-drop from l in
      numbers_more (drop from l) i (omega arith)
      ∙ ap (λ (x : ℤ). numbers_text (take i (drop from l)) ++ number_text x) (get_or-drop from l i (Z.pos 0))

  pub part_size : length (numbers_text (take (i + 1) (drop from l)))
      ≡ length (numbers_text (take i (drop from l))) + length (number_text (get_or l (from + i) (Z.pos 0)))
  part_size = ap length part_more ∙ length-append (numbers_text (take i (drop from l))) (number_text (get_or l (from + i) (Z.pos 0)))

  -- the first are no longer than all
  pub part_room : length (numbers_text (take (i + 1) (drop from l))) ≤ length (numbers_text (take count (drop from l)))
  part_room =
      let z : i + 1 ≤ count = omega arith in
      rw (take-take (i + 1) count (drop from l) z) at (numbers_room (take count (drop from l)) (i + 1))

-- the lines of clauses, one by one
module _ (literals : List ℤ) (pairs : List ℕ) where
  pub block_none : block_text 0 literals pairs ≡ []
  unfolding block_text each
  block_none = refl

  pub block_more : (k : ℕ) → block_text (k + 1) literals pairs ≡ block_text k literals pairs ++ line_of literals pairs k
  unfolding block_text
  block_more k = each_more k (line_of literals pairs)

  pub block_room : (count k : ℕ) → k < count
      → length (block_text k literals pairs) + length (line_of literals pairs k) ≤ length (block_text count literals pairs)
  unfolding block_text
  block_room count k h = each_room count k (line_of literals pairs) h

-- the line of a clause whose variables are above 0 is that of its signed numbers
signed_line : (top : ℕ) (c : Clause) → ClauseIn top c → numbers_line (signs c) ≡ line_text c
signed_line top c h =
    line_parts (signs c) ∙ ap (λ (l : List ℕ). l ++ (48 ∷ 10 ∷ [])) (signed_texts top c h) ∙ sym (line_text_lem c)

-- the lines of the first clauses, by index
body_each : (F : Formula) (k : ℕ) → k ≤ length F → each k (λ i. line_text (get_or F i [])) ≡ body_text (take k F)
unfolding each
body_each F zero h = sym body_none
body_each F (suc k) h =
    ap (λ (l : List ℕ). l ++ line_text (get_or F k [])) (body_each F k (omega arith)) ∙ sym (body_more F k (omega arith))
    ∙ ap (λ (j : ℕ). body_text (take j F)) (add-one k)

-- what is written at a list's start
module _ {A : Type 0} (l xs : List A) where
  start_long : length xs ≤ length (written l 0 xs)
  unfolding written
  start_long = let e = length-append xs (drop (0 + length xs) l) in omega arith

-- the clauses of F, written at the start of two lists
module _ (F : Formula) (old : List ℤ) (before : List ℕ) where
  abbrev literals : List ℤ
  literals = written old 0 (signs (flatten F))

  abbrev pairs : List ℕ
  pairs = written before 0 (pairs_from 0 F)

  pub literals_long : length (flatten F) ≤ length literals
  literals_long = let e = signs_length (flatten F) in let n = start_long old (signs (flatten F)) in omega arith

  -- the clauses that the pairs name lie within the literals
  pub block_within : Within (length F) literals pairs
  block_within =
      record {
        pairs_long = let e = pairs_length 0 F in let n = start_long before (pairs_from 0 F) in omega arith;
        clause_within = λ k h.
            let r = flatten_room F k h in
            let n = literals_long in
            let a = stored_offset F k h before in
            let b = stored_length F k h before in
            omega arith;
      }

  module _ (top : ℕ) (low : Each (ClauseIn top) F) where
    line_is : (k : ℕ) → k < length F → line_of literals pairs k ≡ line_text (get_or F k [])
    line_is k h =
        ap₂ (λ (n at : ℕ). numbers_line (take n (drop at literals))) (stored_length F k h before) (stored_offset F k h before)
        ∙ ap numbers_line (stored_read F k h old) ∙ signed_line top (get_or F k []) (each_out (ClauseIn top) F [] low k h)

    -- their lines are those of F
    pub block_body : block_text (length F) literals pairs ≡ body_text F
    unfolding block_text
    block_body =
        each_same (length F) (line_of literals pairs) (λ i. line_text (get_or F i [])) line_is ∙ body_each F (length F) (omega arith)
        ∙ ap body_text (take-length F)
