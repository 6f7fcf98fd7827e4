-- A literal and a clause as text, and signed numbers. Assumes nothing.
use Rattle.std.specs.Prelude.{Bool, cond, List, [], ◌∷◌, ◌++◌, map, ℕ, ℤ}
use Rattle.prelude.specs.Blocks.{flatten}
use Rattle.prelude.specs.Signed.{is_negative, variable}
use Rattle.cnf.specs.declared.Literal.{Literal}
use Rattle.text.specs.Decimal.{decimal}
pub mod Laws

-- the minus of a negative number
abbrev pub sign_text : Bool → List ℕ
sign_text negative = cond negative (45 ∷ []) []

-- a sign and a number, with the space after them
abbrev pub signed_text : Bool → ℕ → List ℕ
signed_text negative x = sign_text negative ++ (decimal x ++ (32 ∷ []))

-- a literal
unfoldable pub literal_text : Literal → List ℕ
literal_text l = signed_text l.negative l.variable

-- literals, each with the space after it
unfoldable pub literals_text : List Literal → List ℕ
literals_text ls = flatten (map literal_text ls)

-- "a line per clause, \" 0\" last": its literals, 0 and the newline
unfoldable pub line_text : List Literal → List ℕ
line_text ls = literals_text ls ++ (48 ∷ 10 ∷ [])

-- a signed number
unfoldable pub number_text : ℤ → List ℕ
number_text x = signed_text (is_negative x) (variable x)

-- signed numbers, each with the space after it
unfoldable pub numbers_text : List ℤ → List ℕ
numbers_text xs = flatten (map number_text xs)
