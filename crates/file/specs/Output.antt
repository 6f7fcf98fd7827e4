-- What the program writes for an input. Assumes nothing.
use Rattle.std.specs.Prelude.{cond, List, [], ◌∷◌, ◌++◌, ℕ, eqb, ltb, length, Ok, Err}
use Rattle.std.specs.Fmt.{decimal}
use Rattle.request.specs.declared.Request.{Request}
use Rattle.refusal.specs.Refusal.{number}
use Rattle.request.specs.Line.{Reading, request_of}
use Rattle.dimacs.specs.File.{file_text, write_number}

-- the longest input that may be a request, and the room for its clause file, in bytes
abbrev pub longest : ℕ
longest = 65536

-- "refused", the number and a newline
abbrev pub refused_text : ℕ → List ℕ
refused_text number = 114 ∷ 101 ∷ 102 ∷ 117 ∷ 115 ∷ 101 ∷ 100 ∷ 32 ∷ (decimal number ++ (10 ∷ []))

-- for a request its clause file, or the refusal of writing it
abbrev pub request_text : Request → List ℕ
request_text q = cond (eqb (write_number q longest) 0) (file_text q) (refused_text (write_number q longest))

-- for what reading a request answers
abbrev pub reading_text : Reading → List ℕ
reading_text (Ok q) = request_text q
reading_text (Err e) = refused_text (number e)

-- for an input; one that is too long is no request
abbrev pub output_text : List ℕ → List ℕ
output_text input = cond (ltb longest (length input)) (refused_text 1) (reading_text (request_of input))
