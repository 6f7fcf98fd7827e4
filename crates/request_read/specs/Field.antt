-- The fields of a request's line, and those that are one digit. Assumes nothing.
use Rattle.std.specs.Prelude.{Bool, List, ℕ, ltb, cond, Result, Ok, Err}
use Rattle.request.specs.Line.{run_end, ended_by}
use Rattle.refusal.specs.declared.Refusal.{Refusal}
use Rattle.refusal.specs.declared.Refusal.TheVariants.{RequestLine}
pub mod Laws

-- the end of a field, a run of bytes that satisfy p from a place on, with the byte b after it: "1 if not four non-empty runs of digits in
-- the line form"
unfoldable pub field_end : (ℕ → Bool) → List ℕ → ℕ → ℕ → Result ℕ Refusal
field_end p s from b = cond (ended_by s from (run_end p s from) b) (Ok (run_end p s from)) (Err RequestLine)

-- a digit that is at most `most`, and the refusal of a higher one
abbrev pub digit_within : ℕ → ℕ → Refusal → Result ℕ Refusal
digit_within x most refusal = cond (ltb most x) (Err refusal) (Ok x)
