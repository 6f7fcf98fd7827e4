-- What size and writing answer, in numbers alone: only laws need it. Assumes nothing.
use Rattle.std.specs.Prelude.{cond, Ok, Err, ℕ, eqb}
use Rattle.refusal.specs.Refusal.{number}
use Rattle.dimacs.specs.File.{Answer}

-- an answer in numbers alone: the length, or a refusal by its number, whether or not the documents have it
pub data Answering : Type 0 where
  bytes : (size : ℕ) → Answering
  refused : (k : ℕ) → Answering

-- its number, 0 where it is a length
abbrev pub answering_number : Answering → ℕ
answering_number (bytes size) = 0
answering_number (refused k) = k

-- one by its number and the length
abbrev pub answering_by : ℕ → ℕ → Answering
answering_by k size = cond (eqb k 0) (bytes size) (refused k)

-- an answer in numbers
abbrev pub in_numbers : Answer → Answering
in_numbers (Ok k) = bytes k
in_numbers (Err x) = refused (number x)
