-- What each refusal's number is (documents 01 and 02), and an operation's result by the number that it is refused with. Assumes nothing.
use Rattle.std.specs.Prelude.{ℕ, zero, suc, Result, Ok, Err, List, [], ◌∷◌, get_or}
use Rattle.refusal.specs.declared.Refusal.{Refusal}
use Rattle.refusal.specs.declared.Refusal.TheVariants.{RequestLine, Inputs, Table, Switches, SeriesBound, BufferShort, LiteralsShort, PairsShort, AnswerLine, AnswerVariable, AnswerIncomplete, AnswerClauses, NetworkForm, ValuesShort, TextLong, LineForm, LineId, LineLiteral, NotStanding, NotUnit, HintsSpent, AddedShort, TextEnds, RowTwice}
pub mod Laws

-- the number of a refusal in documents 01 and 02
abbrev pub number : Refusal → ℕ
number RequestLine = 1
number Inputs = 2
number Table = 3
number Switches = 4
number SeriesBound = 5
number BufferShort = 6
number LiteralsShort = 7
number PairsShort = 8
number AnswerLine = 9
number AnswerVariable = 10
number AnswerIncomplete = 11
number AnswerClauses = 12
number NetworkForm = 13
number ValuesShort = 14
number TextLong = 15
number LineForm = 16
number LineId = 17
number LineLiteral = 18
number NotStanding = 19
number NotUnit = 20
number HintsSpent = 21
number AddedShort = 22
number TextEnds = 23
number RowTwice = 24

-- all refusals, by number from 1
abbrev pub refusals : List Refusal
refusals = RequestLine ∷ Inputs ∷ Table ∷ Switches ∷ SeriesBound ∷ BufferShort ∷ LiteralsShort ∷ PairsShort ∷ AnswerLine ∷ AnswerVariable ∷ AnswerIncomplete ∷ AnswerClauses ∷ NetworkForm ∷ ValuesShort ∷ TextLong ∷ LineForm ∷ LineId ∷ LineLiteral ∷ NotStanding ∷ NotUnit ∷ HintsSpent ∷ AddedShort ∷ TextEnds ∷ RowTwice ∷ []

-- the refusal with a number from 1 on
abbrev pub numbered : ℕ → Refusal
numbered zero = RequestLine
numbered (suc n) = get_or refusals n RequestLine

-- an operation's result: x where the number is 0, the refusal with this number otherwise
abbrev pub unless : {A : Type 0} → ℕ → A → Result A Refusal
unless zero x = Ok x
unless (suc n) x = Err (numbered (suc n))

-- the number that a result is refused with, 0 where it is none
abbrev pub number_of : {A : Type 0} → Result A Refusal → ℕ
number_of (Ok x) = 0
number_of (Err e) = number e
