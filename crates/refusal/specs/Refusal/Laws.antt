-- Laws of refusals by number. Assumes nothing.
use Rattle.std.proofs.Common.{◌≡◌, ℕ, zero, suc, ◌+◌, ◌≤◌, ◌<◌, List, [], ◌∷◌, length, get_or, Ok, Err, refl, sym, arith}
use Rattle.refusal.specs.declared.Refusal.{Refusal}
use Rattle.refusal.specs.declared.Refusal.TheVariants.{RequestLine, Inputs, Table, Switches, SeriesBound, BufferShort, LiteralsShort, PairsShort, AnswerLine, AnswerVariable, AnswerIncomplete, AnswerClauses, NetworkForm, ValuesShort, TextLong, LineForm, LineId, LineLiteral, NotStanding, NotUnit, HintsSpent, AddedShort, TextEnds, RowTwice}
use Rattle.refusal.specs.Refusal.{number, refusals, numbered, unless, number_of}

-- the refusal with a refusal's number is this refusal
pub numbered_number : (e : Refusal) → numbered (number e) ≡ e
numbered_number RequestLine = refl
numbered_number Inputs = refl
numbered_number Table = refl
numbered_number Switches = refl
numbered_number SeriesBound = refl
numbered_number BufferShort = refl
numbered_number LiteralsShort = refl
numbered_number PairsShort = refl
numbered_number AnswerLine = refl
numbered_number AnswerVariable = refl
numbered_number AnswerIncomplete = refl
numbered_number AnswerClauses = refl
numbered_number NetworkForm = refl
numbered_number ValuesShort = refl
numbered_number TextLong = refl
numbered_number LineForm = refl
numbered_number LineId = refl
numbered_number LineLiteral = refl
numbered_number NotStanding = refl
numbered_number NotUnit = refl
numbered_number HintsSpent = refl
numbered_number AddedShort = refl
numbered_number TextEnds = refl
numbered_number RowTwice = refl

-- a result that is refused with the number of a refusal is that refusal, whatever the value
pub unless-number : {A : Type 0} → (e : Refusal) → (x : A) → unless (number e) x ≡ Err e
unless-number RequestLine x = refl
unless-number Inputs x = refl
unless-number Table x = refl
unless-number Switches x = refl
unless-number SeriesBound x = refl
unless-number BufferShort x = refl
unless-number LiteralsShort x = refl
unless-number PairsShort x = refl
unless-number AnswerLine x = refl
unless-number AnswerVariable x = refl
unless-number AnswerIncomplete x = refl
unless-number AnswerClauses x = refl
unless-number NetworkForm x = refl
unless-number ValuesShort x = refl
unless-number TextLong x = refl
unless-number LineForm x = refl
unless-number LineId x = refl
unless-number LineLiteral x = refl
unless-number NotStanding x = refl
unless-number NotUnit x = refl
unless-number HintsSpent x = refl
unless-number AddedShort x = refl
unless-number TextEnds x = refl
unless-number RowTwice x = refl

-- a result by its number is a value just where the number is 0, and then it is that value
pub unless-ok : {A : Type 0} → (n : ℕ) → (x y : A) → unless n x ≡ Ok y → (n ≡ 0) × (x ≡ y)
unless-ok zero x y e = (refl, (cc))
unless-ok (suc n) x y e = cc

-- and a refusal whatever the value is
pub unless-err : {A B : Type 0} → (n : ℕ) → (x : A) → (z : B) → (e : Refusal) → unless n x ≡ Err e → unless n z ≡ Err e
unless-err zero x z e h = cc
unless-err (suc n) x z e h = cc

-- of a list of refusals whose numbers rise by one from a number on, each has the number of its place
abbrev Rising : ℕ → List Refusal → Type 0
Rising k [] = Unit {0}
Rising k (e ∷ es) = (number e ≡ k) × Rising (suc k) es

number_at : (es : List Refusal) → (k n : ℕ) → Rising k es → n < length es → number (get_or es n RequestLine) ≡ k + n
number_at [] k n r h = omega arith
number_at (e ∷ es) k zero r h = omega (arith, r.0)
number_at (e ∷ es) k (suc n) r h = omega (arith, number_at es (suc k) n r.1 (omega arith))

rising : Rising 1 refusals
rising = (refl, (refl, (refl, (refl, (refl, (refl, (refl, (refl, (refl, (refl, (refl, (refl, (refl, (refl, (refl, (refl, (refl, (refl, (refl, (refl, (refl, (refl, (refl, (refl, tt))))))))))))))))))))))))

-- no operation is refused with a number above the last, and then the number of the result is the number
pub unless-number_of : {A : Type 0} → (n : ℕ) → (x : A) → n ≤ 24 → number_of (unless n x) ≡ n
unless-number_of zero x h = refl
unless-number_of (suc n) x h = omega (arith, number_at refusals 1 n rising (omega arith))

-- no refusal has the number 0
pub number_some : (e : Refusal) → number e ≡ 0 → ⊥
number_some e z = let f : unless {A = ℕ} (number e) 0 ≡ unless 0 0 = rw z in let g : unless {A = ℕ} (number e) 0 ≡ Err e = unless-number e 0 in cc

-- a number from 1 to the last refusal's is that of its refusal
pub numbered_back : (n : ℕ) → (n ≡ 0 → ⊥) → n ≤ 24 → number (numbered n) ≡ n
numbered_back zero d h = absurd (d refl)
numbered_back (suc n) d h = unless-number_of {A = ℕ} (suc n) 0 h

-- a result by a number: the refusal with that number, or the value where it is 0
pub refused_by : {A : Type 0} → (e : Refusal) → (n : ℕ) → (x : A) → number e ≡ n → Err e ≡ unless n x
refused_by e n x h = rw (← h) (sym (unless-number e x))

pub taken_by : {A : Type 0} → (n : ℕ) → (x : A) → 0 ≡ n → Ok x ≡ unless n x
taken_by n x h = rw (← h)
