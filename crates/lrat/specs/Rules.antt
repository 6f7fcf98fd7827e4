-- What a line's literals and its hints do to the values. Assumes nothing.
use Rattle.std.specs.Prelude.{Bool, true, false, not, ◌&&◌, ◌||◌, cond, List, [], ◌∷◌, ℕ, eqb, leb}
use Rattle.std.proofs.Math.Option.{Option, none, some}
use Rattle.cnf.specs.Cnf.{Clause}
use Rattle.cnf.specs.declared.Literal.{Literal}
use Rattle.lrat.specs.declared.Found.{Found}
use Rattle.lrat.specs.declared.Found.TheVariants.{AllFalse, Unset, Other}

-- the values of variables during a line: none is unset
abbrev pub Values : Type 0
Values = ℕ → Option Bool

abbrev pub unset : Values
unset u = none

-- a variable gets a value
abbrev pub assign : Values → ℕ → Bool → Values
assign τ v b u = cond (eqb u v) (some b) (τ u)

-- the value of a literal: −x is true when x is false
abbrev pub turned : Bool → Option Bool → Option Bool
turned n none = none
turned n (some b) = some (cond n (not b) b)

abbrev pub literal_value : Values → Literal → Option Bool
literal_value τ l = turned l.negative (τ l.variable)

-- "The line's literals are set false"
abbrev pub falsified : Values → Clause → Values
falsified τ [] = τ
falsified τ (l ∷ c) = falsified (assign τ l.variable l.negative) c

-- "18 literal outside ±V or variable twice": whether each is inside and none twice
abbrev pub named : ℕ → Clause → Bool
named v [] = false
named v (l ∷ c) = eqb v l.variable || named v c

abbrev pub literals_good : ℕ → Clause → Bool
literals_good variables [] = true
literals_good variables (l ∷ c) =
    leb 1 l.variable && (leb l.variable variables && (not (named l.variable c) && literals_good variables c))

-- 1 for a minus, 0 for none
abbrev pub minus_of : Bool → ℕ
minus_of n = cond n 1 0

-- a clause under the values, from its first literal on: o is the value of a literal l, and f what the literals after it are

abbrev pub unset_before : Literal → Found → Found
unset_before l AllFalse = Unset l.variable l.negative
unset_before l (Unset v m) = Other
unset_before l Other = Other

abbrev pub before : Option Bool → Literal → Found → Found
before none l f = unset_before l f
before (some false) l f = f
before (some true) l f = Other

abbrev pub found : Values → Clause → Found
found τ [] = AllFalse
found τ (l ∷ c) = before (literal_value τ l) l (found τ c)

-- what hints end in: the conflict, or a refusal, such as "21 hints spent without conflict"
abbrev pub conflict : ℕ
conflict = 0

abbrev pub spent : ℕ
spent = 21

-- a line's code where the check goes on, and where it ends in "none"; every other code is a refusal's number
abbrev pub goes_on : ℕ
goes_on = 0

abbrev pub says_none : ℕ
says_none = 1

-- "all literals false is the conflict, later hints are unread; one unset and the rest false sets it true; else 20"; k goes on
-- after a literal was set true
abbrev pub after_found : Found → (ℕ → Bool → ℕ) → ℕ
after_found AllFalse k = conflict
after_found (Unset v m) k = k v m
after_found Other k = 20

-- "A hint: 19 if its clause doesn't stand"
abbrev pub hinted : (ℕ → Bool) → (ℕ → Clause) → Values → List ℕ → ℕ
hinted stands clause τ [] = spent
hinted stands clause τ (x ∷ xs) =
    cond (stands x) (after_found (found τ (clause x)) (λ v m. hinted stands clause (assign τ v (not m)) xs)) 19
