-- The sums over variables by which the lengths of clauses' lines are worked out. Assumes nothing.
use Rattle.std.specs.Prelude.{◌≡◌, Bool, cond, ℕ, ◌+◌, ◌-◌, ◌*◌, ◌^◌, ◌≤◌, ◌<◌, eqb}
use Rattle.prelude.specs.Sums.{sum}
use Rattle.request.specs.Numbers.{inputs_most}
use Rattle.formula.specs.Formula.{terminals, X, L}
use Rattle.formula.specs.Values.{has_value}
use Rattle.lengths.specs.Lines.{literal_length}
pub mod Laws
pub mod Groups
pub mod OffRow
pub mod OnRow

-- the positive literals of count variables from first on
unfoldable pub run_length : ℕ → ℕ → ℕ
run_length first count = sum count (λ i. literal_length (first + i))

-- L(s,v) if the literal v has the value on row k
abbrev pub chosen_at : ℕ → ℕ → ℕ → Bool → ℕ → ℕ → ℕ
chosen_at n r k value s v = cond (has_value n k value v) (literal_length (L n (terminals r) s v)) 0

-- for all literals
unfoldable pub chosen_of : ℕ → ℕ → ℕ → Bool → ℕ → ℕ
chosen_of n r k value s = sum (2 * n) (chosen_at n r k value s)

-- for all switches
unfoldable pub chosen_length : ℕ → ℕ → ℕ → Bool → ℕ
chosen_length n r k value = sum r (chosen_of n r k value)

-- X(a,1+g) but for g + 1 = a
abbrev pub joined_at : ℕ → ℕ → ℕ → ℕ
joined_at r a g = cond (eqb (1 + g) a) 0 (literal_length (X (terminals r) a (1 + g)))

-- X(a,g) for each terminal g but the source and a
unfoldable pub joined_to : ℕ → ℕ → ℕ
joined_to r a = sum (2 * r + 1) (joined_at r a)

-- for each end a
unfoldable pub joined_ends : ℕ → ℕ
joined_ends r = sum (2 * r) (λ a. joined_to r (1 + a))

-- W(t,e) for each end e of a step t that at variables are before, and with Z(t)
abbrev pub ends_length : ℕ → ℕ → ℕ
ends_length r at = run_length (at + 1) (2 * r)

abbrev pub stop_length : ℕ → ℕ → ℕ
stop_length r at = run_length (at + 1) (2 * r + 1)

-- the lines of an on row about one step: some switch or the stop, and no open switch
unfoldable pub step_length : ℕ → ℕ → ℕ → ℕ → ℕ
step_length n r at chosen = 2 + stop_length r at + (n * (8 * r + ends_length r at) + 2 * chosen)

-- for each step
unfoldable pub steps_length : ℕ → ℕ → ℕ → ℕ → ℕ → ℕ
steps_length n r m B chosen = sum m (λ t. step_length n r (B + t * (2 * r + 1)) chosen)

-- those about a step and the next: each end and the stop follow an end, but not the other end of its switch
unfoldable pub link_length : ℕ → ℕ → ℕ → ℕ
link_length r at joined =
    2 * r * (8 * r + ends_length r at + stop_length r (at + (2 * r + 1))) + joined - ends_length r (at + (2 * r + 1))

-- for each step but the last
unfoldable pub links_length : ℕ → ℕ → ℕ → ℕ → ℕ
links_length r m B joined = sum (m - 1) (λ t. link_length r (B + t * (2 * r + 1)) joined)

-- the lengths of X that each on row has: from every end, and from the source and the sink
pub record NetsOf (r ends outer : ℕ) : Type 0 where
  pub ends_are : ends ≡ joined_ends r
  pub outer_are : outer ≡ joined_to r 0 + joined_to r (2 * r + 1)
  pub ends_few : ends ≤ 5580
  pub outer_few : outer ≤ 372
