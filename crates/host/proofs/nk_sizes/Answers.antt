-- The sizes of a request that is taken are V, C and T of its formula; of another there are none, and the three numbers stay.
-- Assumes nothing.
use Rattle.std.proofs.Common.{◌≡◌, List, ℕ, get_or, sym, ap, ◌∙◌}
use Rattle.host.specs.Entries.Laws.{sizes_numbers, sizes_none}
use Rattle.host.proofs.nk_sizes.Goals as goal

-- entries of equal lists
entry : (l k : List ℕ) (i d : ℕ) → k ≡ l → get_or l i d ≡ get_or k i d
entry l k i d e = ap (λ (x : List ℕ). get_or x i d) (sym e)

pub returns-in-Err-clause-refusal : goal.returns-in-Err-clause-refusal
returns-in-Err-clause-refusal c = c.from.ensures ∙ (sizes_none _ _ (rw c.new.ensures at c.in-Err.ensures.answer)).0

pub returns-in-Err-clause-variables : goal.returns-in-Err-clause-variables
returns-in-Err-clause-variables c = entry _ _ 0 c.args.variables.now (sizes_none _ _ (rw c.new.ensures at c.in-Err.ensures.answer)).1

pub returns-in-Err-clause-clauses : goal.returns-in-Err-clause-clauses
returns-in-Err-clause-clauses c = entry _ _ 1 c.args.clauses.now (sizes_none _ _ (rw c.new.ensures at c.in-Err.ensures.answer)).1

pub returns-in-Err-clause-literals : goal.returns-in-Err-clause-literals
returns-in-Err-clause-literals c = entry _ _ 2 c.args.literals.now (sizes_none _ _ (rw c.new.ensures at c.in-Err.ensures.answer)).1

pub returns-in-Ok-clause-refusal : goal.returns-in-Ok-clause-refusal
returns-in-Ok-clause-refusal c = (sizes_numbers _ _ (rw c.new.ensures at c.in-Ok.ensures.answer)).0

pub returns-in-Ok-clause-variables : goal.returns-in-Ok-clause-variables
returns-in-Ok-clause-variables c = entry _ _ 0 c.args.variables.now (sizes_numbers _ _ (rw c.new.ensures at c.in-Ok.ensures.answer)).1

pub returns-in-Ok-clause-clauses : goal.returns-in-Ok-clause-clauses
returns-in-Ok-clause-clauses c = entry _ _ 1 c.args.clauses.now (sizes_numbers _ _ (rw c.new.ensures at c.in-Ok.ensures.answer)).1

pub returns-in-Ok-clause-literals : goal.returns-in-Ok-clause-literals
returns-in-Ok-clause-literals c = entry _ _ 2 c.args.literals.now (sizes_numbers _ _ (rw c.new.ensures at c.in-Ok.ensures.answer)).1
