-- An operation's number and values as an entry for a host hands them over. Assumes nothing.
use Rattle.std.specs.Prelude.{◌≡◌, cond, List, [], ◌∷◌, ℕ, eqb, length, get_or}
use Rattle.prelude.specs.Blocks.{flatten}
use Rattle.request.specs.declared.Request.{Request}
use Rattle.request.specs.Numbers.{refusal_of}
use Rattle.formula.specs.Formula.{formula_of}
use Rattle.formula.specs.Count.{variable_count}
use Rattle.lrat_check.specs.Refutation.{Lent, check_number, check_values, check_leaves}
use Rattle.settle.specs.Settle.{settled_network, settle_number, settle_values, settlement, settle_leaves}
use Rattle.host.specs.Bytes.{network_bytes}
pub mod Laws

-- "V is the number of variables, C of clauses, T of literals in all clauses", of a request that is taken
unfoldable pub size_numbers : Request → List ℕ
size_numbers q = cond (eqb (refusal_of q) 0) (variable_count q ∷ length (formula_of q) ∷ length (flatten (formula_of q)) ∷ []) []

-- what checking a network answers a host: 0 where it does the job, 1 where a row is wrong, 2 for a refusal
abbrev pub check_code : ℕ → List ℕ → ℕ
check_code number values = cond (eqb number 0) (length values) 2

-- and what stands beside it: the row, else the number
abbrev pub check_detail : ℕ → List ℕ → ℕ
check_detail number values = get_or values 0 number

-- what settling answers a host: which of the four it is, a refusal after the three verdicts
abbrev pub verdict_code : List ℕ → ℕ
verdict_code values = get_or values 0 0

-- and what stands beside it: the refutation's number or the row, which come after k, else the number
abbrev pub verdict_detail : ℕ → List ℕ → ℕ
verdict_detail number values = get_or values 2 number

-- what checking a refutation hands a host: the number of the outcome, the number of added records, and the slices as they are left
pub record Checks (q : Request) (text : List ℕ) (before : Lent) (answer count : ℕ) (after : Lent) : Type 0 where
  pub answer_is : answer ≡ check_number q text before
  pub count_is : count ∷ [] ≡ check_values q text before
  pub slices_are : after ≡ check_leaves q text before

-- what settling hands a host: the verdict, what stands beside it, the network's bytes, and the slices as they are left
pub record Settles (q : Request) (answer refutation : List ℕ) (before : Lent) (code number : ℕ) (network : List ℕ) (after : Lent) : Type 0 where
  pub verdict_is : code ≡ verdict_code (settle_values q answer refutation before)
  pub number_is : number ≡ verdict_detail (settle_number q answer) (settle_values q answer refutation before)
  pub network_is : network ≡ network_bytes (settled_network (settlement q answer refutation before))
  pub slices_are : after ≡ settle_leaves q answer refutation before
