-- What was found so far of a clause under the bytes. Assumes nothing.
use Rattle.std.specs.Prelude.{◌≡◌, refl, Bool, List, ℕ, zero, suc}
use Rattle.std.proofs.Math.Path.{sym}
use Rattle.std.proofs.Common.{arith}
use Rattle.lrat.specs.declared.Found.{Found}
use Rattle.lrat.specs.declared.Found.TheVariants.{AllFalse, Unset, Other}
use Rattle.cnf.specs.declared.Literal.{Literal}
use Rattle.lrat.specs.Rules.{literal_value, before}
use Rattle.lrat.specs.Bytes.{values_in}

-- no literal was unset where var is 0, else that of var
unfoldable pub found_so_far : ℕ → Bool → Found
found_so_far zero m = AllFalse
found_so_far (suc v) m = Unset (suc v) m

pub found_so_far_some : (v : ℕ) (m : Bool) → (v ≡ 0 → ⊥) → found_so_far v m ≡ Unset v m
unfolding found_so_far
found_so_far_some zero m d = absurd (d refl)
found_so_far_some (suc v) m d = refl

pub found_so_far_none : (v : ℕ) (m : Bool) → v ≡ 0 → AllFalse ≡ found_so_far v m
unfolding found_so_far
found_so_far_none zero m e = refl
found_so_far_none (suc v) m e = absurd (omega arith)

pub found_so_far_unset : (v : ℕ) (m : Bool) → (v ≡ 0 → ⊥) → Unset v m ≡ found_so_far v m
found_so_far_unset v m d = sym (found_so_far_some v m d)

-- ---- from the left: what was found so far, and the rest
abbrev pub joined : Found → Found → Found
joined AllFalse f = f
joined (Unset v m) AllFalse = Unset v m
joined (Unset v m) (Unset w k) = Other
joined (Unset v m) Other = Other
joined Other f = Other

-- what is found of a clause with a literal more, by what is found without it
unfoldable pub with_literal : ℕ → List ℕ → Found → Literal → Found
with_literal g vs f l = joined f (before (literal_value (values_in g vs) l) l AllFalse)
