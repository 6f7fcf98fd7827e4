-- What a reader under a limit gives is the start of what the reader has. Assumes nothing.
use Rattle.std.proofs.Common.{◌≡◌, subst, List, ℕ, [], ◌++◌, take, IfSome}
use Rattle.std.specs.Prelude.{None, Some}
use Rattle.std.specs.Option.{option_map}
use Rattle.std.specs.declared.option.Option.{Option}
use Rattle.std.specs.declared.io.traits.Take.{Take}
use Rattle.std.specs.Io.Take.{take_limit, take_inner, take_remaining}
use Rattle.file.proofs.read_input.Goals as goal

by_known : (known : Option (List ℕ)) (n : ℕ) (after : List ℕ) → IfSome (option_map (take n) known) (λ xs. after ≡ xs)
    → IfSome known (λ xs. after ≡ take n xs)
by_known None n after h = h
by_known (Some xs) n after h = h

read_taken : {R : Type 0} (remaining : R → Option (List ℕ)) (t : Take R) (x : R) (n : ℕ) (before after : List ℕ) → take_inner t ≡ x
    → take_limit t ≡ n → before ≡ [] → IfSome (take_remaining remaining t) (λ xs. after ≡ before ++ xs)
    → IfSome (remaining x) (λ xs. after ≡ take n xs)
read_taken {R} remaining t x n before after i l b h =
    subst (λ (y : R). IfSome (remaining y) (λ xs. after ≡ take n xs)) i
    (subst (λ (k : ℕ). IfSome (remaining t.inner) (λ xs. after ≡ take k xs)) l
    (by_known (remaining t.inner) t.limit after
    (subst (λ (z : List ℕ). IfSome (take_remaining remaining t) (λ xs. after ≡ z ++ xs)) b h)))

pub returns : goal.returns
returns g c =
    read_taken g.R.Read.remaining c.take.result c.args.input 65537 _ _ c.take.ensures.inner c.take.ensures.limit c.new-bytes.ensures.items
    c.in_ok-read_to_end.ensures.bytes
