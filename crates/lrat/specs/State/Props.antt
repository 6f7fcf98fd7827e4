-- Where clauses lie is a fact: it has one proof at most, so that a value may carry it. Assumes nothing.
use Rattle.std.specs.Prelude.{[], ◌∷◌, ℕ}
use denote.Struct.Props.{props}
use mathlib.Core.HLevel.{×_prop, Unit-prop}
use Rattle.cnf.specs.Cnf.{Clause}
use Rattle.lrat.specs.Bytes.{Inside, Below}

pub Below-prop : (n : ℕ) (c : Clause) → IsProp (Below n c)
Below-prop n [] = Unit-prop
Below-prop n (l ∷ c) =
    let here : IsProp (Inside n l) = Prim.hlevel props in
    ×_prop here (Below-prop n c)

pub ruleset clause_props = (Below-prop, props)
