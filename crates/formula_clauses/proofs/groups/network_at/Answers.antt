-- A number below that of group 1 is one of its clauses; what is left beyond is a number of group 2. Assumes nothing.
use Rattle.prelude.specs.Lists.Laws.{get_d_right}
use lib.ListN.{get_or-append, get_or}
use Rattle.formula.specs.Formula.{transitivity, choices}
use Rattle.formula.specs.Formula.Groups.{transitivity_length, choices_length}
use mathlib.Core.Path.{sym, ap, ◌∙◌}
use mathlib.Core.List.{[]}
use Prim.Native.Nat.{ℕ, ◌+◌, ◌-◌, ◌*◌}
use native.Mathlib.Omega.{arith}
use Rattle.formula_clauses.proofs.groups.network_at.Goals as goal

pub transitivity_at-requires : goal.transitivity_at-requires
transitivity_at-requires c =
    let e = transitivity_length (2 * c.args.good.request.r + 2) in
    let t = c.transitivity_count-nets.ensures.0 in
    omega arith

pub returns-then-number-nets : goal.returns-then-number-nets
returns-then-number-nets c =
    let e = transitivity_length (2 * c.args.good.request.r + 2) in
    let t = c.transitivity_count-nets.ensures.0 in
    (c.transitivity_at.ensures.0 ∙ sym (get_or-append (transitivity (2 * c.args.good.request.r + 2)) _ [] c.args.number (omega arith)), c.transitivity_at.ensures.1)

pub choice_at-requires : goal.choice_at-requires
choice_at-requires c =
    let e = choices_length c.args.good.request.n (2 * c.args.good.request.r + 2) c.args.good.request.r in
    let t = c.transitivity_count-nets.ensures.0 in
    let h = c.requires in
    (omega arith, omega arith)

pub returns : goal.returns
returns c =
    let t = c.transitivity_count-nets.ensures.0 in
    let e = transitivity_length (2 * c.args.good.request.r + 2) in (
      c.choice_at.ensures.0
          ∙ ap (λ (k : ℕ). get_or (choices c.args.good.request.n (2 * c.args.good.request.r + 2) c.args.good.request.r) (c.args.number - k) []) (t ∙ sym e)
          ∙ sym (get_d_right (transitivity (2 * c.args.good.request.r + 2)) (choices c.args.good.request.n (2 * c.args.good.request.r + 2) c.args.good.request.r) c.args.number [] (omega arith)),
      c.choice_at.ensures.1,
    )
