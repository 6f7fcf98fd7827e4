-- `request_read::field_end` meets its contract: the run ends at the first byte that does not pass the test, and each return is one law of
-- what stands there. Assumes nothing.
use Rattle.std.proofs.Common.{rules, tests, not, drop, ◌∙◌, arith}
use Rattle.std.proofs.lemmas.Iterator.{YieldsList-from_slice}
use Rattle.std.proofs.lemmas.Iterator.Search.{position_from_yields_List}
use Rattle.request_read.specs.Field.Laws.{rest_whole, run_sought, field_there, field_empty, field_past, field_other}
use Rattle.request_read.proofs.field_end.Goals as goal
use Rattle.request_read.proofs.field_end.Goals.{in_default-2, in_default-3, in_default}

pub returns-in-Some-clause-end : goal.returns-in-Some-clause-end
returns-in-Some-clause-end g c p h =
    let s = c.args.text.now in
    let e =
    position_from_yields_List (λ b. not (p b)) _ _ c.position.result c.position.ensures.ran
    (YieldsList-from_slice (drop c.args.from s) (c.iter.ensures.rest ∙ rest_whole s c.args.from)) (λ x b q k. search (rules, tests)) in
    let f = run_sought p s c.args.from c.requires.inside c.position.result e in
    let r = rw c.in-Some.is at f in
    field_there p s c.args.from c.args.after _ r.0 (omega arith) r.1 c.if-text-from.true

pub returns-clause-end : goal.returns-clause-end
returns-clause-end g c p h =
    let s = c.args.text.now in
    let e =
    position_from_yields_List (λ b. not (p b)) _ _ c.position.result c.position.ensures.ran
    (YieldsList-from_slice (drop c.args.from s) (c.iter.ensures.rest ∙ rest_whole s c.args.from)) (λ x b q k. search (rules, tests)) in
    let f = run_sought p s c.args.from c.requires.inside c.position.result e in
    elim c.match-position.branch [
      | in_default-2 w ↦
          let r = rw w.in-Some.is at f in
          w.result-is ∙ field_other p s c.args.from c.args.after _ r.0 (omega arith) r.1 w.if-text-from.false
      | in_default-3 w ↦
          let r = rw w.in-Some.is at f in
          w.result-is ∙ field_empty p s c.args.from c.args.after _ r.0 (omega arith)
      | in_default w ↦
          let r = rw w.in_default.is at f in
          w.result-is ∙ field_past p s c.args.from c.args.after _ r (omega arith)
    ]
