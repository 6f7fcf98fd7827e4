-- The answer of the check is handed on by its number and values; a refusal has a number other than 0. Assumes nothing.
use Rattle.std.proofs.Common.{◌≡◌, [], Some, None, Ok, Err, ap, ap₂, ◌∙◌, subst, ne_eqb}
use Rattle.request.specs.Numbers.{asked}
use Rattle.request.specs.declared.Request.{Request}
use Rattle.refusal.specs.declared.Refusal.{Refusal}
use Rattle.refusal.specs.Refusal.{number}
use Rattle.refusal.specs.Refusal.Laws.{number_some}
use Rattle.network.specs.Check.{Checked, number_of, values_of, checked_number, checked_values}
use Rattle.network.specs.Networks.{Does}
use Rattle.network.specs.Value.{listed}
use Rattle.network.specs.declared.Network.{Network}
use Rattle.host.specs.Entries.{check_code, check_detail}
use Rattle.host.proofs.nk_check_network.Goals as goal

-- an answer y for the request p, which is q, and the network v, which is w, by y's number and values
module _ (p q : Request) (p_is : p ≡ q) (v w : Network) (v_is : v ≡ w) (y : Checked) (n : number_of y ≡ checked_number p v)
    (l : values_of y ≡ checked_values p v) where
  code : check_code (number_of y) (values_of y) ≡ check_code (checked_number q w) (checked_values q w)
  code = ap₂ check_code (n ∙ ap₂ checked_number p_is v_is) (l ∙ ap₂ checked_values p_is v_is)

  detail : check_detail (number_of y) (values_of y) ≡ check_detail (checked_number q w) (checked_values q w)
  detail = ap₂ check_detail (n ∙ ap₂ checked_number p_is v_is) (l ∙ ap₂ checked_values p_is v_is)

-- a refusal's code
refused_code : (f : Refusal) → 2 ≡ check_code (number f) []
refused_code f = rw (ne_eqb (number f) 0 (number_some f))

pub returns-in-Ok-None-clause-answer : goal.returns-in-Ok-None-clause-answer
returns-in-Ok-None-clause-answer c =
    code _ _ c.new.ensures _ _ c.network_of-w.ensures (Ok None) (rw c.in-Ok-None.field-0-is at c.in-Ok-None.ensures.number) (rw c.in-Ok-None.field-0-is at c.in-Ok-None.ensures.values)

pub returns-in-Ok-None-clause-number : goal.returns-in-Ok-None-clause-number
returns-in-Ok-None-clause-number c =
    detail _ _ c.new.ensures _ _ c.network_of-w.ensures (Ok None) (rw c.in-Ok-None.field-0-is at c.in-Ok-None.ensures.number) (rw c.in-Ok-None.field-0-is at c.in-Ok-None.ensures.values)

pub returns-in-Ok-None-clause-does : goal.returns-in-Ok-None-clause-does
returns-in-Ok-None-clause-does c =
    let q = asked c.args.n c.args.table c.args.free c.args.r c.args.m in
    λ _. subst (λ (w : Network). Does q (listed q.r w)) c.network_of-w.ensures
    ((rw c.new.ensures at c.in-Ok-None.ensures.meaning).does.0 (ap Ok c.in-Ok-None.field-0-is)).1

pub returns-in-Ok-Some-clause-answer : goal.returns-in-Ok-Some-clause-answer
returns-in-Ok-Some-clause-answer c =
    code _ _ c.new.ensures _ _ c.network_of-w.ensures (Ok (Some c.in-Ok-Some.row)) (rw c.in-Ok-Some.field-0-is at c.in-Ok-Some.ensures.number) (rw c.in-Ok-Some.field-0-is at c.in-Ok-Some.ensures.values)

pub returns-in-Ok-Some-clause-number : goal.returns-in-Ok-Some-clause-number
returns-in-Ok-Some-clause-number c =
    c.from.ensures
    ∙ detail _ _ c.new.ensures _ _ c.network_of-w.ensures (Ok (Some c.in-Ok-Some.row)) (rw c.in-Ok-Some.field-0-is at c.in-Ok-Some.ensures.number) (rw c.in-Ok-Some.field-0-is at c.in-Ok-Some.ensures.values)

pub returns-in-Err-clause-answer : goal.returns-in-Err-clause-answer
returns-in-Err-clause-answer c =
    refused_code c.in-Err.refusal
    ∙ code _ _ c.new.ensures _ _ c.network_of-w.ensures (Err c.in-Err.refusal) c.in-Err.ensures.number c.in-Err.ensures.values

pub returns-in-Err-clause-number : goal.returns-in-Err-clause-number
returns-in-Err-clause-number c =
    c.from-in-Err.ensures
    ∙ detail _ _ c.new.ensures _ _ c.network_of-w.ensures (Err c.in-Err.refusal) c.in-Err.ensures.number c.in-Err.ensures.values
