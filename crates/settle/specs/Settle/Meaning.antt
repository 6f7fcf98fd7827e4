-- What "least" means (demand 3): the network does the job, and no network of fewer switches does. Assumes nothing.
use Rattle.std.specs.Prelude.{◌≡◌, List, ℕ, ◌-◌, ◌≤◌, length, Ok, Err, IfOk}
use Rattle.std.proofs.Common.{sym, ap, ◌∙◌, subst, inl, inr, arith, length-append}
use Rattle.std.proofs.lemmas.List.{length-replicate}
use Rattle.prelude.specs.Lists.Laws.{length_tab}
use Rattle.cnf.specs.Cnf.{Assignment}
use Rattle.request.specs.declared.Request.{Request}
use Rattle.request.specs.Numbers.{switches_most}
use Rattle.request.proofs.NumbersLaws.{refusal_good}
use Rattle.network.specs.declared.Network.{Network}
use Rattle.network.specs.Networks.{Net, switches, FormedAs, Formed, Does}
use Rattle.network.proofs.NetworksLaws.{does_with}
use Rattle.network.specs.Check.{checked_of}
use Rattle.network.specs.Value.{terminals_most, listed}
use Rattle.network.specs.Least.{LeastFor}
use Rattle.network.specs.Meaning.{Means}
use Rattle.network.proofs.MeaningLaws.{checked_means}
use Rattle.answer.specs.Decode.{decoded}
use Rattle.answer.specs.Reading.{reading_of}
use Rattle.answer.proofs.ReadingMeaning.{assignment_in, taken_request, taken_describes}
use Rattle.lrat_check.specs.Refutation.{Lent}
use Rattle.lrat_check.specs.Refutation.Sound.{none_more}
use Rattle.settle.specs.declared.Verdict.TheVariants.{Least}
use Rattle.settle.specs.Settle.{Settling, settled_network, IsLeast, smaller, settlement}
use Rattle.settle.specs.Settle.Exactly.{NoneBelow, LeastConditions, least_conditions, conditions_least}

-- ---- a network that is decoded fills its arrays
decoded_literals : (n r : ℕ) (α : Assignment) → r ≤ switches_most → length (decoded n r α).literals ≡ switches_most
unfolding decoded
decoded_literals n r α h = simp (length-append, length_tab, length-replicate) (omega arith)

decoded_labels : (n r : ℕ) (α : Assignment) → r ≤ switches_most → length (decoded n r α).labels ≡ terminals_most
unfolding decoded
decoded_labels n r α h = simp (length-append, length_tab, length-replicate) (omega arith)

decoded_arrays : (q : Request) (answer : List ℕ) → (reading_of q answer).refusal ≡ 0
    → (length (reading_of q answer).network.literals ≡ switches_most) × (length (reading_of q answer).network.labels ≡ terminals_most)
decoded_arrays q answer taken =
    let w = (taken_describes q answer taken).network in
    let h = (refusal_good q (taken_request q answer taken)).r_high in (
      ap (λ (x : Network). length x.literals) w ∙ decoded_literals q.n q.r (assignment_in q answer) h,
      ap (λ (x : Network). length x.labels) w ∙ decoded_labels q.n q.r (assignment_in q answer) h,
    )

-- what the check of a decoded network means
pub decoded_means : (q : Request) (answer : List ℕ) → (reading_of q answer).refusal ≡ 0
    → Means q (reading_of q answer).network (checked_of q (reading_of q answer).network)
decoded_means q answer taken =
    let a = decoded_arrays q answer taken in
    checked_means q (reading_of q answer).network a.0 a.1

module _ (q : Request) (answer refutation : List ℕ) (s : Lent) where
  -- the network that the answer describes
  abbrev read : Network
  read = (reading_of q answer).network

  -- at k = 0, and where the refutation for k−1 ends in "none", each network that does the job has k switches or more
  none_fewer : NoneBelow q refutation s → (v : Net) → Formed q v → Does q v → q.r ≤ switches v
  none_fewer (inl z) v form job = omega arith
  none_fewer (inr o) v form job = let h = none_more (smaller q) refutation s o v form ((does_with q (q.r - 1) v).1 job) in omega arith

  -- the conditions of "least" are those of demand 3
  conditions_for : LeastConditions q answer refutation s → LeastFor q (reading_of q answer).network
  conditions_for t =
      let m = (decoded_means q answer t.taken).does.0 t.does_job in
      let a = m.0 in
      record {
        size = a.size;
        form = subst (λ (k : ℕ). FormedAs q.n k (listed q.r read)) (sym a.form.literals_long) a.form;
        does = m.1;
        least = none_fewer t.below;
      }

  -- where settling says "least", the network that it hands back is the decoded one
  least_network : IsLeast (settlement q answer refutation s) → settled_network (settlement q answer refutation s) ≡ (reading_of q answer).network
  least_network e = ap settled_network (conditions_least q answer refutation s (least_conditions q answer refutation s e))

  -- so it fills its arrays
  pub least_arrays : IsLeast (settlement q answer refutation s)
      → (length (settled_network (settlement q answer refutation s)).literals ≡ switches_most)
      × (length (settled_network (settlement q answer refutation s)).labels ≡ terminals_most)
  least_arrays e =
      let a = decoded_arrays q answer (least_conditions q answer refutation s e).taken in (
        ap (λ (x : Network). length x.literals) (least_network e) ∙ a.0,
        ap (λ (x : Network). length x.labels) (least_network e) ∙ a.1,
      )

  -- and it has k switches and does the job, and none of fewer does
  pub least_for : IsLeast (settlement q answer refutation s) → LeastFor q (settled_network (settlement q answer refutation s))
  least_for e = subst (LeastFor q) (sym (least_network e)) (conditions_for (least_conditions q answer refutation s e))

  -- the same of what settling answers, where it is no refusal
  pub least_told : (r : Settling) → r ≡ settlement q answer refutation s → IfOk r (λ x. x.verdict ≡ Least → LeastFor q x.network)
  least_told (Ok x) f = λ e. subst (LeastFor q) (ap settled_network (sym f)) (least_for (subst IsLeast f e))
  least_told (Err x) f = tt
