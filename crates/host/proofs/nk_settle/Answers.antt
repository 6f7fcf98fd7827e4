-- Only "least" has the code 0, and the bytes of a least network are that network. Assumes nothing.
use Rattle.std.proofs.Common.{◌≡◌, List, ℕ, Ok, length, sym, ap, ◌∙◌, subst}
use Rattle.request.specs.Numbers.{asked}
use Rattle.request.specs.declared.Request.{Request}
use Rattle.network.specs.Least.{LeastFor}
use Rattle.lrat_check.specs.Refutation.{Lent}
use Rattle.settle.specs.Settle.{Settling, IsLeast, settled_network, said_values, settlement}
use Rattle.settle.specs.Settle.Meaning.{least_arrays}
use Rattle.settle.specs.declared.Settlement.{Settlement}
use Rattle.settle.specs.declared.Verdict.TheVariants.{Least}
use Rattle.host.specs.Bytes.{network_bytes, network_of}
use Rattle.host.specs.Entries.{verdict_code}
use Rattle.host.specs.Bytes.Laws.{bytes_back}
use Rattle.host.specs.Entries.Laws.{code_least}
use Rattle.host.proofs.nk_settle.Goals as goal

-- from what settling ensures of its result x
module _ (q : Request) (answer refutation : List ℕ) (before : Lent) (x : Settlement) (x_is : Ok x ≡ settlement q answer refutation before)
    (least : x.verdict ≡ Least → LeastFor q x.network) where
  -- the bytes of a least network are that network
  back : x.verdict ≡ Least → (bytes : List ℕ) → bytes ≡ network_bytes x.network → network_of bytes ≡ x.network
  back e bytes b =
      let a = least_arrays q answer refutation before (subst IsLeast x_is e) in
      ap network_of b
      ∙ bytes_back x.network (ap (λ (r : Settling). length (settled_network r).literals) x_is ∙ a.0)
      (ap (λ (r : Settling). length (settled_network r).labels) x_is ∙ a.1)

  -- with the code 0 they are least
  least_bytes : (code : ℕ) → code ≡ verdict_code (said_values q.r x.verdict) → (bytes : List ℕ) → bytes ≡ network_bytes x.network
      → code ≡ 0 → LeastFor q (network_of bytes)
  least_bytes code c bytes b z =
      let e = code_least q.r (Ok x) (sym c ∙ z) in subst (LeastFor q) (sym (back e bytes b)) (least e)

pub returns-in-Ok-clause-least : goal.returns-in-Ok-clause-least
returns-in-Ok-clause-least c =
    least_bytes (asked c.args.n c.args.table c.args.free c.args.k c.args.m) _ _ _ c.in-Ok.settled
    (rw c.new.ensures at c.in-Ok.ensures.settled) (rw c.new.ensures at c.in-Ok.ensures.least) _ c.verdict_code.ensures _ c.network_bytes.ensures
