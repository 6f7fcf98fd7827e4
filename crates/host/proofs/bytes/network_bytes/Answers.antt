-- Each byte is that of its place. Assumes nothing.
use Rattle.std.proofs.Common.{◌≡◌, rules, List, ℕ, length, get_or, length-append, arith}
use Rattle.std.proofs.lemmas.Grind.{same_number_lists}
use Rattle.host.specs.Bytes.{network_bytes}
use Rattle.prelude.specs.Arrays.{made}
use Rattle.host.proofs.bytes.network_bytes.Goals as goal

pub returns : goal.returns
returns c =
    let bytes : List ℕ = network_bytes c.args.w in
    let long : length c.from_fn.result ≡ 24 = search rules in
    let literals : length c.args.w.literals ≡ 7 = search rules in
    let labels : length c.args.w.labels ≡ 16 = search rules in
    same_number_lists c.from_fn.result bytes (omega (arith, length-append c.args.w.literals c.args.w.labels))
    (λ k h. made _ _ (λ i. get_or bytes i 0) 24 (λ x y q l z. search rules) _ c.from_fn.ensures.items k 0 (omega arith))
