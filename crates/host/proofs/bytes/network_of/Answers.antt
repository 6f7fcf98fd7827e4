-- Each entry is that byte. Assumes nothing.
use Rattle.std.proofs.Common.{rules, List, ℕ, ◌+◌, get_or, ap₂, sym}
use Rattle.host.specs.Bytes.Laws.{part_entries}
use Rattle.prelude.specs.Arrays.{made}
use Rattle.host.proofs.bytes.network_of.Goals as goal

pub returns : goal.returns
returns c =
    let bytes = c.args.bytes in
    ap₂ (λ (a b : List ℕ). record { r = get_or bytes 0 0; literals = a; labels = b })
    (sym (part_entries 1 7 bytes c.from_fn.result (search rules)
    (λ i h. sym (made _ _ (λ s. get_or bytes (1 + s) 0) 7 (λ x y q l z. search rules) _ c.from_fn.ensures.items i 0 h))))
    (sym (part_entries 8 16 bytes c.from_fn-2.result (search rules)
    (λ i h. sym (made _ _ (λ s. get_or bytes (8 + s) 0) 16 (λ x y q l z. search rules) _ c.from_fn-2.ensures.items i 0 h))))
