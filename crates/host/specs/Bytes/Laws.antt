-- An array by its entries, and a network through its bytes. Assumes nothing.
use Rattle.std.specs.Prelude.{◌≡◌, List, ℕ, suc, ◌+◌, ◌<◌, length, get_or}
use Rattle.std.proofs.Common.{sym, ap, ap₂, ◌∙◌, arith, ext_get_or, get_or-append-add}
use Rattle.std.proofs.Math.ListN.{get_or-append}
use Rattle.prelude.specs.Lists.{tab}
use Rattle.prelude.specs.Lists.Laws.{length_tab, get_d_tab}
use Rattle.request.specs.Numbers.{switches_most}
use Rattle.network.specs.Value.{terminals_most}
use Rattle.network.specs.declared.Network.{Network}
use Rattle.host.specs.Bytes.{network_bytes, network_of}

-- the k entries of a list from a on, in a list where they stand
pub part_entries : (a k : ℕ) (whole l : List ℕ) → length l ≡ k → ((i : ℕ) → i < k → get_or whole (a + i) 0 ≡ get_or l i 0)
    → tab a k (λ i. get_or whole i 0) ≡ l
part_entries a k whole l h f =
    let t = length_tab a k (λ i. get_or whole i 0) in
    ext_get_or 0 (tab a k (λ i. get_or whole i 0)) l (t ∙ sym h)
    (λ i g. let b : i < k = omega arith in get_d_tab a k (λ i. get_or whole i 0) i 0 b ∙ f i b)

-- a list of k entries, entry by entry
pub by_entries : (k : ℕ) (l : List ℕ) → length l ≡ k → tab 0 k (λ i. get_or l i 0) ≡ l
by_entries k l h = part_entries 0 k l l h (λ i b. ap (λ (j : ℕ). get_or l j 0) (let z : 0 + i ≡ i = omega arith in z))

-- the network of a network's bytes is that network
pub bytes_back : (w : Network) → length w.literals ≡ switches_most → length w.labels ≡ terminals_most → network_of (network_bytes w) ≡ w
bytes_back w l m =
    ap₂ (λ (a b : List ℕ). record { r = w.r; literals = a; labels = b })
    (part_entries 1 switches_most (network_bytes w) w.literals l (λ i h.
    ap (λ (j : ℕ). get_or (network_bytes w) j 0) (let z : 1 + i ≡ suc i = omega arith in z)
    ∙ get_or-append w.literals w.labels 0 i (omega arith)))
    (part_entries (switches_most + 1) terminals_most (network_bytes w) w.labels m (λ i h.
    ap (λ (j : ℕ). get_or (network_bytes w) j 0) (let z : switches_most + 1 + i ≡ suc (length w.literals + i) = omega arith in z)
    ∙ get_or-append-add w.literals w.labels i 0))
