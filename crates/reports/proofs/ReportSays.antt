-- What a request that was read and settled to "least" prints: the number of switches of the network, which is least. Assumes nothing.
use Rattle.std.specs.Prelude.{◌≡◌, List, ℕ, Ok, Err, IfOk}
use Rattle.std.proofs.Math.Path.{refl}
use Rattle.std.proofs.Common.{sym, ap, ◌∙◌, arith}
use Rattle.refusal.specs.Refusal.{number}
use Rattle.request.specs.Line.{Reading, request_of}
use Rattle.request.specs.declared.Request.{Request}
use Rattle.network.specs.declared.Network.{Network}
use Rattle.network.specs.Least.{LeastFor}
use Rattle.network.proofs.LeastLaws.{least_unique}
use Rattle.lrat_check.specs.Refutation.{Lent}
use Rattle.reports.specs.Reports.{refused_text, fails_text, works_text, least_text}
use Rattle.settle.specs.declared.Verdict.{Verdict}
use Rattle.settle.specs.declared.Verdict.TheVariants.{Least, Works, Fails}
use Rattle.settle.specs.Settle.{Settling, settlement}
use Rattle.settle.specs.Settle.Meaning.{least_told}
use Rattle.reports.specs.Report.{verdict_text, settled_text, read_text, BeginsLeast, SaysLeast}

-- the text of a refusal begins otherwise
refused_otherwise : (x : ℕ) → BeginsLeast (refused_text x) → ⊥
unfolding refused_text
refused_otherwise x b = let z : ◌≡◌ {A = ℕ} 114 108 = cc in omega arith

-- and so do those of the other verdicts
begins_least : (k : ℕ) (w : Network) (v : Verdict) → BeginsLeast (verdict_text k w v) → v ≡ Least
unfolding works_text fails_text
begins_least k w Least b = refl
begins_least k w (Works e) b = absurd (let z : ◌≡◌ {A = ℕ} 119 108 = cc in omega arith)
begins_least k w (Fails row) b = absurd (let z : ◌≡◌ {A = ℕ} 102 108 = cc in omega arith)

module _ (request answer refutation : List ℕ) (s : Lent) where
  pub read_least : (r : Reading) → request_of request ≡ r → BeginsLeast (read_text r answer refutation s)
      → SaysLeast request (read_text r answer refutation s)
  read_least (Err f) e b = absurd (refused_otherwise (number f) b)
  read_least (Ok q) e b = told (settlement q answer refutation s) (least_told q answer refutation s (settlement q answer refutation s) refl) b
    where
      -- by what settling answers
      told : (x : Settling) → IfOk x (λ y. y.verdict ≡ Least → LeastFor q y.network) → BeginsLeast (settled_text q.r x)
          → SaysLeast request (settled_text q.r x)
      told (Ok x) h c =
          let v = begins_least q.r x.network x.verdict c in
          let l = h v in
          record { asked = q; taken = e; network = x.network; text_is = rw (v, l.size); least = l }
      told (Err f) h c = absurd (refused_otherwise (number f) c)

-- two reports that begin with "least", for requests of one n, table, free rows and M, print one number
pub says_one : (a b t u : List ℕ) (q p : Request) → request_of a ≡ Ok q → request_of b ≡ Ok p
    → q.n ≡ p.n → q.table ≡ p.table → q.free ≡ p.free → q.m ≡ p.m → (s : SaysLeast a t) (v : SaysLeast b u)
    → (k : ℕ) × (t ≡ least_text k s.network) × (u ≡ least_text k v.network)
says_one a b t u q p e f n table free m s v =
    let g : s.asked ≡ q = (let x = s.taken in cc) in
    let h : v.asked ≡ p = (let x = v.taken in cc) in
    let same = least_unique s.asked v.asked s.network v.network
    (ap (λ (x : Request). x.n) g ∙ n ∙ sym (ap (λ (x : Request). x.n) h))
    (ap (λ (x : Request). x.table) g ∙ table ∙ sym (ap (λ (x : Request). x.table) h))
    (ap (λ (x : Request). x.free) g ∙ free ∙ sym (ap (λ (x : Request). x.free) h))
    (ap (λ (x : Request). x.m) g ∙ m ∙ sym (ap (λ (x : Request). x.m) h)) s.least v.least in
    (s.network.r, s.text_is, v.text_is ∙ ap (λ (k : ℕ). least_text k v.network) (sym same))
