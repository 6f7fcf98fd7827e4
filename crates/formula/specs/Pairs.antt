-- Pairs and triples below a number, numbered from 0 in order. Assumes nothing.
use Rattle.std.specs.Prelude.{◌≡◌, ℕ, zero, suc, ◌+◌, ◌-◌, ◌<◌}
pub mod Laws

-- the number of pairs v < w below c whose v is below k
unfoldable pub pairs_before : ℕ → ℕ → ℕ
pairs_before c zero = 0
pairs_before c (suc k) = pairs_before c k + (c - suc k)

-- v and w are the pair with the number q among the pairs below c
pub record PairIs (c q v w : ℕ) : Type 0 where
  pub up : v < w
  pub within : w < c
  pub place : q ≡ pairs_before c v + (w - (v + 1))

-- the number of triples i < j < k below c whose i is below h
unfoldable pub triples_before : ℕ → ℕ → ℕ
triples_before c zero = 0
triples_before c (suc h) = triples_before c h + pairs_before (c - suc h) (c - suc h)

-- i, j and k are the triple with the number q among the triples below c: past i, j and k are a pair of what is left
pub record TripleIs (c q i j k : ℕ) : Type 0 where
  pub low : i < j
  pub up : j < k
  pub high : k < c
  pub place : q ≡ triples_before c i + (q - triples_before c i)
  pub within : q - triples_before c i < pairs_before (c - (i + 1)) (c - (i + 1))
  pub rest : PairIs (c - (i + 1)) (q - triples_before c i) (j - (i + 1)) (k - (i + 1))
