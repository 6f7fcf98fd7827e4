-- What "least" gives: one number for the rows and a bound, no higher one where more rows are free, and current row by row as the two
-- row numbers say. Assumes nothing.
use Rattle.std.specs.Prelude.{◌≡◌, true, false, List, [], ◌∷◌, ◌⊎◌, ℕ, zero, suc, ◌^◌, ◌≤◌, ◌<◌, length, take}
use Rattle.std.proofs.Common.{sym, subst, ⊎_elim, arith}
use Rattle.prelude.specs.Lists.Laws.{each_in, each_out}
use Rattle.rows.specs.Rows.{bit, kind_of, literal_on, row_at, rows_of}
use Rattle.rows.proofs.RowsLaws.{kind_on, kind_off, rows_length, rows_at, rows_same}
use Rattle.rows.specs.declared.Kind.{Kind}
use Rattle.rows.specs.declared.Kind.TheVariants.{On, Off, Free}
use Rattle.request.specs.declared.Request.{Request}
use Rattle.network.specs.declared.Network.{Network}
use Rattle.network.specs.Networks.{Net, source, sink, literal_at, label_at, switches, FormedAs, closed_on, Walk, DoneIf, Done, DoesAll, Does}
use Rattle.network.specs.Value.{listed}
use Rattle.network.specs.Least.{LeastFor}

-- the first i of a list are i at most
take_most : (i : ℕ) (l : List ℕ) → length (take i l) ≤ i
take_most zero l = omega arith
take_most (suc i) [] = omega arith
take_most (suc i) (x ∷ l) = let h = take_most i l in omega arith

-- so a network in arrays has r switches at most
listed_most : (r : ℕ) (w : Network) → switches (listed r w) ≤ r
unfolding listed
listed_most r w = take_most r w.literals

-- and a least one has just r, as it is compared with itself too
pub least_switches : (q : Request) (w : Network) → LeastFor q w → switches (listed q.r w) ≡ q.r
least_switches q w l = let h = l.least (listed q.r w) l.form l.does in let m = listed_most q.r w in omega arith

-- the k of one is at most that of another for the same n, rows and M
at_most : (q p : Request) (w v : Network) → q.n ≡ p.n → q.table ≡ p.table → q.free ≡ p.free → q.m ≡ p.m
    → LeastFor q w → LeastFor p v → q.r ≤ p.r
at_most q p w v a b f c l k =
    let x : Net = listed p.r v in
    let h = l.least x (subst (λ (n : ℕ). FormedAs n (switches x) x) (sym a) k.form)
    (subst (DoesAll (switches x) q.m x) (sym (rows_same q p a b f))
    (subst (λ (m : ℕ). DoesAll (switches x) m x (rows_of p)) (sym c) k.does)) in
    let m = least_switches p v k in
    omega arith

-- two networks that are least for the same n, rows and M have the same number of switches
pub least_unique : (q p : Request) (w v : Network) → q.n ≡ p.n → q.table ≡ p.table → q.free ≡ p.free → q.m ≡ p.m
    → LeastFor q w → LeastFor p v → w.r ≡ v.r
least_unique q p w v a b f c l k =
    let g = at_most q p w v a b f c l k in
    let h = at_most p q v w (sym a) (sym b) (sym f) (sym c) k l in
    let i = l.size in
    let j = k.size in
    omega arith

-- p is q with more rows free: n and M are the same, and a row of p is free or what it is in q
pub record Freed (q p : Request) : Type 0 where
  pub inputs : q.n ≡ p.n
  pub series : q.m ≡ p.m
  pub rows : (k : ℕ) → k < 2 ^ q.n → (kind_of p k ≡ Free) ⊎ (kind_of p k ≡ kind_of q k)

-- row k of p asks no more than that of q
freed_row : (q p : Request) (w : Net) (r k : ℕ) → Freed q p → k < 2 ^ q.n → Done r q.m w (row_at q k) → Done r p.m w (row_at p k)
freed_row q p w r k f h d =
    subst (λ (n : ℕ). DoneIf (kind_of p k) r p.m (λ s. literal_on n k (literal_at w s)) (label_at w)) f.inputs
    (subst (λ (m : ℕ). DoneIf (kind_of p k) r m (closed_on (row_at q k) w) (label_at w)) f.series
    (⊎_elim
    (λ (e : kind_of p k ≡ Free). subst (λ (x : Kind). DoneIf x r q.m (closed_on (row_at q k) w) (label_at w)) (sym e) tt)
    (λ (e : kind_of p k ≡ kind_of q k). subst (λ (x : Kind). DoneIf x r q.m (closed_on (row_at q k) w) (label_at w)) (sym e) d)
    (f.rows k h)))

-- a network that does the job does it with more rows free
pub freed_does : (q p : Request) (w : Net) → Freed q p → Does q w → Does p w
freed_does q p w f d =
    let r = switches w in
    let e : 2 ^ q.n ≡ 2 ^ p.n = rw f.inputs in
    each_in (Done r p.m w) (rows_of p) (row_at p 0) (λ k h.
    let g : k < 2 ^ q.n = rw e (rw rows_length at h) in
    subst (Done r p.m w) (sym (rows_at p k (row_at p 0) (rw rows_length at h)))
    (freed_row q p w r k f g
    (subst (Done r q.m w) (rows_at q k (row_at q 0) g) (each_out (Done r q.m w) (rows_of q) (row_at q 0) d k (rw rows_length g)))))

-- so with more rows free the least number is no higher
pub freed_least : (q p : Request) (w v : Network) → Freed q p → LeastFor q w → LeastFor p v → p.r ≤ q.r
freed_least q p w v f l k =
    let x : Net = listed q.r w in
    let h = k.least x (subst (λ (n : ℕ). FormedAs n (switches x) x) f.inputs l.form) (freed_does q p x f l.does) in
    let m = least_switches q w l in
    omega arith

-- the walk through the listed ends joins the source to the sink over the switches that are closed on row k
abbrev pub Joins : Request → Net → ℕ → List ℕ → Type 0
Joins q w k es = Walk q.r (λ s. literal_on q.n k (literal_at w s)) (label_at w) source es (sink q.r)

-- row k conducts as its two bits say: where the table's is 1, by a walk of at most M switches; where both are 0, by none
pub record Conducts (q : Request) (w : Net) (k : ℕ) : Type 0 where
  pub on : bit q.table k ≡ true → (es : List ℕ) × (length es ≤ q.m) × Joins q w k es
  pub off : bit q.table k ≡ false → bit q.free k ≡ false → (es : List ℕ) → Joins q w k es → ⊥

-- a least network conducts so on every row
pub least_conducts : (q : Request) (w : Network) → LeastFor q w → (k : ℕ) → k < 2 ^ q.n → Conducts q (listed q.r w) k
least_conducts q w l k h =
    let x : Net = listed q.r w in
    let d : Done (switches x) q.m x (row_at q k) =
    subst (Done (switches x) q.m x) (rows_at q k (row_at q 0) h)
    (each_out (Done (switches x) q.m x) (rows_of q) (row_at q 0) l.does k (rw rows_length h)) in
    let e : DoneIf (kind_of q k) q.r q.m (λ s. literal_on q.n k (literal_at x s)) (label_at x) =
    subst (λ (r : ℕ). DoneIf (kind_of q k) r q.m (λ s. literal_on q.n k (literal_at x s)) (label_at x)) (least_switches q w l) d in
    let done : (t : Kind) → kind_of q k ≡ t → DoneIf t q.r q.m (λ s. literal_on q.n k (literal_at x s)) (label_at x) =
    λ t b. subst (λ (t : Kind). DoneIf t q.r q.m (λ s. literal_on q.n k (literal_at x s)) (label_at x)) b e in
    record { on = λ b. done On (kind_on q k b); off = λ b f. done Off (kind_off q k b f) }
