-- Document 01's variable numbers and clauses, in its order. n is the number of inputs, r of switches, N of terminals, m the
-- series bound M, and B the number of variables before a row, value the value of each literal on it. Assumes nothing.
use Rattle.std.specs.Prelude.{Bool, cond, List, [], ◌∷◌, ◌++◌, ℕ, ◌+◌, ◌-◌, ◌*◌, ◌/◌, eqb, ltb}
use Rattle.prelude.specs.Blocks.{for}
use Rattle.cnf.specs.Cnf.{pos, neg, Formula}
use Rattle.rows.specs.Rows.{Row, rows_of, by_kind}
use Rattle.request.specs.declared.Request.{Request}
use Rattle.network.specs.Networks.{source, sink, switch_of, other}
-- "There are N = 2r+2 terminals", passed on
pub use Rattle.network.specs.Networks.{terminals}
pub mod Bounds
pub mod Laws
pub mod Groups

-- "X(i,j), i<j, pairs in order of i then j: i·(2N−i−1)/2 + j−i"
unfoldable pub pair_number : ℕ → ℕ → ℕ → ℕ
pair_number N i j = i * (2 * N - i - 1) / 2 + (j - i)

-- "X(j,i) is the same"
unfoldable pub X : ℕ → ℕ → ℕ → ℕ
X N i j = cond (ltb i j) (pair_number N i j) (pair_number N j i)

-- "P = N(N−1)/2"
unfoldable pub P : ℕ → ℕ
P N = N * (N - 1) / 2

-- "L(s,v) = P + 2n·s + v + 1"
unfoldable pub L : ℕ → ℕ → ℕ → ℕ → ℕ
L n N s v = P N + 2 * n * s + v + 1

-- the X and L variables are the first ones: there are P + 2n·r
abbrev pub network_variables : ℕ → ℕ → ℕ
network_variables n r = P (terminals r) + 2 * n * r

-- "W(t,e) = B+(t−1)(2r+1)+e for e = 1..2r"
unfoldable pub W : ℕ → ℕ → ℕ → ℕ → ℕ
W r B t e = B + (t - 1) * (2 * r + 1) + e

-- "Z(t) = B+(t−1)(2r+1)+2r+1"
abbrev pub Z : ℕ → ℕ → ℕ → ℕ
Z r B t = W r B t (2 * r + 1)

-- "An off row has S(i) = B+i+1"
unfoldable pub S : ℕ → ℕ → ℕ
S B i = B + i + 1

-- group 1, the three clauses of i<j<k
abbrev pub triple : ℕ → ℕ → ℕ → ℕ → Formula
triple N i j k =
    (neg (X N i j) ∷ neg (X N j k) ∷ pos (X N i k) ∷ [])
    ∷ (neg (X N i j) ∷ neg (X N i k) ∷ pos (X N j k) ∷ [])
    ∷ (neg (X N i k) ∷ neg (X N j k) ∷ pos (X N i j) ∷ [])
    ∷ []

-- "For i<j<k"
unfoldable pub transitivity : ℕ → Formula
transitivity N =
    for 0 N (λ i. for (i + 1) (N - (i + 1)) (λ j. for (j + 1) (N - (j + 1)) (λ k. triple N i j k)))

-- group 2, "all L(s,v) in one clause; then (−L(s,v) −L(s,w)) for v<w"
unfoldable pub choice : ℕ → ℕ → ℕ → Formula
choice n N s =
    for 0 (2 * n) (λ v. pos (L n N s v) ∷ [])
    ∷ for 0 (2 * n) (λ v. for (v + 1) (2 * n - (v + 1)) (λ w. (neg (L n N s v) ∷ neg (L n N s w) ∷ []) ∷ []))

-- "For each s"
unfoldable pub choices : ℕ → ℕ → ℕ → Formula
choices n N r = for 0 r (choice n N)

-- group 3, an on row with M above 0. "for each t: W(t,1)..W(t,2r) Z(t)"
unfoldable pub some_step : ℕ → ℕ → ℕ → Formula
some_step r m B = for 1 m (λ t. (for 1 (2 * r) (λ e. pos (W r B t e) ∷ []) ++ (pos (Z r B t) ∷ [])) ∷ [])

-- "Then for each t, e, and each v that is 0 on the row: (−W(t,e) −L(s,v)), s the switch of e"
unfoldable pub closed_step : ℕ → ℕ → ℕ → ℕ → (ℕ → Bool) → Formula
closed_step n r m B value =
    for 1 m (λ t. for 1 (2 * r) (λ e. for 0 (2 * n) (λ v.
    cond (value v) [] ((neg (W r B t e) ∷ neg (L n (terminals r) (switch_of e) v) ∷ []) ∷ []))))

-- "Then for each e: (−W(1,e) X(0,e)); then (−Z(1) X(0,2r+1))"
unfoldable pub first_step : ℕ → ℕ → Formula
first_step r B =
    for 1 (2 * r) (λ e. (neg (W r B 1 e) ∷ pos (X (terminals r) source e) ∷ []) ∷ [])
    ++ ((neg (Z r B 1) ∷ pos (X (terminals r) source (sink r)) ∷ []) ∷ [])

-- "Then for t<M, for each e: for g = 1..2r except e' (−W(t,e) −W(t+1,g) X(e',g)), then (−W(t,e) −Z(t+1) X(e',2r+1))"
unfoldable pub link_step : ℕ → ℕ → ℕ → Formula
link_step r m B =
    for 1 (m - 1) (λ t. for 1 (2 * r) (λ e.
    for 1 (2 * r) (λ g. cond (eqb g (other e)) []
    ((neg (W r B t e) ∷ neg (W r B (t + 1) g) ∷ pos (X (terminals r) (other e) g) ∷ []) ∷ []))
    ++ ((neg (W r B t e) ∷ neg (Z r B (t + 1)) ∷ pos (X (terminals r) (other e) (sink r)) ∷ []) ∷ [])))

-- "Then for each e: (−W(M,e) X(e',2r+1))"
unfoldable pub last_step : ℕ → ℕ → ℕ → Formula
last_step r m B = for 1 (2 * r) (λ e. (neg (W r B m e) ∷ pos (X (terminals r) (other e) (sink r)) ∷ []) ∷ [])

-- "On row, M = 0: (X(0,2r+1)). Otherwise" the five above
unfoldable pub on_row : ℕ → ℕ → ℕ → ℕ → (ℕ → Bool) → Formula
on_row n r m B value =
    cond (eqb m 0) ((pos (X (terminals r) source (sink r)) ∷ []) ∷ [])
    (some_step r m B ++ (closed_step n r m B value ++ (first_step r B ++ (link_step r m B ++ last_step r m B))))

-- an off row, two terminals whose sides are a and b, on one side where x is true: "(−x −a b), (−x a −b)"
abbrev pub same_side : ℕ → ℕ → ℕ → Formula
same_side x a b = (neg x ∷ neg a ∷ pos b ∷ []) ∷ (neg x ∷ pos a ∷ neg b ∷ []) ∷ []

-- "for i<j (−X(i,j) −S(i) S(j)), (−X(i,j) S(i) −S(j))"
unfoldable pub net_sides : ℕ → ℕ → Formula
net_sides N B =
    for 0 N (λ i. for (i + 1) (N - (i + 1)) (λ j.
    same_side (X N i j) (S B i) (S B j)))

-- "for each s with ends a, b and v that is 1 on the row (−L(s,v) −S(a) S(b)), (−L(s,v) S(a) −S(b))"
unfoldable pub switch_sides : ℕ → ℕ → ℕ → ℕ → (ℕ → Bool) → Formula
switch_sides n N r B value =
    for 0 r (λ s. for 0 (2 * n) (λ v.
    cond (value v) (same_side (L n N s v) (S B (2 * s + 1)) (S B (2 * s + 2))) []))

-- "Off row: (−S(0)); (S(2r+1));" and the two above
unfoldable pub off_row : ℕ → ℕ → ℕ → ℕ → (ℕ → Bool) → Formula
off_row n N r B value = (neg (S B source) ∷ []) ∷ (pos (S B (sink r)) ∷ []) ∷ (net_sides N B ++ switch_sides n N r B value)

-- the variables of a row; "a free row, which gets no variables or clauses" (document 02, U1)
unfoldable pub row_variables : ℕ → ℕ → Row → ℕ
row_variables r m row = by_kind (m * (2 * r + 1)) (terminals r) 0 row.kind

-- the clauses of a row
unfoldable pub row_clauses : ℕ → ℕ → ℕ → ℕ → Row → Formula
row_clauses n r m B row = by_kind (on_row n r m B row.value) (off_row n (terminals r) r B row.value) [] row.kind

-- "Then rows rising. With B variables before it"
unfoldable pub rows_from : ℕ → ℕ → ℕ → ℕ → List Row → Formula
rows_from n r m B [] = []
rows_from n r m B (row ∷ rows) = row_clauses n r m B row ++ rows_from n r m (B + row_variables r m row) rows

-- groups 1, 2 and 3, over a list of rows
unfoldable pub formula : ℕ → ℕ → ℕ → List Row → Formula
formula n r m rows =
    transitivity (terminals r) ++ (choices n (terminals r) r ++ rows_from n r m (network_variables n r) rows)

-- the clauses of a request
unfoldable pub formula_of : Request → Formula
formula_of q = formula q.n q.r q.m (rows_of q)
