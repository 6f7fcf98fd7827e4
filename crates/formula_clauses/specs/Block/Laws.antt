-- Laws of the blocks: how many clauses and literals they have, and that they are the request's clauses. Assumes nothing.
use Rattle.std.specs.Prelude.{◌≡◌, length}
use Rattle.std.proofs.Math.Path.{refl, sym, ap, ap₂}
use Rattle.std.proofs.Common.{◌∙◌, subst, eq-or-lt_of_le, zero-add, add-one, length-append, get_or-append-add, ne_eqb}
use mathlib.Core.List.{List, [], ◌∷◌, ◌++◌, append_assoc, append-nil}
use Rattle.std.proofs.Math.Logic.{⊎_elim}
use Prim.Native.Nat.{ℕ, zero, suc, ◌+◌, ◌-◌, ◌*◌, ◌^◌, ◌≤◌, ◌<◌}
use Rattle.std.proofs.Math.Nat.{add-zero}
use native.Mathlib.Omega.{arith}
use Rattle.std.proofs.Math.ListN.{get_or, get_or-append, get_or-eq_default}
use Rattle.prelude.specs.Lists.{Each}
use Rattle.prelude.specs.Lists.Laws.{each_first, each_last}
use Rattle.prelude.specs.Blocks.{flatten}
use Rattle.prelude.specs.Blocks.Laws.{flatten_append}
use Rattle.cnf.specs.Cnf.{Clause, Formula}
use Rattle.rows.specs.Rows.{Row, set_below, kind_of, by_kind, off_below, row_at, rows_of, literal_on}
use Rattle.rows.proofs.RowsLaws.{on_off_most, off_count}
use Rattle.rows.specs.declared.Kind.{Kind}
use Rattle.rows.specs.declared.Kind.TheVariants.{On as on, Off as off, Free as free}
use Rattle.request.specs.Numbers.{Good, refusal_of}
use Rattle.request.proofs.NumbersLaws.{good_refusal, refusal_good, rows_high}
use Rattle.request.specs.declared.Request.{Request}
use Rattle.formula.specs.Formula.{terminals, P, transitivity, choices, on_row, off_row, row_clauses, rows_from, formula, formula_of, network_variables}
use Rattle.formula.proofs.FormulaOnRow.{on_row_length, on_row_literals_lem}
use Rattle.formula.proofs.FormulaOffRow.{off_row_length, off_row_literals_lem}
use Rattle.formula.proofs.FormulaRows.{variables_in, rows_append}
use Rattle.formula.specs.Pairs.{pairs_before}
use Rattle.formula.specs.Count.{on_row_count, off_row_count, network_count, split, variables_before}
use Rattle.formula.proofs.CountLaws.{weighted_most, rows_below, below_more, variables_below, rows_clauses_lem, split_more, network_length, network_literals_lem}
use Rattle.formula.specs.Number.{clause_of}
use Rattle.formula.proofs.NumberLaws.{clause_good}
use Rattle.formula_clauses.specs.declared.Block.{Block}
use Rattle.formula_clauses.specs.declared.Block.TheVariants.{Network, On, Off, Free}
use Rattle.formula_clauses.specs.Bounds.{row_most, sides_most, rows_most_lem, variables_few}
use Rattle.formula_clauses.specs.Block.{network_clause, block_clauses, block_variables, block_count, block_literals, block_of, clauses_of, blocks_below}

-- how many clauses
pub block_length : (n r m : ℕ) (b : Block) → length (block_clauses n r m b) ≡ block_count n r m b
block_length n r m Network =
    length-append (transitivity (terminals r)) (choices n (terminals r) r) ∙ network_length n r
block_length n r m (On B k) = on_row_length n r m B k
block_length n r m (Off B k) = off_row_length n (terminals r) r B k
block_length n r m Free = refl

-- how many literals
pub block_literals_lem : (n r m : ℕ) (b : Block) → length (flatten (block_clauses n r m b)) ≡ block_literals n r m b
unfolding flatten
block_literals_lem n r m Network =
    ap length (flatten_append (transitivity (terminals r)) (choices n (terminals r) r))
    ∙ length-append (flatten (transitivity (terminals r))) (flatten (choices n (terminals r) r)) ∙ network_literals_lem n r
block_literals_lem n r m (On B k) = on_row_literals_lem n r m B k
block_literals_lem n r m (Off B k) = off_row_literals_lem n (terminals r) r B k
block_literals_lem n r m Free = refl

-- a request whose test answers 0 is good
pub request_good : (q : Request) {x : ℕ} → x ≡ refusal_of q → (x ≡ 0) → Good q
request_good q e z = refusal_good q (sym e ∙ z)

-- bounds on the parts of a row's clauses, for a request that is not refused
pub row_bounds : (q : Request) → Good q
    → (2 * q.r * q.n ≤ 240) × (2 * q.r * (2 * q.r) ≤ 900) × (q.m * (2 * q.r + 1) ≤ 465) × (q.m * (2 * q.r * q.n) ≤ 3600) × ((q.m - 1) * (2 * q.r * (2 * q.r)) ≤ 12600)
row_bounds q g = row_most q.n q.r q.m (omega (arith, g.n_high), omega (arith, g.r_high), omega (arith, g.m_high))

pub side_bounds : (q : Request) → Good q → (q.r * (q.n * 2) ≤ 240) × (pairs_before (2 * q.r + 2) (2 * q.r + 2) ≤ 512)
side_bounds q g = sides_most q.n q.r (omega (arith, g.n_high), omega (arith, g.r_high))

-- the rows that are on and off of those below row k, by the ones of the two numbers: so much for each
pub weighed : (q : Request) (k on_rows free_rows a b : ℕ) → Good q → k ≤ 2 ^ q.n → a ≤ 50000 → b ≤ 50000
    → on_rows ≡ set_below q.table k → free_rows ≡ set_below q.free k
    → (on_rows + free_rows ≤ k)
    × (on_rows * a + (k - on_rows - free_rows) * b ≤ 800000)
    × (on_rows * a + (k - on_rows - free_rows) * b ≡ split q a b k)
unfolding split
weighed q k on_rows free_rows a b g h x y t f =
    let e = off_count q k (λ j l. g.one_kind j (omega arith)) in
    let r = rows_high q.n g.n_high in
    let o : k - on_rows - free_rows ≡ off_below q k = omega arith in (
      omega arith,
      rows_most_lem on_rows (k - on_rows - free_rows) a b (omega arith) x y,
      ap₂ (λ (m n : ℕ). m * a + n * b) t o,
    )

-- a clause of groups 1 and 2: none of a refused request, none past the last
pub network_refused : (q : Request) (k x : ℕ) → x ≡ refusal_of q → (x ≡ 0 → ⊥) → [] ≡ network_clause q k
unfolding network_clause
network_refused q k x e h = rw (ne_eqb (refusal_of q) 0 (λ z. h (e ∙ z)))

pub network_good : (q : Request) (k : ℕ) → Good q
    → network_clause q k ≡ get_or (transitivity (terminals q.r) ++ choices q.n (terminals q.r) q.r) k []
unfolding network_clause
network_good q k g = rw (good_refusal q g)

pub network_past : (q : Request) (k : ℕ) → Good q → network_count q.n q.r ≤ k → [] ≡ network_clause q k
network_past q k g h =
    let e = block_length q.n q.r 0 Network in
    sym (network_good q k g ∙ get_or-eq_default (transitivity (terminals q.r) ++ choices q.n (terminals q.r) q.r) [] (omega arith))

-- the first block, and the block of a row
pub block_first : (q : Request) (b : ℕ) → b ≡ 0 → Network ≡ block_of q b
block_first q b e = rw e

pub block_row : (q : Request) (b k B : ℕ) {x y : Kind} → b ≡ suc k → B ≡ variables_before q k → x ≡ kind_of q k → x ≡ y
    → by_kind (On B k) (Off B k) Free y ≡ block_of q b
block_row q b k B s v e f =
    ap₂ (λ (t : Kind) (B : ℕ). by_kind (On B k) (Off B k) Free t) (sym f ∙ e) v ∙ sym (ap (block_of q) s)

module _ (q : Request) where
  abbrev base : ℕ
  base = network_variables q.n q.r

  -- the block of a row has the row's clauses
  row_block : (k : ℕ) → clauses_of q (suc k) ≡ row_clauses q.n q.r q.m (variables_before q k) (row_at q k)
  unfolding row_clauses
  row_block k = go (kind_of q k)
    where
      go : (x : Kind)
          → block_clauses q.n q.r q.m (by_kind (On (variables_before q k) k) (Off (variables_before q k) k) Free x)
          ≡ by_kind (on_row q.n q.r q.m (variables_before q k) (literal_on q.n k)) (off_row q.n (terminals q.r) q.r (variables_before q k) (literal_on q.n k)) [] x
      go on = refl
      go off = refl
      go free = refl

  -- the variables before the next row
  pub before_more : (b : ℕ) → variables_before q (b - 1) + block_variables q.r q.m (block_of q b) ≡ variables_before q b
  unfolding variables_before
  before_more zero = add-zero _
  before_more (suc k) =
      let e = split_more q (q.m * (2 * q.r + 1)) (terminals q.r) k in
      let f = go (kind_of q k) in
      let z : suc k - 1 ≡ k = omega arith in
      ap (λ (x : ℕ). base + split q (q.m * (2 * q.r + 1)) (terminals q.r) x + block_variables q.r q.m (block_of q (suc k))) z ∙ omega arith
    where
      go : (x : Kind)
          → block_variables q.r q.m (by_kind (On (variables_before q k) k) (Off (variables_before q k) k) Free x)
          ≡ by_kind (q.m * (2 * q.r + 1)) (terminals q.r) 0 x
      go on = refl
      go off = refl
      go free = refl

  -- they have 16-bit numbers
  pub before_most : (k : ℕ) → Good q → k ≤ 2 ^ q.n → variables_before q k ≤ 65535
  unfolding variables_before split P
  before_most k g h =
      let i = g.r_high in
      let j = g.m_high in
      let m = row_most 0 q.r q.m (omega arith, omega arith, omega arith) in
      let few = variables_few q.n q.r (omega (arith, g.n_high)) (omega arith) in
      let rows = weighted_most (set_below q.table k) (off_below q k) (q.m * (2 * q.r + 1)) (2 * q.r + 2) 465
      (omega (arith, on_off_most q k, rows_high q.n g.n_high)) (omega arith) (omega arith) in
      omega arith

  -- the first block and those of the rows below k
  blocks_rows : (k : ℕ) → blocks_below q (suc k) ≡ clauses_of q 0 ++ rows_from q.n q.r q.m base (rows_below q k)
  unfolding blocks_below rows_from variables_before
  blocks_rows zero = sym (append-nil (clauses_of q 0))
  blocks_rows (suc k) =
      let rows : List Row = rows_below q k in
      let row : Row = row_at q k in
      let before : variables_before q k ≡ base + variables_in q.r q.m rows =
      ap (λ (x : ℕ). base + x) (sym (variables_below q k)) in
      ap₂ (λ (f g : Formula). f ++ g) (blocks_rows k) (row_block k ∙ ap (λ (B : ℕ). row_clauses q.n q.r q.m B row) before)
      ∙ append_assoc (clauses_of q 0) (rows_from q.n q.r q.m base rows) _
      ∙ ap (λ (f : Formula). clauses_of q 0 ++ f)
      (ap (λ (f : Formula). rows_from q.n q.r q.m base rows ++ f) (sym (append-nil (row_clauses q.n q.r q.m (base + variables_in q.r q.m rows) row)))
      ∙ sym (ap (rows_from q.n q.r q.m base) (below_more q k) ∙ rows_append q.n q.r q.m base rows (row ∷ [])))

  -- all blocks are the request's clauses
  pub blocks_all : blocks_below q (suc (2 ^ q.n)) ≡ formula_of q
  unfolding formula_of formula rows_of
  blocks_all =
      blocks_rows (2 ^ q.n) ∙ append_assoc (transitivity (terminals q.r)) (choices q.n (terminals q.r) q.r) _

  -- what lies below a block lies below a later one
  blocks_split : (b c : ℕ) → b ≤ c → (rest : Formula) × (blocks_below q c ≡ blocks_below q b ++ rest)
  unfolding blocks_below
  blocks_split b zero h = ([], let e : b ≡ 0 = omega arith in rw e)
  blocks_split b (suc c) h =
      ⊎_elim (λ (e : b ≡ suc c). ([], sym (append-nil _) ∙ rw e)) (λ (l : b < suc c).
      let s = blocks_split b c (omega arith) in
      (s.0 ++ clauses_of q c, ap (λ (f : Formula). f ++ clauses_of q c) s.1 ∙ append_assoc (blocks_below q b) s.0 (clauses_of q c))) (eq-or-lt_of_le h)

  -- a block with those below it and after it
  pub record Among (b : ℕ) : Type 0 where
    pub rest : Formula
    pub parts : formula_of q ≡ blocks_below q b ++ (clauses_of q b ++ rest)

  pub among : (b : ℕ) → b ≤ 2 ^ q.n → Among b
  unfolding blocks_below
  among b h =
      let s = blocks_split (suc b) (suc (2 ^ q.n)) (omega arith) in
      record { rest = s.0; parts = sym blocks_all ∙ s.1 ∙ append_assoc (blocks_below q b) (clauses_of q b) s.0 }

  -- it has no more clauses, and no more literals, than the request
  pub block_within : (b : ℕ) → b ≤ 2 ^ q.n
      → (length (blocks_below q b) + length (clauses_of q b) ≤ length (formula_of q))
      × (length (flatten (blocks_below q b)) + length (flatten (clauses_of q b)) ≤ length (flatten (formula_of q)))
  block_within b h =
      let a = among b h in
      let e : length (formula_of q) ≡ length (blocks_below q b) + (length (clauses_of q b) + length a.rest) =
      ap length a.parts ∙ length-append (blocks_below q b) _ ∙ ap (λ (x : ℕ). length (blocks_below q b) + x) (length-append (clauses_of q b) a.rest) in
      let f : length (flatten (formula_of q)) ≡ length (flatten (blocks_below q b)) + (length (flatten (clauses_of q b)) + length (flatten a.rest)) =
      ap (λ (x : Formula). length (flatten x)) a.parts ∙ ap length (flatten_append (blocks_below q b) _)
      ∙ length-append (flatten (blocks_below q b)) _
      ∙ ap (λ (x : ℕ). length (flatten (blocks_below q b)) + x) (ap length (flatten_append (clauses_of q b) a.rest) ∙ length-append (flatten (clauses_of q b)) (flatten a.rest)) in
      (omega arith, omega arith)

  -- what holds of each of the request's clauses holds of each of its
  pub block_each : (T : Clause → Type 0) (b : ℕ) → b ≤ 2 ^ q.n → Each T (formula_of q) → Each T (clauses_of q b)
  block_each T b h e =
      let a = among b h in
      each_first T (clauses_of q b) a.rest (each_last T (blocks_below q b) _ (subst (Each T) a.parts e))

  -- clause j of a block, past the blocks below it
  clause_in : (b j : ℕ) → b ≤ 2 ^ q.n → j < length (clauses_of q b) → get_or (formula_of q) (length (blocks_below q b) + j) [] ≡ get_or (clauses_of q b) j []
  clause_in b j h l =
      let a = among b h in
      ap (λ (f : Formula). get_or f (length (blocks_below q b) + j) []) a.parts
      ∙ get_or-append-add (blocks_below q b) (clauses_of q b ++ a.rest) j [] ∙ get_or-append (clauses_of q b) a.rest [] j l

  abbrev rows_split : ℕ → ℕ
  rows_split k = split q (on_row_count q.n q.r q.m) (off_row_count q.n (terminals q.r) q.r) k

  -- the clauses below the block of row k
  below_length : (k : ℕ) → length (blocks_below q (suc k)) ≡ network_count q.n q.r + rows_split k
  below_length k =
      ap length (blocks_rows k) ∙ length-append (clauses_of q 0) _
      ∙ ap₂ (λ (x y : ℕ). x + y) (block_length q.n q.r q.m Network) (rows_clauses_lem q base k)

  -- those of the block of row k
  row_count : (k : ℕ) → block_count q.n q.r q.m (block_of q (suc k)) + rows_split k ≡ rows_split (suc k)
  row_count k =
      let e = split_more q (on_row_count q.n q.r q.m) (off_row_count q.n (terminals q.r) q.r) k in
      let f = go (kind_of q k) in
      omega arith
    where
      go : (x : Kind)
          → block_count q.n q.r q.m (by_kind (On (variables_before q k) k) (Off (variables_before q k) k) Free x)
          ≡ by_kind (on_row_count q.n q.r q.m) (off_row_count q.n (terminals q.r) q.r) 0 x
      go on = refl
      go off = refl
      go free = refl

  module _ (good : Good q) (number : ℕ) where
    -- a clause by its number: of groups 1 and 2, of row k, and past the last
    pub number_network : number < network_count q.n q.r → get_or (clauses_of q 0) number [] ≡ clause_of q number
    unfolding blocks_below
    number_network h =
        let e = block_length q.n q.r q.m Network in
        sym (clause_good q number good ∙ ap (λ (x : ℕ). get_or (formula_of q) x []) (sym (zero-add number)) ∙ clause_in 0 number (omega arith) (omega arith))

    pub network_number : number < network_count q.n q.r → network_clause q number ≡ clause_of q number
    network_number h = network_good q number good ∙ number_network h

    pub number_row : (k : ℕ) → k < 2 ^ q.n → network_count q.n q.r ≤ number → rows_split k ≤ number - network_count q.n q.r
        → number - network_count q.n q.r < rows_split (k + 1)
        → (number - network_count q.n q.r - rows_split k < block_count q.n q.r q.m (block_of q (k + 1)))
        × (get_or (clauses_of q (k + 1)) (number - network_count q.n q.r - rows_split k) [] ≡ clause_of q number)
    number_row k h u l m =
        let j : ℕ = number - network_count q.n q.r - rows_split k in
        let one = add-one k in
        let c = row_count k in
        let b = below_length k in
        let d = block_length q.n q.r q.m (block_of q (suc k)) in
        let n = rw one at m in
        let in' : j < block_count q.n q.r q.m (block_of q (suc k)) = omega arith in
        let place : length (blocks_below q (suc k)) + j ≡ number = omega arith in
        rw one (in', sym (clause_good q number good ∙ ap (λ (x : ℕ). get_or (formula_of q) x []) (sym place) ∙ clause_in (suc k) j (omega arith) (omega arith)))

    pub number_past : network_count q.n q.r ≤ number → rows_split (2 ^ q.n) ≤ number - network_count q.n q.r → [] ≡ clause_of q number
    number_past u l =
        let b = below_length (2 ^ q.n) in
        let e = ap length blocks_all in
        sym (clause_good q number good ∙ get_or-eq_default (formula_of q) [] (omega arith))
