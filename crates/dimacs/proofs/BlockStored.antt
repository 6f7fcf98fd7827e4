-- The blocks of a request: each has room in the arrays in which its clauses are stored, and their lines one after the other are the
-- file's. Assumes nothing.
use Rattle.std.specs.Prelude.{◌≡◌, Ok, Err, Bool, ◌&&◌, List, [], ◌++◌, ℕ, suc, ◌+◌, ◌*◌, ◌^◌, ◌≤◌, T, leb, ℤ, length}
use Rattle.std.proofs.Common.{sym, ◌∙◌, add-one, arith, leb→le, length-append}
use Rattle.std.proofs.Math.Path.{ap}
use Rattle.prelude.specs.Blocks.{flatten, pairs_from}
use Rattle.prelude.specs.Finite.{below, below_at}
use Rattle.prelude.specs.Lists.{Each}
use Rattle.prelude.specs.Tests.{and_l, and_r}
use Rattle.prelude.specs.Written.{written}
use Rattle.cnf.specs.Cnf.{Formula}
use Rattle.refusal.specs.declared.Refusal.{Refusal}
use Rattle.request.specs.Numbers.{inputs_most, switches_most, series_most, Good, refusal_of}
use Rattle.request.proofs.NumbersLaws.{good_refusal}
use Rattle.request.specs.declared.Request.{Request}
use Rattle.formula.specs.Formula.{formula_of}
use Rattle.formula.proofs.FormulaRange.{ClauseIn, range}
use Rattle.formula.specs.Count.{on_row_count, on_row_literals, variable_count}
use Rattle.formula.specs.Pairs.{pairs_before, triples_before}
use Rattle.formula_clauses.specs.declared.Block.{Block}
use Rattle.formula_clauses.specs.declared.Block.TheVariants.{Network, On, Off, Free}
use Rattle.formula_clauses.specs.declared.store.BlockSizes.{BlockSizes}
use Rattle.formula_clauses.specs.Block.{block_count, block_literals, block_of, clauses_of, blocks_below, block_formula}
use Rattle.formula_clauses.specs.Block.Laws.{block_length, block_literals_lem, blocks_all, block_each, among}
use Rattle.formula_clauses.specs.Store.{signs, block_refusal, block_sizes, block_literals_in, block_pairs_in}
use Rattle.formula_clauses.specs.Store.Laws.{room_none, block_there, block_taken, block_ok, block_stored}
use Rattle.dimacs.specs.File.{body_text}
use Rattle.dimacs.proofs.FileLaws.{body_append, body_none}
use Rattle.dimacs.specs.Block.{block_text, literals_room, clauses_room, Within, Loaded}
use Rattle.dimacs.proofs.BlockLaws.{block_within, block_body}

-- whether a block for n inputs, r switches and the series bound m has room; its row and where its variables begin do not matter
abbrev small : ℕ → ℕ → ℕ → Block → Bool
small n r m b = leb (block_count n r m b) clauses_room && leb (block_literals n r m b) literals_room

all_small : ℕ → ℕ → ℕ → Bool
all_small n r m = small n r m Network && (small n r m (On 0 0) && small n r m (Off 0 0))

-- one computation over the numbers that a request can have
all_small_lem : T (below (suc inputs_most) (λ n. below (suc switches_most) (λ r. below (suc series_most) (all_small n r))))
unfolding all_small on_row_count on_row_literals pairs_before triples_before
all_small_lem = tt

module _ (n r m : ℕ) (n_high : n ≤ inputs_most) (r_high : r ≤ switches_most) (m_high : m ≤ series_most) where
  small_at : T (all_small n r m)
  small_at =
      below_at (suc series_most) (all_small n r)
      (below_at (suc switches_most) (λ r. below (suc series_most) (all_small n r))
      (below_at (suc inputs_most) (λ n. below (suc switches_most) (λ r. below (suc series_most) (all_small n r))) all_small_lem n (omega arith))
      r (omega arith)) m (omega arith)

  small_block : (b : Block) → T (small n r m b)
  unfolding all_small
  small_block Network = and_l (small n r m Network) _ small_at
  small_block (On B k) = and_l (small n r m (On 0 0)) _ (and_r (small n r m Network) _ small_at)
  small_block (Off B k) = and_r (small n r m (On 0 0)) (small n r m (Off 0 0)) (and_r (small n r m Network) _ small_at)
  small_block Free = tt

  -- so it has at most so many clauses and literals
  block_few : (b : Block) → (block_count n r m b ≤ clauses_room) × (block_literals n r m b ≤ literals_room)
  block_few b =
      let c : Bool = leb (block_count n r m b) clauses_room in
      let l : Bool = leb (block_literals n r m b) literals_room in
      let s = small_block b in
      (leb→le (block_count n r m b) clauses_room (and_l c l s), leb→le (block_literals n r m b) literals_room (and_r c l s))

module _ (q : Request) (good : Good q) (b : ℕ) (there : b ≤ 2 ^ q.n) where
  -- the block has room
  block_small : (length (clauses_of q b) ≤ clauses_room) × (length (flatten (clauses_of q b)) ≤ literals_room)
  block_small =
      let t = block_few q.n q.r q.m good.n_high good.r_high good.m_high (block_of q b) in
      let d = block_length q.n q.r q.m (block_of q b) in
      let k = block_literals_lem q.n q.r q.m (block_of q b) in
      (omega arith, omega arith)

  -- its variables are from 1 to V
  block_in : Each (ClauseIn (variable_count q)) (clauses_of q b)
  block_in = block_each q (ClauseIn (variable_count q)) b there (range q)

  -- so it is stored
  module _ (literals : List ℤ) (pairs : List ℕ) (e : literals_room ≡ length literals) (f : 2 * clauses_room ≡ length pairs) where
    block_room : block_refusal q b (length literals) (length pairs) ≡ 0
    block_room =
        let B = block_there q b good there in
        let s = block_small in
        let h = ap length B in
        let k = ap (λ (F : Formula). length (flatten F)) B in
        room_none (refusal_of q) (length (flatten (block_formula q b))) (length (block_formula q b)) (length literals) (length pairs)
        (good_refusal q good) (omega arith) (omega arith)

    -- not refused
    pub never_refused : (x : Refusal) → Err x ≡ block_sizes q b (length literals) (length pairs) → ⊥
    never_refused x h = let z = h ∙ block_taken q b (length literals) (length pairs) block_room in cc

    -- and that leaves it
    pub loaded : {x : BlockSizes} {l : List ℤ} {p : List ℕ} → Ok x ≡ block_sizes q b (length literals) (length pairs)
        → l ≡ block_literals_in q b (length pairs) literals → p ≡ block_pairs_in q b (length literals) pairs → Loaded (clauses_of q b) literals pairs x l p
    loaded {x} x-is l-is p-is =
        let B = block_there q b good there in
        let w = (block_ok q b (length literals) (length pairs) x x-is).1 in
        let t = block_stored q b literals pairs block_room in
        record {
          clauses_are = ap (λ (y : BlockSizes). y.clauses) w ∙ ap length B;
          literals_hold = l-is ∙ sym t.0 ∙ ap (λ (F : Formula). written literals 0 (signs (flatten F))) B;
          pairs_hold = p-is ∙ sym t.1 ∙ ap (λ (F : Formula). written pairs 0 (pairs_from 0 F)) B;
        }

  module _ {old l : List ℤ} {before p : List ℕ} {x : BlockSizes} (stored : Loaded (clauses_of q b) old before x l p) where
    -- then its clauses lie within the literals
    pub loaded_within : Within x.clauses l p
    loaded_within = rw (stored.clauses_are, stored.literals_hold, stored.pairs_hold) (block_within (clauses_of q b) old before)

    -- their lines are the block's
    pub loaded_text : block_text x.clauses l p ≡ body_text (clauses_of q b)
    loaded_text =
        rw (stored.clauses_are, stored.literals_hold, stored.pairs_hold) (block_body (clauses_of q b) old before (variable_count q) block_in)

  -- the lines of the blocks below the next
  pub below_text : body_text (blocks_below q (b + 1)) ≡ body_text (blocks_below q b) ++ body_text (clauses_of q b)
  unfolding blocks_below
  below_text = ap (λ (k : ℕ). body_text (blocks_below q k)) (add-one b) ∙ body_append (blocks_below q b) (clauses_of q b)

  -- are no longer than all
  pub below_size : length (body_text (blocks_below q b)) + length (body_text (clauses_of q b)) ≤ length (body_text (formula_of q))
  below_size =
      let a = among q b there in
      let e = ap (λ (F : Formula). length (body_text F)) a.parts ∙ ap length (body_append (blocks_below q b) (clauses_of q b ++ a.rest))
      ∙ length-append (body_text (blocks_below q b)) _ in
      let f = ap length (body_append (clauses_of q b) a.rest) ∙ length-append (body_text (clauses_of q b)) (body_text a.rest) in
      omega arith

-- no block, and all
pub below_first : (q : Request) → body_text (blocks_below q 0) ≡ []
unfolding blocks_below
below_first q = body_none

pub below_last : (q : Request) (b : ℕ) → b ≡ 2 ^ q.n + 1 → body_text (blocks_below q b) ≡ body_text (formula_of q)
below_last q b e = ap body_text (ap (blocks_below q) (e ∙ add-one (2 ^ q.n)) ∙ blocks_all q)
