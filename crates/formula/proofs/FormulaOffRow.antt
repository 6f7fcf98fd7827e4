-- Laws of an off row's clauses: how many, how many literals, and which clause stands at a number. Assumes nothing.
use Rattle.std.specs.Prelude.{◌≡◌, refl, Bool, true, false, cond, List, [], ◌∷◌, ◌++◌, ℕ, suc, ◌+◌, ◌-◌, ◌*◌, ◌/◌, ◌%◌, ◌≤◌, ◌<◌, length, get_or}
use Rattle.std.proofs.Common.{sym, ap, ◌∙◌, div-add-mod', mod-lt, mul_comm, arith, length-append, get_or-append-add}
use Rattle.std.proofs.Math.ListN.{get_or-append}
use Rattle.prelude.specs.Blocks.{each, for, flatten}
use Rattle.prelude.specs.Blocks.Laws.{divisor_pos, for_zero, each_div, flatten_both, flatten_each, each_same, each_length}
use Rattle.cnf.specs.Cnf.{pos, neg}
use Rattle.cnf.specs.declared.Literal.{Literal}
use Rattle.rows.specs.Rows.{literal_on}
use Rattle.formula.specs.Pairs.{pairs_before, PairIs}
use Rattle.formula.specs.Pairs.Laws.{pair_row, pair_rows_length, pair_rows_at}
use Rattle.formula.specs.Values.{NthIs, has_value}
use Rattle.formula.specs.Values.Laws.{half_count, chosen_block, chosen_length_lem, chosen_at_lem}
use Rattle.formula.specs.Count.{off_row_count, off_row_literals}
use Rattle.formula.specs.Formula.{X, L, S, same_side, net_sides, switch_sides, off_row}

-- the first clause for two terminals
pub same_side_first : (x a b part : ℕ) (u v w : Literal) → part ≡ 0 → u ≡ neg x → v ≡ neg a → w ≡ pos b
    → u ∷ v ∷ w ∷ [] ≡ get_or (same_side x a b) part []
same_side_first x a b part u v w e f g h = rw (e, f, g, h)

-- the second clause for two terminals
pub same_side_second : (x a b part : ℕ) (u v w : Literal) → part ≡ 1 → u ≡ neg x → v ≡ pos a → w ≡ neg b
    → u ∷ v ∷ w ∷ [] ≡ get_or (same_side x a b) part []
same_side_second x a b part u v w e f g h = rw (e, f, g, h)

-- the two clauses for terminals i and j
abbrev pub net_pair : ℕ → ℕ → ℕ → ℕ → List (List Literal)
net_pair N B i j = same_side (X N i j) (S B i) (S B j)

-- the clauses for pairs of terminals as rows of pairs
pub net_sides_rows : (N B : ℕ) → net_sides N B ≡ each N (pair_row 2 N (net_pair N B))
unfolding net_sides
net_sides_rows N B = for_zero N (pair_row 2 N (net_pair N B))

-- pairs of terminals: two clauses each
pub net_sides_length : (N B : ℕ) → length (net_sides N B) ≡ 2 * pairs_before N N
net_sides_length N B =
    ap length (net_sides_rows N B) ∙ pair_rows_length 2 N N (net_pair N B) (λ i j. refl)
    ∙ mul_comm (pairs_before N N) 2

-- pairs of terminals: the clause with this number
pub net_side_is : (N B number i j x a b : ℕ) (clause : List Literal) → PairIs N (number / 2) i j
    → x ≡ X N i j → a ≡ S B i → b ≡ S B j → clause ≡ get_or (same_side x a b) (number % 2) [] → clause ≡ get_or (net_sides N B) number []
net_side_is N B number i j x a b clause p f g h e =
    e ∙ rw (f, g, h)
    (sym (ap (λ (x : ℕ). get_or (net_sides N B) x []) (sym (div-add-mod' number 2))
    ∙ ap (λ (x : List (List Literal)). get_or x (number / 2 * 2 + number % 2) []) (net_sides_rows N B)
    ∙ pair_rows_at 2 N (number / 2) i j (number % 2) (net_pair N B) [] (λ i j. refl) p (omega arith)))

-- the two clauses for switch s with literal v
abbrev pub switch_pair : ℕ → ℕ → ℕ → ℕ → ℕ → List (List Literal)
switch_pair n N B s v = same_side (L n N s v) (S B (2 * s + 1)) (S B (2 * s + 2))

-- the clauses of switch s, over the literals that are 1 on row k
abbrev pub switch_block : ℕ → ℕ → ℕ → ℕ → ℕ → List (List Literal)
switch_block n N B k s = each (2 * n) (chosen_block (has_value n k true) 2 (switch_pair n N B s) (λ v. refl))

-- the clauses for switches as blocks
pub switch_sides_blocks : (n N r B k : ℕ) → switch_sides n N r B (literal_on n k) ≡ each r (switch_block n N B k)
unfolding switch_sides
switch_sides_blocks n N r B k =
    for_zero r (λ s. for 0 (2 * n) (λ v. cond (literal_on n k v) (switch_pair n N B s v) []))
    ∙ each_same r _ (switch_block n N B k) (λ s l. for_zero (2 * n) (λ v. cond (literal_on n k v) (switch_pair n N B s v) []))

switch_block_length : (n N B k s : ℕ) → length (switch_block n N B k s) ≡ n * 2
switch_block_length n N B k s =
    chosen_length_lem (has_value n k true) 2 (switch_pair n N B s) (λ v. refl) (2 * n)
    ∙ ap (λ (x : ℕ). x * 2) (half_count n k true)

-- switches: two clauses for each of the n literals that are 1 on the row
pub switch_sides_length : (n N r B k : ℕ) → length (switch_sides n N r B (literal_on n k)) ≡ r * (n * 2)
switch_sides_length n N r B k =
    ap length (switch_sides_blocks n N r B k) ∙ each_length r (n * 2) (switch_block n N B k) (λ s m. switch_block_length n N B k s)

-- switches: the number among the literals
pub switch_side_literal : (n r number : ℕ) → number < r * (n * 2) → number % (n * 2) / 2 < n
switch_side_literal n r number l =
    let m : number % (n * 2) < n * 2 = mod-lt number (divisor_pos r (n * 2) number l) in omega arith

-- switches: the clause with this number
pub switch_side_is : (n N r B k number v x a b : ℕ) (clause : List Literal) → number < r * (n * 2)
    → NthIs (has_value n k true) (2 * n) (number % (n * 2) / 2) v → x ≡ L n N (number / (n * 2)) v
    → a ≡ S B (2 * (number / (n * 2)) + 1) → b ≡ S B (2 * (number / (n * 2)) + 2)
    → clause ≡ get_or (same_side x a b) (number % (n * 2) % 2) [] → clause ≡ get_or (switch_sides n N r B (literal_on n k)) number []
switch_side_is n N r B k number v x a b clause m z f g i e =
    let s : ℕ = number / (n * 2) in
    let q : ℕ = number % (n * 2) in
    e ∙ rw (f, g, i)
    (sym (ap (λ (x : List (List Literal)). get_or x number []) (switch_sides_blocks n N r B k)
    ∙ each_div r (n * 2) number (switch_block n N B k) [] (λ s m. switch_block_length n N B k s) m
    ∙ ap (λ (x : ℕ). get_or (switch_block n N B k s) x []) (sym (div-add-mod' q 2))
    ∙ chosen_at_lem (has_value n k true) 2 (switch_pair n N B s) (λ v. refl) (2 * n) (q / 2) v (q % 2) [] z (omega arith)))

-- the clauses of an off row
pub off_row_length : (n N r B k : ℕ) → length (off_row n N r B (literal_on n k)) ≡ off_row_count n N r
unfolding off_row
off_row_length n N r B k =
    let e = length-append (net_sides N B) (switch_sides n N r B (literal_on n k)) in
    let f = net_sides_length N B in
    let g = switch_sides_length n N r B k in
    omega arith

-- the two clauses, or none, have three literals each
same_side_literals : (t : Bool) (x a b : ℕ)
    → length (flatten (cond t (same_side x a b) [])) ≡ 3 * length (cond t (same_side x a b) [])
unfolding flatten
same_side_literals true x a b = refl
same_side_literals false x a b = refl

-- the clauses after the first two have three literals each
sides_literals : (n N r B : ℕ) (value : ℕ → Bool)
    → length (flatten (net_sides N B ++ switch_sides n N r B value)) ≡ 3 * length (net_sides N B ++ switch_sides n N r B value)
unfolding net_sides switch_sides
sides_literals n N r B value =
    flatten_both 3 (net_sides N B) (switch_sides n N r B value)
    (flatten_each 3 _ _ (λ i. flatten_each 3 _ _ (λ j. same_side_literals true _ _ _)))
    (flatten_each 3 _ _ (λ s. flatten_each 3 _ _ (λ v. same_side_literals (value (0 + v)) _ _ _)))

-- the literals of an off row
pub off_row_literals_lem : (n N r B k : ℕ) → length (flatten (off_row n N r B (literal_on n k))) ≡ off_row_literals n N r
unfolding off_row flatten
off_row_literals_lem n N r B k =
    let d = sides_literals n N r B (literal_on n k) in
    let e = length-append (net_sides N B) (switch_sides n N r B (literal_on n k)) in
    let f = net_sides_length N B in
    let g = switch_sides_length n N r B k in
    omega arith

-- the first clause of an off row: the source's side
pub off_row_source : (n N r B : ℕ) (value : ℕ → Bool) (number a : ℕ) (x : Literal) → number ≡ 0 → a ≡ S B 0 → x ≡ neg a
    → x ∷ [] ≡ get_or (off_row n N r B value) number []
unfolding off_row
off_row_source n N r B value number a x e f g = rw (e, g, f)

-- the second: the sink's side
pub off_row_sink : (n N r B : ℕ) (value : ℕ → Bool) (number b : ℕ) → number ≡ 1 → b ≡ S B (2 * r + 1)
    → pos b ∷ [] ≡ get_or (off_row n N r B value) number []
unfolding off_row
off_row_sink n N r B value number b e f = rw (e, f)

-- the clauses after them
off_row_rest : (n N r B : ℕ) (value : ℕ → Bool) (number : ℕ) → 2 ≤ number
    → get_or (off_row n N r B value) number [] ≡ get_or (net_sides N B ++ switch_sides n N r B value) (number - 2) []
unfolding off_row
off_row_rest n N r B value number h =
    let e : number ≡ suc (suc (number - 2)) = omega arith in
    ap (λ (x : ℕ). get_or (off_row n N r B value) x []) e

-- a clause for a pair of terminals
pub off_row_net : (n N r B : ℕ) (value : ℕ → Bool) (number : ℕ) (clause : List Literal) → 2 ≤ number
    → number - 2 < 2 * pairs_before N N → clause ≡ get_or (net_sides N B) (number - 2) []
    → clause ≡ get_or (off_row n N r B value) number []
off_row_net n N r B value number clause h l e =
    let f = net_sides_length N B in
    e ∙ sym (off_row_rest n N r B value number h ∙ get_or-append (net_sides N B) (switch_sides n N r B value) [] (number - 2) (omega arith))

-- a clause for a switch
pub off_row_switch : (n N r B : ℕ) (value : ℕ → Bool) (number sides : ℕ) (clause : List Literal) → 2 ≤ number
    → sides ≡ 2 * pairs_before N N → sides ≤ number - 2
    → clause ≡ get_or (switch_sides n N r B value) (number - 2 - sides) [] → clause ≡ get_or (off_row n N r B value) number []
off_row_switch n N r B value number sides clause h d l e =
    let f = net_sides_length N B in
    let place : number - 2 ≡ length (net_sides N B) + (number - 2 - sides) = omega arith in
    e ∙ sym (off_row_rest n N r B value number h ∙ ap (λ (x : ℕ). get_or (net_sides N B ++ switch_sides n N r B value) x []) place
    ∙ get_or-append-add (net_sides N B) (switch_sides n N r B value) (number - 2 - sides) [])
