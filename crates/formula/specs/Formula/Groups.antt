-- Laws of groups 1 and 2: how many clauses and literals they have, and which clause stands at a number. Assumes nothing.
use Rattle.std.specs.Prelude.{◌≡◌, refl, List, [], ◌∷◌, ℕ, zero, suc, ◌+◌, ◌-◌, ◌*◌, ◌/◌, ◌%◌, ◌<◌, length, get_or}
use Rattle.std.proofs.Common.{sym, ap, ap₂, ◌∙◌, subst, mul-one, mod-lt, div-add-mod', add-one, arith, length-append}
use Rattle.prelude.specs.Blocks.{each, flatten}
use Rattle.prelude.specs.Blocks.Laws.{quotient_low, for_zero, each_div, flatten_each, each_same, each_length, singles_length, flatten_length}
use Rattle.cnf.specs.Cnf.{pos, neg}
use Rattle.cnf.specs.declared.Literal.{Literal}
use Rattle.formula.specs.Clause.{run}
use Rattle.formula.specs.Pairs.{pairs_before, PairIs, triples_before, TripleIs}
use Rattle.formula.specs.Pairs.Laws.{pair_row, pair_rows_length, pair_rows_at, triple_plane, triple_planes_length, triple_planes_at}
use Rattle.formula.specs.Formula.{X, L, triple, transitivity, choice, choices}

-- the first clause of a triple
pub triple_first : (N i j k part ij jk ik : ℕ) (x y z : Literal) → part ≡ 0 → ij ≡ X N i j → jk ≡ X N j k → ik ≡ X N i k
    → x ≡ neg ij → y ≡ neg jk → z ≡ pos ik → x ∷ y ∷ z ∷ [] ≡ get_or (triple N i j k) part []
triple_first N i j k part ij jk ik x y z e f g h a b d = rw (e, a, b, d, f, g, h)

-- the second clause of a triple
pub triple_second : (N i j k part ij jk ik : ℕ) (x y z : Literal) → part ≡ 1 → ij ≡ X N i j → jk ≡ X N j k → ik ≡ X N i k
    → x ≡ neg ij → y ≡ neg ik → z ≡ pos jk → x ∷ y ∷ z ∷ [] ≡ get_or (triple N i j k) part []
triple_second N i j k part ij jk ik x y z e f g h a b d = rw (e, a, b, d, f, g, h)

-- the third clause of a triple
pub triple_third : (N i j k part ij jk ik : ℕ) (x y z : Literal) → part ≡ 2 → ij ≡ X N i j → jk ≡ X N j k → ik ≡ X N i k
    → x ≡ neg ik → y ≡ neg jk → z ≡ pos ij → x ∷ y ∷ z ∷ [] ≡ get_or (triple N i j k) part []
triple_third N i j k part ij jk ik x y z e f g h a b d = rw (e, a, b, d, f, g, h)

-- the three clauses of a triple have three literals each
triple_literals : (N i j k : ℕ) → length (flatten (triple N i j k)) ≡ 9
unfolding flatten
triple_literals N i j k = refl

-- group 1 as planes of triples
pub transitivity_planes : (N : ℕ) → transitivity N ≡ each N (triple_plane 3 N (triple N))
unfolding transitivity
transitivity_planes N = for_zero N (triple_plane 3 N (triple N))

-- group 1: three clauses for each triple
pub transitivity_length : (N : ℕ) → length (transitivity N) ≡ triples_before N N * 3
transitivity_length N =
    ap length (transitivity_planes N) ∙ triple_planes_length 3 N N (triple N) (λ i j k. refl)

-- group 1: three literals for each clause
pub transitivity_literals : (N : ℕ) → length (flatten (transitivity N)) ≡ 3 * length (transitivity N)
unfolding transitivity
transitivity_literals N =
    flatten_each 3 N _ (λ i. flatten_each 3 _ _ (λ j. flatten_each 3 _ _ (λ k. triple_literals N _ _ _)))

-- group 1: the clause with this number
pub transitivity_is : (N number i j k : ℕ) (clause : List Literal) → TripleIs N (number / 3) i j k
    → clause ≡ get_or (triple N i j k) (number % 3) [] → clause ≡ get_or (transitivity N) number []
transitivity_is N number i j k clause t e =
    e ∙ sym (ap (λ (x : ℕ). get_or (transitivity N) x []) (sym (div-add-mod' number 3))
    ∙ ap (λ (x : List (List Literal)). get_or x (number / 3 * 3 + number % 3) []) (transitivity_planes N)
    ∙ triple_planes_at 3 N (number / 3) i j k (number % 3) (triple N) [] (λ i j k. refl) t (omega arith))

-- group 2, the clause of two literals v and w
abbrev pub not_both : ℕ → ℕ → ℕ → ℕ → ℕ → List (List Literal)
not_both n N s v w = (neg (L n N s v) ∷ neg (L n N s w) ∷ []) ∷ []

-- the clauses of a switch as one long clause and rows of pairs
pub choice_rows : (n N s : ℕ)
    → choice n N s ≡ each (2 * n) (λ v. pos (L n N s v) ∷ []) ∷ each (2 * n) (pair_row 1 (2 * n) (not_both n N s))
unfolding choice
choice_rows n N s =
    ap₂ (λ (x : List Literal) (y : List (List Literal)). x ∷ y) (for_zero (2 * n) (λ v. pos (L n N s v) ∷ []))
    (for_zero (2 * n) (pair_row 1 (2 * n) (not_both n N s)))

-- the clauses of a switch's pairs
choice_pairs_length : (n N s : ℕ) → length (each (2 * n) (pair_row 1 (2 * n) (not_both n N s))) ≡ pairs_before (2 * n) (2 * n)
choice_pairs_length n N s =
    pair_rows_length 1 (2 * n) (2 * n) (not_both n N s) (λ v w. refl) ∙ mul-one (pairs_before (2 * n) (2 * n))

-- the clauses of a switch
choice_length : (n N s : ℕ) → length (choice n N s) ≡ pairs_before (2 * n) (2 * n) + 1
choice_length n N s =
    ap length (choice_rows n N s) ∙ sym (add-one _) ∙ ap (λ (x : ℕ). x + 1) (choice_pairs_length n N s)

-- group 2: how many clauses
pub choices_length : (n N r : ℕ) → length (choices n N r) ≡ r * (pairs_before (2 * n) (2 * n) + 1)
unfolding choices
choices_length n N r = each_length r (pairs_before (2 * n) (2 * n) + 1) (λ s. choice n N (0 + s)) (λ s l. choice_length n N (0 + s))

-- the literals of a switch's clauses
choice_literals : (n N s : ℕ) → length (flatten (choice n N s)) ≡ 2 * n + 2 * pairs_before (2 * n) (2 * n)
unfolding flatten
choice_literals n N s =
    ap (λ (x : List (List Literal)). length (flatten x)) (choice_rows n N s)
    ∙ length-append (each (2 * n) (λ v. pos (L n N s v) ∷ [])) _
    ∙ ap₂ (λ (x y : ℕ). x + y) (singles_length (2 * n) (λ v. pos (L n N s v)))
    (flatten_each 2 (2 * n) (pair_row 1 (2 * n) (not_both n N s)) (λ v. flatten_each 2 _ _ (λ w. refl))
    ∙ ap (λ (x : ℕ). 2 * x) (choice_pairs_length n N s))

-- group 2: how many literals
pub choices_literals : (n N r : ℕ) → length (flatten (choices n N r)) ≡ r * (2 * n + 2 * pairs_before (2 * n) (2 * n))
unfolding choices
choices_literals n N r =
    flatten_length r (2 * n + 2 * pairs_before (2 * n) (2 * n)) (λ s. choice n N (0 + s)) (λ s l. choice_literals n N (0 + s))

-- group 2: the switch and the place among its clauses of the clause with this number
choices_div : (n N r number count : ℕ) → count ≡ pairs_before (2 * n) (2 * n) + 1 → number < length (choices n N r)
    → get_or (choices n N r) number [] ≡ get_or (choice n N (number / count)) (number % count) []
unfolding choices
choices_div n N r number count e l =
    ap (λ (x : List (List Literal)). get_or x number []) (for_zero r (choice n N))
    ∙ each_div r count number (choice n N) [] (λ s k. choice_length n N s ∙ sym e)
    (rw e (rw (choices_length n N r) at l))

-- the long clause of a switch
long_clause : (n N s : ℕ) → run (L n N s 0) (2 * n) ≡ get_or (choice n N s) 0 []
unfolding choice L run
long_clause n N s = each_same (2 * n) _ _ (λ v l. ap (λ (x : ℕ). pos x ∷ []) (omega arith))

-- the clause of a pair of literals of a switch
pair_clause : (n N s part v w : ℕ) → 0 < part → PairIs (2 * n) (part - 1) v w
    → neg (L n N s v) ∷ neg (L n N s w) ∷ [] ≡ get_or (choice n N s) part []
pair_clause n N s zero v w h p = absurd (omega arith)
pair_clause n N s (suc q) v w h p =
    let e : suc q - 1 ≡ q = omega arith in
    let f : q * 1 + 0 ≡ q = omega arith in
    sym (ap (λ (x : List (List Literal)). get_or x (suc q) []) (choice_rows n N s)
    ∙ ap (λ (x : ℕ). get_or (each (2 * n) (pair_row 1 (2 * n) (not_both n N s))) x []) (sym f)
    ∙ pair_rows_at 1 (2 * n) q v w 0 (not_both n N s) [] (λ v w. refl) (subst (λ (x : ℕ). PairIs (2 * n) x v w) e p) (omega arith))

-- group 2: the switch of a number is a switch
pub choice_switch : (n N r number count : ℕ) → count ≡ pairs_before (2 * n) (2 * n) + 1 → number < length (choices n N r) → number / count < r
choice_switch n N r number count e l = quotient_low r count number (rw e (rw (choices_length n N r) at l))

-- group 2: a place past the long clause is a pair's number
pub choice_pair : (n number count : ℕ) → count ≡ pairs_before (2 * n) (2 * n) + 1 → 0 < number % count
    → number % count - 1 < pairs_before (2 * n) (2 * n)
choice_pair n number count e l = let p : 0 < count = omega arith in let m = mod-lt number p in omega arith

-- group 2: the clause with this number is a switch's long clause
pub choice_long_is : (n N r number count first : ℕ) → count ≡ pairs_before (2 * n) (2 * n) + 1 → number < length (choices n N r)
    → number % count ≡ 0 → run first (2 * n) ≡ run (L n N (number / count) 0) (2 * n) → run first (2 * n) ≡ get_or (choices n N r) number []
choice_long_is n N r number count first e l m f =
    f ∙ long_clause n N (number / count)
    ∙ ap (λ (x : ℕ). get_or (choice n N (number / count)) x []) (sym m) ∙ sym (choices_div n N r number count e l)

-- group 2: the clause with this number has a pair of a switch's literals
pub choice_pair_is : (n N r number count v w : ℕ) (x y : Literal) → count ≡ pairs_before (2 * n) (2 * n) + 1 → number < length (choices n N r)
    → 0 < number % count → PairIs (2 * n) (number % count - 1) v w → x ≡ neg (L n N (number / count) v) → y ≡ neg (L n N (number / count) w)
    → x ∷ y ∷ [] ≡ get_or (choices n N r) number []
choice_pair_is n N r number count v w x y e l m p f g =
    ap₂ (λ (a b : Literal). a ∷ b ∷ []) f g ∙ pair_clause n N (number / count) (number % count) v w m p
    ∙ sym (choices_div n N r number count e l)
