-- The numbers from p on give what the whole line gives; each ends past p and inside the text. Assumes nothing.
use Rattle.std.proofs.Common.{◌≡◌, Bool, true, false, List, ℕ, zero, suc, ◌+◌, ◌-◌, ◌≤◌, ◌<◌, Some, None, length, set, refl, sym, ap, ◌∙◌, ⊎_elim, arith}
use Rattle.numeral.specs.Number.{Read, literal_at, word, no_word}
use Rattle.numeral.specs.Number.Places.{Ends, literal_ways, literal_there}
use Rattle.numeral.specs.Number.Words.{Is, sign_number, word_of, literal_word, none_read}
use Rattle.numeral.specs.declared.Word.{Word}
use mir.Val.{bool_byte}
use Rattle.answer.specs.Values.{named, named_from, kept_by}
use Rattle.answer.proofs.ValuesLaws.{kept_in, kept_out, name_zero, name_refused, name_last, name_more, name_none}
use Rattle.answer_read.proofs.values.Named.take.Goals as goal
use Rattle.answer_read.proofs.values.Named.take.Goals.{then-w-self, else-w-self}

-- a number that follows p ends past it and inside the text, so there is a turn left
record Turn (t : List ℕ) (p f : ℕ) (w : Word) : Type 0 where
  read : word (sign_number w.minus) w.value w.next ≡ literal_at t (p + 1)
  left : 0 < f
  further : p < w.next
  inside : w.next ≤ length t

turn : (t : List ℕ) (p f : ℕ) (w : Word) → Some w ≡ word_of (literal_at t (p + 1)) → length t ≤ f + p → Turn t p f w
turn t p f w s reach =
    let is : Is (literal_at t (p + 1)) w = literal_word t (p + 1) w s in
    let n : (literal_at t (p + 1)).next ≡ w.next = ap (λ (r : Read). r.next) is.read in
    let e = literal_there t (p + 1) (λ z. is.there (sym n ∙ z)) in
    record { read = sym is.read; left = omega (arith, e.low, e.high); further = omega (arith, e.low); inside = omega (arith, e.high) }

-- where no number follows, none is read
none_zero : (t : List ℕ) (p : ℕ) → None ≡ word_of (literal_at t p) → (literal_at t p).value ≡ 0
none_zero t p e =
    ⊎_elim (λ (z : literal_at t p ≡ no_word). ap (λ (r : Read). r.value) z)
    (λ (r : Ends t p (literal_at t p)). absurd (omega (arith, r.low, none_read (literal_at t p) e)))
    (literal_ways t p)

-- past the text no number follows
past_zero : (t : List ℕ) (p : ℕ) → length t ≤ p → (literal_at t (p + 1)).value ≡ 0
past_zero t p h =
    ⊎_elim (λ (z : literal_at t (p + 1) ≡ no_word). ap (λ (r : Read). r.value) z)
    (λ (r : Ends t (p + 1) (literal_at t (p + 1))). absurd (omega (arith, r.low, r.high)))
    (literal_ways t (p + 1))

-- and then what is named stays
ended : (f top keep : ℕ) (t : List ℕ) (p : ℕ) (values : List ℕ) → (literal_at t (p + 1)).value ≡ 0
    → named false values ≡ named_from f top keep t p values
ended zero top keep t p values e = name_none zero top keep t p values refl
ended (suc f) top keep t p values e = name_zero (suc f) top keep t p values _ refl (omega arith) e

-- the value that is kept
signed : (keep : ℕ) (values : List ℕ) (x : ℕ) (minus : Bool) (y : ℕ) → x ≤ keep → y ≡ bool_byte minus
    → set values (x - 1) (1 + y) ≡ kept_by keep values x (sign_number minus)
signed keep values x true y h e = rw e (kept_in keep values x 1 h)
signed keep values x false y h e = rw e (kept_in keep values x 0 h)

pub loop-p-init : goal.loop-p-init
loop-p-init c = (length c.args.text.now, omega arith, refl)

pub returns-then-w-eq0 : goal.returns-then-w-eq0
returns-then-w-eq0 c =
    let l = c.loop-p in
    let u = turn c.args.text.now l.p l.invariant.0 c.in-Some.w c.in-Some.ensures l.invariant.1 in
    sym (name_zero l.invariant.0 _ _ _ l.p l.values _ u.read u.left c.if-w-eq0.true ∙ l.invariant.2)

pub returns-then-refuses : goal.returns-then-refuses
returns-then-refuses c =
    let l = c.loop-p in
    let u = turn c.args.text.now l.p l.invariant.0 c.in-Some.w c.in-Some.ensures l.invariant.1 in
    (ap (λ n. n.refused) (sym (name_refused l.invariant.0 _ _ _ l.p l.values _ u.read _ c.refuses.ensures c.if-w-eq0.false u.left c.if-refuses.true ∙ l.invariant.2)), refl)

pub returns-then-byte-eq10 : goal.returns-then-byte-eq10
returns-then-byte-eq10 c =
    let l = c.loop-p in
    let u = turn c.args.text.now l.p l.invariant.0 c.in-Some.w c.in-Some.ensures l.invariant.1 in
    sym (name_last l.invariant.0 _ _ _ l.p l.values _ u.read _ c.refuses.ensures c.if-w-eq0.false c.if-w-self.values
    u.left c.if-refuses.false
    (elim c.if-w-self.branch [ then-w-self t ↦ t.values-is ∙ signed _ _ _ _ _ t.if-w-self.true t.from.ensures | else-w-self t ↦ t.values-is ∙ kept_out _ _ _ _ (omega (arith, t.if-w-self.false)) ])
    _ c.byte.ensures c.if-byte-eq10.true ∙ l.invariant.2)

pub loop-p-smaller : goal.loop-p-smaller
loop-p-smaller c =
    let l = c.loop-p in
    let u = turn c.args.text.now l.p l.invariant.0 c.in-Some.w c.in-Some.ensures l.invariant.1 in
    omega (arith, u.further, u.inside)

pub loop-p-preserved : goal.loop-p-preserved
loop-p-preserved c =
    let l = c.loop-p in
    let u = turn c.args.text.now l.p l.invariant.0 c.in-Some.w c.in-Some.ensures l.invariant.1 in (
      l.invariant.0 - 1,
      omega (arith, l.invariant.1, u.left, u.further),
      name_more l.invariant.0 _ _ _ l.p l.values _ u.read _ c.refuses.ensures c.if-w-eq0.false c.if-w-self.values
          u.left c.if-refuses.false
          (elim c.if-w-self.branch [ then-w-self t ↦ t.values-is ∙ signed _ _ _ _ _ t.if-w-self.true t.from.ensures | else-w-self t ↦ t.values-is ∙ kept_out _ _ _ _ (omega (arith, t.if-w-self.false)) ])
          _ c.byte.ensures c.if-byte-eq10.false ∙ l.invariant.2,
    )

pub returns-in_default : goal.returns-in_default
returns-in_default c =
    let l = c.loop-p in
    sym (ended l.invariant.0 _ _ _ l.p l.values (none_zero _ _ c.in_default.ensures) ∙ l.invariant.2)

pub returns-after-loop-p : goal.returns-after-loop-p
returns-after-loop-p c =
    let l = c.loop-p in
    sym (ended l.invariant.0 _ _ _ l.p l.values (past_zero _ _ c.loop-p-test.false) ∙ l.invariant.2)
