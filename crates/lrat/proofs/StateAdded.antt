-- Added clauses still lie in the text after a pair more, and after deletions. Assumes nothing.
use Rattle.std.specs.Prelude.{◌≡◌, refl, Bool, true, false, not, ◌&&◌, cond, List, [], ◌∷◌, ◌⊎◌, ℕ, zero, suc, ◌+◌, ◌-◌, ◌≤◌, ◌<◌, leb, ℤ, length, Some, None}
use Rattle.std.proofs.Common.{Option, sym, ap, ◌∙◌, subst, inl, inr, arith, leb-true}
use Rattle.prelude.specs.Tests.{eq?}
use Rattle.added.specs.Record.{Room, id_of, offset_of, length_of, recorded, emptied, first_with}
use Rattle.added.proofs.RecordLaws.{recorded_length, recorded_id, recorded_offset, recorded_size, recorded_id_here, recorded_offset_here, emptied_length, emptied_id, emptied_offset, emptied_was, with_less}
use Rattle.cnf.specs.Cnf.{Clause}
use Rattle.numeral.specs.Number.{byte_at, literal_at}
use Rattle.lrat.specs.Words.{text_limit, literals_at, run_at}
use Rattle.lrat.specs.Rules.{named, literals_good}
use Rattle.lrat.specs.Bytes.{Below}
use Rattle.lrat.specs.State.{stands_in, last_id, deleted, emptied_at, without, delete_all, OriginalsInStore, Spelled, Rising, AddedInText, values_limit, Ready}

and_l : (x y : Bool) → (x && y) ≡ true → x ≡ true
and_l true y e = refl
and_l false y e = cc

and_r : (x y : Bool) → (x && y) ≡ true → y ≡ true
and_r true y e = e
and_r false y e = cc

-- literals inside ±V have their variables below the number of values
pub good_below : (variables : ℕ) (c : Clause) → literals_good variables c ≡ true → Below (variables + 1) c
good_below variables [] e = tt
good_below variables (l ∷ c) e =
    let a = and_l (leb 1 l.variable) _ e in
    let r = and_r (leb 1 l.variable) _ e in
    let b = and_l (leb l.variable variables) _ r in
    let s = and_r (leb l.variable variables) _ r in
    ((omega (arith, leb-true 1 l.variable a), omega (arith, leb-true l.variable variables b)), good_below variables c (and_r (not (named l.variable c)) _ s))

-- before the first line no clause is added
pub rising_none : (C : ℕ) (added : List ℕ) → Rising C 0 added
rising_none C added = record { above = λ k h. absurd (omega arith); apart = λ j k l h. absurd (omega arith) }

pub additions_none : (C : ℕ) (t added : List ℕ) (n : ℕ) → AddedInText C t 0 added n
additions_none C t added n = record { room = omega arith; rising = rising_none C added; placed = λ k h. absurd (omega arith) }

pub ready_start : (C : ℕ) (lits : List ℤ) (pairs t added : List ℕ) (n : ℕ) → OriginalsInStore C lits pairs n → n ≤ values_limit → length t ≤ text_limit
    → Ready C lits pairs t 0 added 1 n
ready_start C lits pairs t added n h f s =
    record { originals = h; additions = additions_none C t added n; values_fit = f; text_fits = s; stamp_fits = omega arith }

-- where a line's literals lie
pub spelled_at : (t : List ℕ) (p n : ℕ) → ((run_at literal_at t p).next ≡ 0 → ⊥) → byte_at t (run_at literal_at t p).next ≡ 32 → Below n (literals_at t p)
    → Spelled t (p + 1) n
spelled_at t p n d e b =
    let z : p + 1 - 1 ≡ p = omega arith in
    record { first = omega arith; form = rw z d; after = rw z e; below = rw z b }

-- ---- a record more, whose id is above the last
-- no id so far is above the last
pub last_most : {C a : ℕ} {added : List ℕ} → Rising C a added → (k : ℕ) → k < a → id_of added k + a ≤ last_id C a added + (k + 1)
last_most {a = zero} r k h = absurd (omega arith)
last_most {a = suc a} r k h = omega (arith, r.apart k a (omega arith) (omega arith))

pub last_low : {C a : ℕ} {added : List ℕ} → Rising C a added → C ≤ last_id C a added
last_low {a = zero} r = omega arith
last_low {a = suc a} r = omega (arith, r.above a (omega arith))

module _ (C a : ℕ) (added : List ℕ) (id o s : ℕ) (room : Room (a + 1) added) (higher : last_id C a added < id) where
  abbrev new : List ℕ
  new = recorded added a id o s

  here : id_of new a ≡ id
  here = recorded_id_here added a id o s room

  before : (j : ℕ) → j < a → id_of new j ≡ id_of added j
  before j h = recorded_id added a id o s j (λ e. omega arith)

  rising_more : Rising C a added → Rising C (a + 1) new
  rising_more r = record { above = λ k h. above k h (eq? k a); apart = λ j k l h. apart j k l h (eq? j a) (eq? k a) }
    where
      above : (k : ℕ) → k < a + 1 → (k ≡ a) ⊎ (k ≡ a → ⊥) → C < id_of new k
      above k h (inl e) = rw e (omega (arith, here, last_low r))
      above k h (inr d) = omega (arith, before k (omega arith), r.above k (omega arith))

      apart : (j k : ℕ) → j ≤ k → k < a + 1 → (j ≡ a) ⊎ (j ≡ a → ⊥) → (k ≡ a) ⊎ (k ≡ a → ⊥) → id_of new j + k ≤ id_of new k + j
      apart j k l h (inl e) f = let z : j ≡ k = omega arith in rw z (omega arith)
      apart j k l h (inr d) (inl e) = rw e (omega (arith, here, before j (omega arith), last_most r j (omega arith)))
      apart j k l h (inr d) (inr e) =
          let m : j < a = omega arith in
          omega (arith, before j m, before k (omega arith), r.apart j k l (omega arith))

  pub additions_more : (t : List ℕ) (n : ℕ) → AddedInText C t a added n → Spelled t o n → AddedInText C t (a + 1) new n
  additions_more t n f spelled =
      record {
        room = omega (arith, room, recorded_length added a id o s);
        rising = rising_more f.rising;
        placed = λ j l d. placed j l d (eq? j a);
      }
    where
      placed : (j : ℕ) → j < a + 1 → (length_of new j ≡ 0 → ⊥) → (j ≡ a) ⊎ (j ≡ a → ⊥) → Spelled t (offset_of new j) n
      placed j l d (inl e) = subst (λ (x : ℕ). Spelled t x n) (sym (ap (offset_of new) e ∙ recorded_offset_here added a id o s room)) spelled
      placed j l d (inr e) =
          subst (λ (x : ℕ). Spelled t x n) (sym (recorded_offset added a id o s j e))
          (f.placed j (omega arith) (λ z. d (recorded_size added a id o s j e ∙ z)))

-- ---- one clause less
pub additions_emptied : (t : List ℕ) (C a : ℕ) (added : List ℕ) (n k : ℕ) → k < a → AddedInText C t a added n → AddedInText C t a (emptied added k) n
additions_emptied t C a added n k h f =
    record {
      room = omega (arith, f.room, emptied_length added k);
      rising = record {
        above = λ j l. omega (arith, emptied_id added k j, f.rising.above j l);
        apart = λ i j l m. omega (arith, emptied_id added k i, emptied_id added k j, f.rising.apart i j l m);
      };
      placed = λ j l d. subst (λ (x : ℕ). Spelled t x n) (sym (emptied_offset added k j))
          (f.placed j l (emptied_was added k (omega (arith, f.room)) j d));
    }

additions_without : (t : List ℕ) (C a : ℕ) (added : List ℕ) (n x : ℕ) → AddedInText C t a added n → AddedInText C t a (without C a added x) n
unfolding without
additions_without t C a added n x f = go (leb x C) (first_with a added x) refl
  where
    go : (b : Bool) (o : Option ℕ) → o ≡ first_with a added x → AddedInText C t a (cond b added (emptied_at added o)) n
    go true o e = f
    go false None e = f
    go false (Some k) e = additions_emptied t C a added n k (with_less added a x k e) f

-- and after all of a line's deletions
pub additions_deleted : (t : List ℕ) (C a : ℕ) (xs added : List ℕ) (n : ℕ) → AddedInText C t a added n → AddedInText C t a (delete_all C a added xs).added n
unfolding delete_all
additions_deleted t C a [] added n f = f
additions_deleted t C a (x ∷ xs) added n f =
    go (stands_in C a added x) (additions_deleted t C a xs (without C a added x) n (additions_without t C a added n x f))
  where
    go : (b : Bool) → AddedInText C t a (delete_all C a (without C a added x) xs).added n
        → AddedInText C t a (cond b (delete_all C a (without C a added x) xs) (deleted 19 added)).added n
    go true k = k
    go false k = f
