-- A record after another one was written or deleted, and the first record with an id. Assumes nothing.
use Rattle.std.specs.Prelude.{◌≡◌, refl, Bool, true, false, ◌&&◌, cond, List, ◌⊎◌, ℕ, zero, suc, ◌+◌, ◌*◌, ◌≤◌, ◌<◌, eqb, leb, length, get_or, set, Some, None}
use Rattle.std.proofs.Common.{sym, ap, ◌∙◌, inl, inr, ⊎_elim, arith, length-set, get_or-set_same, get_or-set_other, le-leb, leb-true, eq-eqb, ne_eqb}
use Rattle.prelude.specs.Tests.{eq?}
use Rattle.added.specs.Record.{Room, fits, id_of, offset_of, length_of, recorded, emptied, first_from, first_with}

-- ---- room for records
module _ (k : ℕ) (added : List ℕ) where
  pub fits_room : true ≡ fits k added → Room k added
  unfolding fits
  fits_room e = leb-true (3 * k) (length added) (sym e)

  pub room_fits : Room k added → true ≡ fits k added
  unfolding fits
  room_fits h = sym (le-leb (3 * k) (length added) h)

fits_same : (j : ℕ) (l m : List ℕ) → length l ≡ length m → fits j l ≡ fits j m
unfolding fits
fits_same j l m e = ap (leb (3 * j)) e

-- ---- a record written
module _ (added : List ℕ) (k id offset n : ℕ) where
  pub recorded_length : length (recorded added k id offset n) ≡ length added
  unfolding recorded
  recorded_length = length-set (set (set added (3 * k) id) (3 * k + 1) offset) (3 * k + 2) n ∙ length-set (set added (3 * k) id) (3 * k + 1) offset ∙ length-set added (3 * k) id

  -- another entry
  other : (i : ℕ) → (i ≡ 3 * k → ⊥) → (i ≡ 3 * k + 1 → ⊥) → (i ≡ 3 * k + 2 → ⊥) → get_or (recorded added k id offset n) i 0 ≡ get_or added i 0
  unfolding recorded
  other i c d e =
      get_or-set_other (set (set added (3 * k) id) (3 * k + 1) offset) (3 * k + 2) i n 0 e
      ∙ get_or-set_other (set added (3 * k) id) (3 * k + 1) i offset 0 d ∙ get_or-set_other added (3 * k) i id 0 c

  -- every other record stays
  pub recorded_id : (j : ℕ) → (j ≡ k → ⊥) → id_of (recorded added k id offset n) j ≡ id_of added j
  unfolding id_of
  recorded_id j d = other (3 * j) (λ e. d (omega arith)) (λ e. omega arith) (λ e. omega arith)

  pub recorded_offset : (j : ℕ) → (j ≡ k → ⊥) → offset_of (recorded added k id offset n) j ≡ offset_of added j
  unfolding offset_of
  recorded_offset j d = other (3 * j + 1) (λ e. omega arith) (λ e. d (omega arith)) (λ e. omega arith)

  pub recorded_size : (j : ℕ) → (j ≡ k → ⊥) → length_of (recorded added k id offset n) j ≡ length_of added j
  unfolding length_of
  recorded_size j d = other (3 * j + 2) (λ e. omega arith) (λ e. omega arith) (λ e. d (omega arith))

  -- and this one is what was written
  module _ (room : Room (k + 1) added) where
    pub recorded_id_here : id_of (recorded added k id offset n) k ≡ id
    unfolding id_of recorded
    recorded_id_here =
        get_or-set_other (set (set added (3 * k) id) (3 * k + 1) offset) (3 * k + 2) (3 * k) n 0 (λ e. omega arith)
        ∙ get_or-set_other (set added (3 * k) id) (3 * k + 1) (3 * k) offset 0 (λ e. omega arith)
        ∙ get_or-set_same added (3 * k) id 0 (omega (arith, room))

    pub recorded_offset_here : offset_of (recorded added k id offset n) k ≡ offset
    unfolding offset_of recorded
    recorded_offset_here =
        get_or-set_other (set (set added (3 * k) id) (3 * k + 1) offset) (3 * k + 2) (3 * k + 1) n 0 (λ e. omega arith)
        ∙ get_or-set_same (set added (3 * k) id) (3 * k + 1) offset 0 (omega (arith, room, length-set added (3 * k) id))

-- ---- a record deleted
module _ (added : List ℕ) (k : ℕ) where
  pub emptied_length : length (emptied added k) ≡ length added
  unfolding emptied
  emptied_length = length-set added (3 * k + 2) 0

  pub emptied_id : (j : ℕ) → id_of (emptied added k) j ≡ id_of added j
  unfolding id_of emptied
  emptied_id j = get_or-set_other added (3 * k + 2) (3 * j) 0 0 (λ e. omega arith)

  pub emptied_offset : (j : ℕ) → offset_of (emptied added k) j ≡ offset_of added j
  unfolding offset_of emptied
  emptied_offset j = get_or-set_other added (3 * k + 2) (3 * j + 1) 0 0 (λ e. omega arith)

  pub emptied_size : (j : ℕ) → (j ≡ k → ⊥) → length_of (emptied added k) j ≡ length_of added j
  unfolding length_of emptied
  emptied_size j d = get_or-set_other added (3 * k + 2) (3 * j + 2) 0 0 (λ e. d (omega arith))

  pub emptied_here : Room (k + 1) added → length_of (emptied added k) k ≡ 0
  unfolding length_of emptied
  emptied_here room = get_or-set_same added (3 * k + 2) 0 0 (omega (arith, room))

  -- a length that is not 0 after it was not 0 before
  pub emptied_was : Room (k + 1) added → (j : ℕ) → (length_of (emptied added k) j ≡ 0 → ⊥) → length_of added j ≡ 0 → ⊥
  emptied_was room j d z = go (eq? j k)
    where
      go : (j ≡ k) ⊎ (j ≡ k → ⊥) → ⊥
      go (inl e) = d (ap (length_of (emptied added k)) e ∙ emptied_here room)
      go (inr e) = d (emptied_size j e ∙ z)

-- ---- the first record with an id, of n records from record k on: one of these, inside the slice, with the id, and none before it
pub record FoundAt (n : ℕ) (added : List ℕ) (k id j : ℕ) : Type 0 where
  pub low : k ≤ j
  pub high : j < k + n
  pub room : Room (j + 1) added
  pub same : id_of added j ≡ id
  pub first : (i : ℕ) → k ≤ i → i < j → id_of added i ≡ id → ⊥

module _ (added : List ℕ) (id : ℕ) where
  -- it is found where there is one
  pub first_is : (n k j : ℕ) → FoundAt n added k id j → Some j ≡ first_from n added k id
  unfolding first_from
  first_is zero k j f = absurd (omega (arith, f.low, f.high))
  first_is (suc n) k j f = go (eq? k j) (first_is n (k + 1) j)
    where
      go : (k ≡ j) ⊎ (k ≡ j → ⊥) → (FoundAt n added (k + 1) id j → Some j ≡ first_from n added (k + 1) id)
          → Some j ≡ cond (fits (k + 1) added && eqb (id_of added k) id) (Some k) (first_from n added (k + 1) id)
      go (inl e) rest = rw (e, ← room_fits (j + 1) added f.room, eq-eqb (id_of added j) id f.same)
      go (inr d) rest =
          let here : id_of added k ≡ id → ⊥ = f.first k (omega arith) (omega (arith, f.low)) in
          rw (← room_fits (k + 1) added (omega (arith, f.low, f.room)), ne_eqb (id_of added k) id here)
          (rest (record { low = omega (arith, f.low); high = omega (arith, f.high); room = f.room; same = f.same; first = λ i l. f.first i (omega arith) }))

  -- and only there
  pub first_found : (n k j : ℕ) → Some j ≡ first_from n added k id → FoundAt n added k id j
  unfolding first_from
  first_found zero k j e = absurd (cc)
  first_found (suc n) k j e = go (fits (k + 1) added) (eq? (id_of added k) id) refl (first_found n (k + 1) j) e
    where
      after : (b : Bool) → b ≡ fits (k + 1) added → (id_of added k ≡ id → ⊥) ⊎ (false ≡ b) → FoundAt n added (k + 1) id j → FoundAt (suc n) added k id j
      after b is differs f =
          record {
            low = omega (arith, f.low);
            high = omega (arith, f.high);
            room = f.room;
            same = f.same;
            first = λ i l h. before i (eq? i k) l h;
          }
        where
          there : true ≡ b
          there = room_fits (k + 1) added (omega (arith, f.low, f.room)) ∙ sym is

          here : id_of added k ≡ id → ⊥
          here = ⊎_elim (λ d. d) (λ z. absurd (let w = there in cc)) differs

          before : (i : ℕ) → (i ≡ k) ⊎ (i ≡ k → ⊥) → k ≤ i → i < j → id_of added i ≡ id → ⊥
          before i (inl q) l h z = here (ap (id_of added) (sym q) ∙ z)
          before i (inr d) l h z = f.first i (omega arith) h z

      go : (b : Bool) → (id_of added k ≡ id) ⊎ (id_of added k ≡ id → ⊥) → b ≡ fits (k + 1) added
          → (Some j ≡ first_from n added (k + 1) id → FoundAt n added (k + 1) id j)
          → Some j ≡ cond (b && eqb (id_of added k) id) (Some k) (first_from n added (k + 1) id) → FoundAt (suc n) added k id j
      go true (inl z) f rest q =
          let is : Some j ≡ Some k = rw (eq-eqb (id_of added k) id z) at q in
          let same : j ≡ k = cc in
          record {
            low = omega arith;
            high = omega arith;
            room = omega (arith, fits_room (k + 1) added f, same);
            same = ap (id_of added) same ∙ z;
            first = λ i l h. absurd (omega arith);
          }
      go true (inr d) f rest q = after true f (inl d) (rest (rw (ne_eqb (id_of added k) id d) at q))
      go false t f rest q = after false f (inr refl) (rest q)

  -- none where none inside the slice has it
  pub first_none : (n k : ℕ) → ((j : ℕ) → k ≤ j → j < k + n → Room (j + 1) added → id_of added j ≡ id → ⊥) → None ≡ first_from n added k id
  unfolding first_from
  first_none zero k none = refl
  first_none (suc n) k none = go (fits (k + 1) added) refl (first_none n (k + 1) (λ j l h. none j (omega arith) (omega arith)))
    where
      go : (b : Bool) → b ≡ fits (k + 1) added → None ≡ first_from n added (k + 1) id → None ≡ cond (b && eqb (id_of added k) id) (Some k) (first_from n added (k + 1) id)
      go true f rest = rw (ne_eqb (id_of added k) id (none k (omega arith) (omega arith) (fits_room (k + 1) added f))) rest
      go false f rest = rest

-- the same of all a records
module _ (added : List ℕ) (a id : ℕ) where
  pub with_is : (j : ℕ) → FoundAt a added 0 id j → Some j ≡ first_with a added id
  unfolding first_with
  with_is = first_is added id a 0

  pub with_found : (j : ℕ) → Some j ≡ first_with a added id → FoundAt a added 0 id j
  unfolding first_with
  with_found = first_found added id a 0

  pub with_less : (j : ℕ) → Some j ≡ first_with a added id → j < a
  with_less j e = omega (arith, (with_found j e).high)

  pub with_room : (j : ℕ) → Some j ≡ first_with a added id → Room (j + 1) added
  with_room j e = (with_found j e).room

  pub with_none : ((j : ℕ) → j < a → Room (j + 1) added → id_of added j ≡ id → ⊥) → None ≡ first_with a added id
  unfolding first_with
  with_none none = first_none added id a 0 (λ j l h. none j (omega arith))

-- two slices of one length whose records have the same ids
first_same : (n : ℕ) (l m : List ℕ) (k id : ℕ) → length m ≡ length l → ((j : ℕ) → id_of m j ≡ id_of l j) → first_from n m k id ≡ first_from n l k id
unfolding first_from
first_same zero l m k id e same = refl
first_same (suc n) l m k id e same =
    rw (fits_same (k + 1) m l e, same k) (ap (cond (fits (k + 1) l && eqb (id_of l k) id) (Some k)) (first_same n l m (k + 1) id e same))

-- a deletion changes no id
pub first_emptied : (a : ℕ) (added : List ℕ) (k id : ℕ) → first_with a (emptied added k) id ≡ first_with a added id
unfolding first_with
first_emptied a added k id = first_same a added (emptied added k) 0 id (emptied_length added k) (emptied_id added k)

-- after one record more, what is found was found before, or is that record
pub first_recorded : (a : ℕ) (added : List ℕ) (new offset n id j : ℕ) → Room (a + 1) added → Some j ≡ first_with (a + 1) (recorded added a new offset n) id
    → ((j < a) × (Some j ≡ first_with a added id)) ⊎ ((j ≡ a) × (new ≡ id))
first_recorded a added new offset n id j room e = go (eq? j a) (with_found (recorded added a new offset n) (a + 1) id j e)
  where
    go : (j ≡ a) ⊎ (j ≡ a → ⊥) → FoundAt (a + 1) (recorded added a new offset n) 0 id j → ((j < a) × (Some j ≡ first_with a added id)) ⊎ ((j ≡ a) × (new ≡ id))
    go (inl z) f = inr (z, sym (ap (id_of (recorded added a new offset n)) z ∙ recorded_id_here added a new offset n room) ∙ f.same)
    go (inr d) f =
        let less : j < a = omega (arith, f.high) in
        inl (
          less,
          with_is added a id j
              (record {
                low = omega arith;
                high = omega arith;
                room = omega (arith, room, less);
                same = sym (recorded_id added a new offset n j d) ∙ f.same;
                first = λ i l h z. f.first i l h (recorded_id added a new offset n i (λ q. omega arith) ∙ z);
              }),
        )
