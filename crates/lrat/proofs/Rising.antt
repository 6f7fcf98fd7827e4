-- Where the record with an id lies among records whose ids rise. Assumes nothing.
use Rattle.std.specs.Prelude.{◌≡◌, List, ℕ, ◌+◌, ◌<◌, Some, None}
use Rattle.std.proofs.Common.{arith}
use Rattle.added.specs.Record.{Room, id_of, first_with}
use Rattle.added.proofs.RecordLaws.{with_is, with_none}
use Rattle.lrat.specs.State.{last_id, Rising}
use Rattle.lrat.proofs.StateAdded.{last_most}

module _ {C a : ℕ} {added : List ℕ} (r : Rising C a added) where
  -- an id is above those before it
  pub rising_less : (j k : ℕ) → j < k → k < a → id_of added j < id_of added k
  rising_less j k l h = omega (arith, r.apart j k (omega arith) h)

  -- and above C by as many as there are records up to it
  pub rising_high : (k : ℕ) → k < a → C + k < id_of added k
  rising_high k h = omega (arith, r.apart 0 k (omega arith) h, r.above 0 (omega arith))

  -- none is above the last
  pub rising_past : (x : ℕ) → last_id C a added < x → None ≡ first_with a added x
  rising_past x l = with_none added a x (λ j h m e. (let n = last_most r j h in omega (arith, e)))

  -- so that one record at most has an id
  pub rising_first : (k x : ℕ) → Room a added → k < a → id_of added k ≡ x → Some k ≡ first_with a added x
  rising_first k x room h e =
      with_is added a x k
      (record {
        low = omega arith;
        high = omega (arith, h);
        room = omega (arith, room);
        same = e;
        first = λ i l m z. (let n = rising_less i k m h in omega (arith, z, e));
      })
