-- Laws of writing at a place of a lent buffer: nothing, a word, and one text after another, with room for all. Assumes nothing.
use Rattle.std.proofs.Common.{◌≡◌, ℕ, ◌+◌, ◌≤◌, List, [], ◌++◌, length, refl, ap, ◌∙◌, arith, length-append}
use Rattle.prelude.specs.Written.Laws.{written_length, wrote_none, wrote_next}
use Rattle.dimacs.specs.declared.lines.Cursor.{Cursor}
use Rattle.dimacs.specs.Cursor.{Room, Puts}

-- nothing is written
pub puts_none : (a : Cursor) → Puts a [] a
puts_none a = record { same = refl; wrote = wrote_none a.buffer.now a.at }

-- what is written leaves the length
pub puts_length : (a : Cursor) {b : Cursor} {xs : List ℕ} → Room a (length xs) → Puts a xs b → length b.buffer.now ≡ length a.buffer.now
puts_length a {xs = xs} room p = ap length p.wrote.1 ∙ written_length a.buffer.now a.at xs room

-- a text of two parts, within a longer one: there is room for the first, and after it for the second
module _ (xs ys zs : List ℕ) (parts : zs ≡ xs ++ ys) (a : Cursor) {n : ℕ} (room : Room a n) (within : length zs ≤ n) where
  long : length zs ≡ length xs + length ys
  long = ap length parts ∙ length-append xs ys

  pub room_before : Room a (length xs)
  room_before = omega (arith, long)

  pub room_after : {b : Cursor} → Puts a xs b → Room b (length ys)
  room_after p = omega (arith, long, puts_length a room_before p, p.wrote.0)

  -- and both are written one after the other
  pub puts_both : {b c : Cursor} → Puts a xs b → Puts b ys c → Puts a zs c
  puts_both p q =
      record {
        same = q.same ∙ p.same;
        wrote = wrote_next xs ys zs parts a.at a.buffer.now (omega arith) p.wrote q.wrote;
      }
