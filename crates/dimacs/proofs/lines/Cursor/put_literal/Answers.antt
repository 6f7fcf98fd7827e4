-- `Cursor::put_literal` meets its contract: the minus, the digits of the absolute value and the space, one after the other.
-- Assumes nothing.
use Rattle.std.proofs.Common.{◌≡◌, ℕ, [], ◌∷◌, ◌++◌, ℤ, length, refl, ap, ◌∙◌, to_z-of_z, arith}
use Rattle.prelude.specs.Signed.{is_negative, variable}
use Rattle.text.specs.Decimal.{decimal}
use Rattle.text.specs.Text.{sign_text, number_text}
use Rattle.text.specs.Text.Laws.{number_text_lem}
use Rattle.dimacs.specs.declared.lines.Cursor.{Cursor}
use Rattle.dimacs.specs.Cursor.{Room, Puts}
use Rattle.dimacs.proofs.CursorLaws.{room_before, room_after, puts_both}
use Rattle.dimacs.proofs.lines.Cursor.put_literal.Goals as goal

module _ (x : ℤ) {v : ℕ} (is : v ≡ variable x) (a : Cursor) (room : Room a (length (number_text x))) where
  -- the sign, and what is written after it
  parts : number_text x ≡ sign_text (is_negative x) ++ (decimal v ++ (32 ∷ []))
  parts = rw is (number_text_lem x)

  sign-room : Room a (length (sign_text (is_negative x)))
  sign-room = room_before (sign_text (is_negative x)) (decimal v ++ (32 ∷ [])) (number_text x) parts a room (omega arith)

  module _ {b : Cursor} (sign : Puts a (sign_text (is_negative x)) b) where
    rest-room : Room b (length (decimal v ++ (32 ∷ [])))
    rest-room = room_after (sign_text (is_negative x)) (decimal v ++ (32 ∷ [])) (number_text x) parts a room (omega arith) sign

    decimal-room : Room b (length (decimal v))
    decimal-room = room_before (decimal v) (32 ∷ []) (decimal v ++ (32 ∷ [])) refl b rest-room (omega arith)

    module _ {d : Cursor} (digits : Puts b (decimal v) d) where
      space-room : Room d 1
      space-room = room_after (decimal v) (32 ∷ []) (decimal v ++ (32 ∷ [])) refl b rest-room (omega arith) digits

      all : {e : Cursor} → Puts d (32 ∷ []) e → Puts a (number_text x) e
      all space =
          puts_both (sign_text (is_negative x)) (decimal v ++ (32 ∷ [])) (number_text x) parts a room (omega arith) sign
          (puts_both (decimal v) (32 ∷ []) (decimal v ++ (32 ∷ [])) refl b rest-room (omega arith) digits space)

pub put_sign-requires : goal.put_sign-requires
put_sign-requires c = rw (to_z-of_z c.ranges.x) (sign-room c.args.x refl c.args.self.now c.requires)

pub put_decimal-requires : goal.put_decimal-requires
put_decimal-requires c =
    let sign = rw (to_z-of_z c.ranges.x) at c.put_sign.ensures in
    let value : c.absolute.result ≡ variable c.args.x = c.absolute.ensures ∙ ap variable (to_z-of_z c.ranges.x) in
    decimal-room c.args.x value c.args.self.now c.requires sign

pub put-requires : goal.put-requires
put-requires c =
    let sign = rw (to_z-of_z c.ranges.x) at c.put_sign.ensures in
    let value : c.absolute.result ≡ variable c.args.x = c.absolute.ensures ∙ ap variable (to_z-of_z c.ranges.x) in
    space-room c.args.x value c.args.self.now c.requires sign c.put_decimal.ensures

pub returns : goal.returns
returns c =
    let sign = rw (to_z-of_z c.ranges.x) at c.put_sign.ensures in
    let value : c.absolute.result ≡ variable c.args.x = c.absolute.ensures ∙ ap variable (to_z-of_z c.ranges.x) in
    all c.args.x value c.args.self.now c.requires sign c.put_decimal.ensures c.put.ensures
