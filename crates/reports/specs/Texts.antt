-- A text held by value: an array of bytes, of which the first count. Assumes nothing.
use Rattle.std.specs.Prelude.{◌≡◌, List, ◌++◌, ℕ, ◌+◌, ◌≤◌, take}
use Rattle.reports.specs.declared.buffer.Text.{Text}
pub mod Laws

-- the bytes of a text
unfoldable pub shown : Text → List ℕ
shown t = take t.count t.bytes

-- u is t with xs at its end, which are n bytes at most
pub record Added (t : Text) (xs : List ℕ) (n : ℕ) (u : Text) : Type 0 where
  pub text : shown u ≡ shown t ++ xs
  pub long : u.count ≤ t.count + n
