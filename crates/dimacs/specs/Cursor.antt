-- A lent buffer and a place in it, and what a writer asks and promises of them. Assumes nothing.
use Rattle.std.specs.Prelude.{◌≡◌, List, ℕ, ◌+◌, ◌≤◌, length}
use Rattle.prelude.specs.Written.Laws.{Wrote}
use Rattle.dimacs.specs.declared.lines.Cursor.{Cursor}

-- so many bytes fit from the place on
abbrev pub Room : Cursor → ℕ → Type 0
Room c n = c.at + n ≤ length c.buffer.now

-- the text stands from the place on, the place is behind it, every other byte is as it was, and the buffer is the same one
pub record Puts (before : Cursor) (text : List ℕ) (after : Cursor) : Type 0 where
  pub same : after.buffer.ghost_name ≡ before.buffer.ghost_name
  pub wrote : Wrote before.buffer.now before.at text after.at after.buffer.now
