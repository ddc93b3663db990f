-- Texts in an element.
use Rattle.std.specs.Prelude.{◌≡◌, List, ◌++◌, ℕ, ◌+◌, ◌≤◌, length}
use Rattle.musicxml.specs.declared.element.TheConstants.{ROOM}

-- a text has another behind it, if that has room
pub record Adds (t u t' : List ℕ) : Type 0 where
  pub where_room : length t + length u ≤ ROOM → t' ≡ t ++ u
