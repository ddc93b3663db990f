-- What stands in a buffer after a text was put there.
use Rattle.std.specs.Prelude.{◌≡◌, List, ◌++◌, ℕ, ◌+◌, length, take}

-- the text was added to what stands below a place, and r is the place behind it
pub record Writes (entry : List ℕ) (at : ℕ) (text : List ℕ) (r : ℕ) (exit : List ℕ) : Type 0 where
  pub place : r ≡ at + length text
  pub added : take r exit ≡ take at entry ++ text
