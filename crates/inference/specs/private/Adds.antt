-- A text added behind another, in a memory of n bytes.
use Rattle.std.specs.Prelude.{◌≡◌, List, ◌++◌, ℕ, ◌+◌, ◌≤◌, length}

-- where it has room, and a word's eight bytes behind it: a word is stored whole
abbrev pub Adds : ℕ → List ℕ → List ℕ → List ℕ → Type 0
Adds n entry text exit = length entry + length text + 8 ≤ n → exit ≡ entry ++ text
