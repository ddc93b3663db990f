-- A suffix put into a buffer, as a word is (`answer`, Words): paper 01, "The suffix" ("A suffix has at most 64 bytes").
use Rattle.std.specs.Prelude.{◌≡◌, Bool, true, false, cond, ◌&&◌, List, ◌++◌, ℕ, ◌+◌, leb, length}
use Rattle.answer.specs.Written.{Writes}
use Rattle.intervals.specs.Sets.{is_rooted}
use Rattle.rules.specs.Suffix.{suffix_of, longest}

-- the number is a rooted set, and the place has room for the longest suffix and for the eight bytes of a word
unfoldable pub has_place : List ℕ → ℕ → ℕ → Bool
has_place buffer at set = is_rooted set && leb (at + longest + 8) (length buffer)

-- the suffix is put there, and the place behind it is the answer; else place and buffer stay as they are
pub record PutsSuffix (set : ℕ) (entry : List ℕ) (at r : ℕ) (exit : List ℕ) : Type 0 where
  pub put : has_place entry at set ≡ true → Writes entry at (suffix_of set) r exit
  pub stays : has_place entry at set ≡ false → (r ≡ at) × (exit ≡ entry)

-- a text in a memory of n bytes, with the suffix behind it: where that has no room, or the number is no rooted set, the text stays
abbrev pub with_suffix : ℕ → List ℕ → ℕ → List ℕ
with_suffix n t set = cond (is_rooted set && leb (length t + longest + 8) n) (t ++ suffix_of set) t
