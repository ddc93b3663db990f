-- Texts of lines: paper 02, Q-9 ("A line ends at its LF; bytes behind the last LF are no line").
use Rattle.std.specs.Prelude.{cond, ℕ, zero, suc, ◌+◌, eqb, length, take, Option, None, Some}
use mathlib.Core.List.{List, [], ◌∷◌, ◌++◌, flat_map}

-- the byte LF
abbrev pub line_feed : ℕ
line_feed = 10

-- how many lines a text has, each ended by LF
unfoldable pub line_feeds : List ℕ → ℕ
line_feeds [] = 0
line_feeds (b ∷ more) = cond (eqb b line_feed) 1 0 + line_feeds more

-- lines with a byte more in front of the first: where none follows, it is in no line
unfoldable pub begun_with : ℕ → List (List ℕ) → List (List ℕ)
begun_with b [] = []
begun_with b (line ∷ more) = (b ∷ line) ∷ more

-- the lines of a text, each without its LF
unfoldable pub lines_of : List ℕ → List (List ℕ)
lines_of [] = []
lines_of (b ∷ more) = cond (eqb b line_feed) ([] ∷ lines_of more) (begun_with b (lines_of more))

-- of some lines the one of a number from 0, or none
unfoldable pub numbered_in : List (List ℕ) → ℕ → Option (List ℕ)
numbered_in [] n = None
numbered_in (line ∷ more) zero = Some line
numbered_in (line ∷ more) (suc n) = numbered_in more n

-- a text's line of a number from 0
unfoldable pub line_at : List ℕ → ℕ → Option (List ℕ)
line_at text n = numbered_in (lines_of text) n

-- a line with its LF
abbrev pub ended : List ℕ → List ℕ
ended line = line ++ (line_feed ∷ [])

-- where a text's line of a number begins: behind the lines before it
unfoldable pub line_start : List ℕ → ℕ → ℕ
line_start text n = length (flat_map ended (take n (lines_of text)))
