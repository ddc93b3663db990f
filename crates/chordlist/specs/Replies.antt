-- What `chordlist` prints for a line: paper 01, the program's paragraph, and paper 02, Q-6, for a table of twelve class names.
use Rattle.std.specs.Prelude.{cond, List, [], ◌∷◌, ◌++◌, ℕ, leb, length, Option, Some, None}
use Rattle.notes.specs.declared.note.Note.{Note}
use Rattle.answer.specs.Lines.{line_feed}
use Rattle.answer.specs.Words.{bytes}
use Rattle.answer.specs.Replies.{Reply, refuse, text}
use Rattle.strict.specs.Strict.{strict_reply}
use Rattle.chordlist.specs.Codes.{codes_in}

-- "`?` alone"
unfoldable pub bad_text : List ℕ
bad_text = bytes "?" ++ (line_feed ∷ [])

-- "It prints the candidates, then a line `.`", and `?` for what is refused
unfoldable pub reply_text : Reply → List ℕ
reply_text (text listed) = listed ++ bytes "." ++ (line_feed ∷ [])
reply_text (refuse why) = bad_text

-- "`chordlist` uses the strict entry"
unfoldable pub codes_text : List Note → List ℕ → List ℕ
codes_text names codes = reply_text (strict_reply names codes)

-- a line that can be read, and "A bad line"
unfoldable pub held_text : List Note → Option (List ℕ) → List ℕ
held_text names None = bad_text
held_text names (Some codes) = codes_text names codes

-- "lines of at most 1,024 bytes before LF"; "A bad line, or a longer one, prints `?` alone"
unfoldable pub line_text : List Note → List ℕ → List ℕ
line_text names line = cond (leb (length line) 1024) (held_text names (codes_in line)) bad_text
