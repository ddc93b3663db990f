-- What `chordlist` prints for its whole input: paper 01, the program's paragraph.
use mathlib.Core.List.{List, [], flat_map}
use Rattle.std.specs.Prelude.{ℕ}
use Rattle.notes.specs.declared.note.Note.{Note}
use Rattle.answer.specs.Lines.{line_feed}
use Rattle.chordlist.specs.Parts.{parts}
use Rattle.chordlist.specs.Replies.{line_text}

-- "lines .. before LF"; "A final line without LF counts if not empty": no bytes behind the last LF are no line
unfoldable pub lines_of : List ℕ → List (List ℕ)
lines_of input = parts [] line_feed input

-- what is printed for a whole input: what is printed for its lines, one after the other
unfoldable pub input_text : List Note → List ℕ → List ℕ
input_text names input = flat_map (line_text names) (lines_of input)
