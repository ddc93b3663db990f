-- An input that comes in pieces: what is kept of a line, and what is printed. The theorem `in_pieces` (proofs/Streams.antt)
-- says that all of them together print what `input_text` says of the whole.
use Rattle.std.specs.Prelude.{cond, List, [], ◌∷◌, ◌++◌, ℕ, eqb, take}
use Rattle.notes.specs.declared.note.Note.{Note}
use Rattle.answer.specs.Lines.{line_feed}
use Rattle.chordlist.specs.Replies.{line_text}

-- at most so many bytes of a line are kept: one more than it may have, so that a longer one shows
abbrev pub most_kept : ℕ
most_kept = 1025

-- what is kept of a line with a byte more: behind LF a new one begins
unfoldable pub held_with : List ℕ → ℕ → List ℕ
held_with held byte = cond (eqb byte line_feed) [] (take most_kept (held ++ (byte ∷ [])))

-- what a byte has printed: LF, the answer of the line that it ends
unfoldable pub said_with : List Note → List ℕ → ℕ → List ℕ
said_with names held byte = cond (eqb byte line_feed) (line_text names held) []

-- what is kept after a piece
unfoldable pub held_after : List ℕ → List ℕ → List ℕ
held_after held [] = held
held_after held (byte ∷ more) = held_after (held_with held byte) more

-- what a piece has printed
unfoldable pub said_by : List Note → List ℕ → List ℕ → List ℕ
said_by names held [] = []
said_by names held (byte ∷ more) = said_with names held byte ++ said_by names (held_with held byte) more

-- what the end has printed: "A final line without LF counts if not empty"
unfoldable pub said_at_end : List Note → List ℕ → List ℕ
said_at_end names [] = []
said_at_end names (byte ∷ more) = line_text names (byte ∷ more)

-- what pieces have printed that come one after the other, and then the end
unfoldable pub said_by_all : List Note → List ℕ → List (List ℕ) → List ℕ
said_by_all names held [] = said_at_end names held
said_by_all names held (piece ∷ more) = said_by names held piece ++ said_by_all names (held_after held piece) more
