-- The text of a note: paper 01, "Notes" ("Text: the letter, then `#` or `b` once per count"), with the sharps as paper 02 has them, Q-10.
use Rattle.std.specs.Prelude.{cond, List, ◌∷◌, ◌++◌, ℕ, suc, ◌/◌, ◌%◌, ℤ, pos, negsuc, get_or, replicate}
use Rattle.answer.specs.Words.{bytes}
use Rattle.answer.specs.Replies.{Reply, refuse, text}
use Rattle.answer.specs.declared.refusal.Refusal.TheVariants.{BadNote}
use Rattle.notes.specs.Notes.{count_of, is_note}
use Rattle.notes.specs.declared.note.Note.{Note}

-- the byte of a letter: C D E F G A B
unfoldable pub letter_name : ℕ → ℕ
letter_name l = get_or (bytes "CDEFGAB") l 0

-- the byte of a text that has one
abbrev pub byte : List ℕ → ℕ
byte t = get_or t 0 0

-- how a count is written: "for a positive count, `#` first if it is odd, then one `x` for each pair. Flats stay as they are"
unfoldable pub signs : ℤ → List ℕ
signs (pos n) = replicate (n % 2) (byte (bytes "#")) ++ replicate (n / 2) (byte (bytes "x"))
signs (negsuc n) = replicate (suc n) (byte (bytes "b"))

-- a note's text, where counts are written as `written` says
unfoldable pub note_name : (ℤ → List ℕ) → Note → List ℕ
note_name written n = letter_name n.letter ∷ written (count_of n.accidental)

-- what a call that writes it has to give: refusal 5, or the text
unfoldable pub note_reply : (ℤ → List ℕ) → Note → Reply
note_reply written n = cond (is_note n) (text (note_name written n)) (refuse BadNote)
