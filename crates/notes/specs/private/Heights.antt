-- Counts as the code carries them: unsigned, from six flats up.
use Rattle.std.specs.Prelude.{cond, ◌∷◌, ℕ, ℤ, pos, nat_abs, ◌+ℤ◌, ◌-ℤ◌}
use Rattle.answer.specs.Words.{packed}
use Rattle.notes.specs.Notes.{is_count}
use Rattle.notes.specs.NoteText.{signs}

-- the height of a count, 0 to 12, and 13 for what is no count
unfoldable pub height_of : ℤ → ℕ
height_of z = cond (is_count z) (nat_abs (z +ℤ pos 6)) 13

-- the word of a note at a height whose letter's byte is 0
unfoldable pub behind_letter : ℕ → ℕ
behind_letter height = packed (0 ∷ signs (pos height -ℤ pos 6))
