-- Names of the pitch classes: paper 01, "Candidates" and "Notes", and paper 02, Q-9. What cites a table holds for any table of notes.
use Rattle.answer.specs.declared.refusal.Refusal.{Refusal}
use Rattle.std.specs.Prelude.{List, [], ◌∷◌, map, ℕ, pos, negsuc, get_or, Result, Ok, Err}
use Rattle.answer.specs.declared.refusal.Refusal.TheVariants.{BadClass}
use Rattle.notes.specs.Notes.{note_of}
use Rattle.notes.specs.NoteText.{signs, note_name}
use Rattle.notes.specs.declared.note.Note.{Note}
use Rattle.names.specs.declared.table.Names.{Names}
use Rattle.names.specs.declared.table.Names.TheVariants.{Flats, Sharps}

-- a letter with no accidental
abbrev pub plain : ℕ → Note
plain letter = note_of letter (pos 0)

-- a letter with one flat
abbrev pub flat : ℕ → Note
flat letter = note_of letter (negsuc 0)

-- "Names are C Db D Eb E F Gb G Ab A Bb B", where "Letters 0..6 are C D E F G A B"
unfoldable pub flats : List Note
flats =
    plain 0 ∷ flat 1 ∷ plain 1 ∷ flat 2 ∷ plain 2 ∷ plain 3 ∷ flat 4 ∷ plain 4 ∷ flat 5 ∷ plain 5 ∷ flat 6 ∷ plain 6 ∷ []

-- a letter with one sharp
abbrev pub sharp : ℕ → Note
sharp letter = note_of letter (pos 1)

-- "C# D# F# G# A# for the black keys, otherwise .. the same"
unfoldable pub sharps : List Note
sharps =
    plain 0 ∷ sharp 0 ∷ plain 1 ∷ sharp 1 ∷ plain 2 ∷ plain 3 ∷ sharp 3 ∷ plain 4 ∷ sharp 4 ∷ plain 5 ∷ sharp 5 ∷ plain 6 ∷ []

-- the table that the code is asked for
abbrev pub table_of : Names → List Note
table_of Flats = flats
table_of Sharps = sharps

-- the name of a class in a table is its note's text; a number past the table has none
abbrev pub name_of : List Note → ℕ → List ℕ
name_of table class = get_or (map (note_name signs) table) class []

-- the note of a class in a table; refusal 2 past it: "a root or bass class above 11"
abbrev pub note_in : List Note → ℕ → Result Note Refusal
note_in table class = get_or (map Ok table) class (Err BadClass)
