-- Notes and their moves: paper 01, "Notes", and 007.
use Rattle.answer.specs.declared.refusal.Refusal.{Refusal}
use Rattle.std.specs.Prelude.{Bool, cond, ◌&&◌, [], ◌∷◌, ℕ, ◌+◌, ◌-◌, ◌%◌, eqb, leb, ℤ, pos, negsuc, neg_ℤ, ◌+ℤ◌, ◌-ℤ◌, get_or, Option, Some, None, Result, Ok, Err}
use Rattle.std.specs.Int.Signed.{le_z, lt_z}
use Rattle.answer.specs.declared.refusal.Refusal.TheVariants.{BadNote, BadMove}
use Rattle.notes.specs.declared.note.Note.{Note}

-- a count from -6 to 6
abbrev pub is_count : ℤ → Bool
is_count z = le_z (neg_ℤ (pos 6)) z && le_z z (pos 6)

-- an accidental's count: none counts 0
abbrev pub count_of : Option ℤ → ℤ
count_of None = pos 0
count_of (Some z) = z

-- the accidental of a count: "a 0 handed in is none"
abbrev pub accidental_of : ℤ → Option ℤ
accidental_of (pos n) = cond (eqb n 0) None (Some (pos n))
accidental_of (negsuc n) = Some (negsuc n)

-- the note of a letter and a count
abbrev pub note_of : ℕ → ℤ → Note
note_of l z = record { letter = l; accidental = accidental_of z }

-- a letter 0..6 and a count
abbrev pub is_note : Note → Bool
is_note n = leb n.letter 6 && is_count (count_of n.accidental)

-- the natural semitone of a letter: 0 2 4 5 7 9 11
abbrev pub natural : ℕ → ℕ
natural l = get_or (0 ∷ 2 ∷ 4 ∷ 5 ∷ 7 ∷ 9 ∷ 11 ∷ []) l 0

-- the remainder of an integer by 12
abbrev pub mod12 : ℤ → ℕ
mod12 (pos n) = n % 12
mod12 (negsuc n) = 11 - n % 12

-- "the natural one plus the count, mod 12"
unfoldable pub semitone : Note → ℕ
semitone n = mod12 (pos (natural n.letter) +ℤ count_of n.accidental)

-- the letter at a degree above a letter, which is at the first: "letters count mod 7"
abbrev pub letter_at : ℕ → ℕ → ℕ
letter_at l degree = (l + (degree - 1)) % 7

-- a difference of two pitches, an octave less above 6 and an octave more below -6 (007)
abbrev pub nearest : ℤ → ℤ
nearest z = cond (lt_z (pos 6) z) (z -ℤ pos 12) (cond (lt_z z (neg_ℤ (pos 6))) (z +ℤ pos 12) z)

-- the note on a letter that sounds a pitch
unfoldable pub spelled : ℕ → ℕ → Note
spelled l pitch = note_of l (nearest (pos pitch -ℤ pos (natural l)))

-- the note that is some semitones above a note, on the letter at a degree above it (007)
unfoldable pub get_note : Note → ℕ → ℕ → Note
get_note n semitones degree = spelled (letter_at n.letter degree) ((semitone n + semitones) % 12)

-- semitones up to 24, degrees 1 to 14
abbrev pub is_move : ℕ → ℕ → Bool
is_move semitones degree = leb semitones 24 && leb 1 degree && leb degree 14

-- a note moved as one note to another (007)
unfoldable pub transposed : Note → Note → Note → Note
transposed from note to =
    get_note note ((semitone to + 12 - semitone from) % 12) ((to.letter + 7 - from.letter) % 7 + 1)

-- what the calls answer: refusal 5, then 6
unfoldable pub semitone_answer : Note → Result ℕ Refusal
semitone_answer n = cond (is_note n) (Ok (semitone n)) (Err BadNote)

-- refusal 5 for what is no note, then 6 for what is no move, or the note
unfoldable pub get_note_answer : Note → ℕ → ℕ → Result Note Refusal
get_note_answer n semitones degree =
    cond (is_note n) (cond (is_move semitones degree) (Ok (get_note n semitones degree)) (Err BadMove)) (Err BadNote)

-- refusal 5 where one of the three is no note, or the note
unfoldable pub transpose_answer : Note → Note → Note → Result Note Refusal
transpose_answer from note to =
    cond (is_note from && is_note note && is_note to) (Ok (transposed from note to)) (Err BadNote)
