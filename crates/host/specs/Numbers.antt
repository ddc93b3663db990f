-- Answers as the numbers that a host gets, and the bass that it gives: paper 01, "Ported, added, left behind" ("the quality number, or for a note
-- 16 × letter + count + 6 (no accidental counts 0); a refusal comes back as minus its number"), and paper 02, Q-1 ("The host gets minus
-- (256 × number + place)").
use Rattle.qualities.specs.declared.quality.ChordQuality.{ChordQuality}
use Rattle.std.specs.Prelude.{cond, ℕ, ◌+◌, ◌*◌, ◌^◌, min, eqb, ℤ, pos, neg_ℤ, ◌+ℤ◌, Option, Some, None, Result, Ok, Err}
use Rattle.answer.specs.Refusals.{told_of}
use Rattle.answer.specs.declared.refusal.Refusal.{Refusal}
use Rattle.notes.specs.Notes.{count_of}
use Rattle.qualities.specs.Qualities as Qualities
use Rattle.notes.specs.declared.note.Note.{Note}
use Rattle.candidates.specs.declared.parts.Candidate.{Candidate}
use Rattle.names.specs.declared.table.Names.{Names}

-- minus a size; where 64 bits hold no number so low, the lowest that they hold
abbrev pub minus : ℕ → ℤ
minus size = neg_ℤ (pos (min size (2 ^ 63)))

-- what the host gets minus of: "256 × number + place"; of a refusal without a place "its number"
abbrev pub size_of : ℕ → Option ℕ → ℕ
size_of number None = number
size_of number (Some place) = 256 * number + place

-- a refusal, with the number and the place that the papers give it
abbrev pub refusal_number : Refusal → ℤ
refusal_number why = minus (size_of (told_of why).number (told_of why).place)

-- an answer's number, or the refusal's
abbrev pub answer_number : {A : Type 0} → (A → ℤ) → Result A Refusal → ℤ
answer_number number (Ok x) = number x
answer_number number (Err why) = refusal_number why

-- "the quality number"
abbrev pub quality_number : Result ChordQuality Refusal → ℤ
quality_number = answer_number (λ q. pos (Qualities.quality_number q))

-- "for a note 16 × letter + count + 6 (no accidental counts 0)"
abbrev pub note_number : Note → ℤ
note_number n = pos (16 * n.letter + 6) +ℤ count_of n.accidental

-- a note, or the refusal
abbrev pub note_answer_number : Result Note Refusal → ℤ
note_answer_number = answer_number note_number

-- "a bass of 15 is none"
abbrev pub bass_number : Option ℕ → ℕ
bass_number None = 15
bass_number (Some class) = class

-- a candidate: "65536 × bass + 4096 × root + set"
abbrev pub parts_number : Candidate → ℕ
parts_number c = 65536 * bass_number c.bass + 4096 * c.root + c.set

-- a candidate, or "0 where there is no such candidate (no rooted set is 0)"
abbrev pub candidate_number : Option Candidate → ℤ
candidate_number (Some c) = pos (parts_number c)
candidate_number None = pos 0

-- "0 for a part of the flat listing, 1 for one of the sharp"
abbrev pub names_number : Names → ℕ
names_number Names.Flats = 0
names_number Names.Sharps = 1

-- "There bass 255 means none"
abbrev pub bass_from : ℕ → Option ℕ
bass_from bass = cond (eqb bass 255) None (Some bass)
