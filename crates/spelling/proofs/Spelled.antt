-- Laws of tones.
use Rattle.answer.proofs.Kit.{◌≡◌, true, ℕ, T, leb, Ok}
use Rattle.answer.proofs.Digits.{is_short}
use Rattle.answer.proofs.Tests.{is_true, all}
use Rattle.intervals.specs.Intervals.{intervals, nth, numbered, semitones_of, numeric_of}
use Rattle.intervals.proofs.Rows.{at_interval}
use Rattle.notes.specs.Notes.{is_note, is_move, get_note, get_note_answer}
use Rattle.notes.specs.declared.note.Note.{Note}
use Rattle.intervals.specs.declared.interval.Interval.{Interval}
use Rattle.intervals.specs.declared.interval.IntDegree.{IntDegree}
use Rattle.intervals.specs.declared.interval.IntDegree.TheVariants.{Root, Second, Third, Fourth, Fifth, Sixth, Seventh}
use Rattle.intervals.specs.declared.interval.IntDegree.TheVariants as Degree
use Rattle.notes.proofs.Names.{name_short}
use Rattle.notes.proofs.Sounding.{move_is}
use Rattle.spelling.specs.Tones.{tone_of, tone_name}

-- a move from a note is not refused
pub move_given : (n : Note) (semitones degree : ℕ) → is_note n ≡ true → is_move semitones degree ≡ true → get_note_answer n semitones degree ≡ Ok (get_note n semitones degree)
unfolding get_note_answer
move_given n semitones degree note move = rw (note, move)

-- a degree, with semitones that are few
moves : (s : ℕ) → leb s 24 ≡ true → (d : IntDegree) → is_move s (numeric_of d) ≡ true
moves s few Root = rw few
moves s few Second = rw few
moves s few Third = rw few
moves s few Fourth = rw few
moves s few Fifth = rw few
moves s few Sixth = rw few
moves s few Seventh = rw few
moves s few Degree.Ninth = rw few
moves s few Degree.Eleventh = rw few
moves s few Degree.Thirteenth = rw few

semitones_few : (i : Interval) → leb (semitones_of i) 24 ≡ true
unfolding all intervals nth numbered
semitones_few i = is_true _ (at_interval (λ i. leb (semitones_of i) 24) tt i)

-- by any table of degrees an interval is a move
pub interval_moves : (degrees : Interval → IntDegree) (i : Interval) → is_move (semitones_of i) (numeric_of (degrees i)) ≡ true
interval_moves degrees i = moves (semitones_of i) (semitones_few i) (degrees i)

-- and the name of its tone is one that a word can hold
pub tone_short : (degrees : Interval → IntDegree) (n : Note) (i : Interval) → T (is_short (tone_name degrees n i))
unfolding tone_name tone_of
tone_short degrees n i = name_short (tone_of degrees n i) (move_is n (semitones_of i) (numeric_of (degrees i)))
