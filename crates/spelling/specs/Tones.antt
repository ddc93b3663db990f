-- Spelled tones: paper 01, "Notes" ("Spelled tones (added)"), for any table of degrees, and paper 02, Q-3, which chooses the table.
use Rattle.answer.specs.declared.refusal.Refusal.{Refusal}
use Rattle.std.specs.Prelude.{cond, List, [], ◌∷◌, ◌++◌, map, ℕ, Result, Ok, Err}
use Rattle.answer.specs.Words.{bytes}
use Rattle.answer.specs.Replies.{Reply, refuse, text}
use Rattle.answer.specs.declared.refusal.Refusal.TheVariants.{NotASet}
use Rattle.intervals.specs.Sets.{is_rooted}
use Rattle.intervals.specs.Intervals.{semitones_of, to_degree_of, numeric_of}
use Rattle.intervals.specs.declared.interval.Interval.{Interval}
use Rattle.intervals.specs.declared.interval.IntDegree.{IntDegree}
use Rattle.notes.specs.Notes.{get_note}
use Rattle.notes.specs.NoteText.{signs, note_name}
use Rattle.notes.specs.declared.note.Note.{Note}
use Rattle.names.specs.Names.{flats, note_in}
use Rattle.rules.specs.Classes.{intervals_of}

-- "They should use 004's `to_degree`, which gives fifth" (Q-3): the code's table, chosen here
abbrev pub spelled_by : Interval → IntDegree
spelled_by = to_degree_of

-- the note of an interval above a root: "through `get_note` with its semitones and its degree"
unfoldable pub tone_of : (Interval → IntDegree) → Note → Interval → Note
tone_of degrees root i = get_note root (semitones_of i) (numeric_of (degrees i))

-- its text
unfoldable pub tone_name : (Interval → IntDegree) → Note → Interval → List ℕ
tone_name degrees root i = note_name signs (tone_of degrees root i)

-- the texts of some intervals' notes, in their order
abbrev pub tone_names : (Interval → IntDegree) → Note → List Interval → List (List ℕ)
tone_names degrees root found = map (tone_name degrees root) found

-- texts with one space before each
unfoldable pub spaced : List (List ℕ) → List ℕ
spaced [] = []
spaced (t ∷ more) = bytes " " ++ t ++ spaced more

-- "names joined by one space"
unfoldable pub joined : List (List ℕ) → List ℕ
joined [] = []
joined (t ∷ more) = t ++ spaced more

-- the tones of a set on a root: "each interval in rising order", as `intervals_of` has them
unfoldable pub tones_of : (Interval → IntDegree) → Note → ℕ → List ℕ
tones_of degrees root s = joined (tone_names degrees root (intervals_of s))

-- the same on the note that a table gave for a root class, or its refusal
unfoldable pub tones_on : (Interval → IntDegree) → Result Note Refusal → ℕ → Reply
tones_on degrees (Ok root) s = text (tones_of degrees root s)
tones_on degrees (Err why) s = refuse why

-- what a call has to give, "root class and rooted set": refusal 1, then 2, or the tones
unfoldable pub tones_reply : (Interval → IntDegree) → ℕ → ℕ → Reply
tones_reply degrees root s = cond (is_rooted s) (tones_on degrees (note_in flats root) s) (refuse NotASet)
