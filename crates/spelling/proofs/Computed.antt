-- A layer of definitions, for what is computed of spelled tones: to unfold it is to unfold all that its line names.
use Rattle.answer.specs.Words.{bytes}
use Rattle.intervals.specs.Sets.{is_set, is_rooted}
use Rattle.notes.specs.Notes.{semitone, spelled, get_note}
use Rattle.notes.specs.NoteText.{letter_name, signs, note_name}
use Rattle.names.specs.Names.{flats}
use Rattle.rules.proofs.Computed.{classes_computed}
use Rattle.spelling.specs.Tones.{tone_of, tone_name, spaced, joined, tones_of, tones_on, tones_reply}

unfoldable pub tones_computed : Unit {0}
unfolding classes_computed bytes is_set is_rooted semitone spelled get_note letter_name signs note_name flats tone_of tone_name spaced joined tones_of tones_on tones_reply
tones_computed = tt
