-- A note that was looked at once.
use Rattle.std.specs.Prelude.{cond, Result, Ok, Err}
use Rattle.answer.specs.declared.refusal.Refusal.{Refusal}
use Rattle.answer.specs.declared.refusal.Refusal.TheVariants.{BadNote}
use Rattle.notes.specs.Notes.{is_note}
use Rattle.notes.specs.declared.note.Note.{Note}

-- what is a note, or refusal 5
unfoldable pub known_answer : Note → Result Note Refusal
known_answer n = cond (is_note n) (Ok n) (Err BadNote)
