-- `hemotusap::moves::hemotusap_get_note` meets its contract.
use Rattle.answer.proofs.Kit.{ap, ◌∙◌, rules}
use mir.Syntax.{w64}
use mir.Facts.{to_z-of_z}
use Rattle.notes.specs.Notes.{note_of, get_note_answer}
use Rattle.notes.specs.declared.note.Note.{Note}
use Rattle.host.specs.Numbers.{note_answer_number}
use Rattle.hemotusap.proofs.moves.hemotusap_get_note.Goals as goal

pub returns : goal.returns
returns c = let a = c.args in
    let note = c.new.ensures ∙ ap (note_of a.letter) (to_z-of_z c.ranges.accidental) in
    to_z-of_z {w = w64} (search rules) ∙ c.moved.ensures
    ∙ ap note_answer_number (c.get_note.ensures ∙ ap (λ (n : Note). get_note_answer n a.semitones a.degree) note)
