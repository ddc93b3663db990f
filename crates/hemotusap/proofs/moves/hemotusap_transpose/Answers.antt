-- `hemotusap::moves::hemotusap_transpose` meets its contract.
use Rattle.answer.proofs.Kit.{ap, ap₂, ◌∙◌, rules}
use mir.Syntax.{w64}
use mir.Facts.{to_z-of_z}
use Rattle.notes.specs.Notes.{note_of, transpose_answer}
use Rattle.notes.specs.declared.note.Note.{Note}
use Rattle.host.specs.Numbers.{note_answer_number}
use Rattle.hemotusap.proofs.moves.hemotusap_transpose.Goals as goal

pub returns : goal.returns
returns c = let a = c.args in
    let from = c.new-from.ensures ∙ ap (note_of a.from_letter) (to_z-of_z c.ranges.from_accidental) in
    let note = c.new-note.ensures ∙ ap (note_of a.letter) (to_z-of_z c.ranges.accidental) in
    let to = c.new-to.ensures ∙ ap (note_of a.to_letter) (to_z-of_z c.ranges.to_accidental) in
    to_z-of_z {w = w64} (search rules) ∙ c.moved.ensures
    ∙ ap note_answer_number (c.transpose.ensures ∙ ap (λ (n : Note). transpose_answer n c.new-note.result c.new-to.result) from ∙ ap₂ (transpose_answer (note_of a.from_letter a.from_accidental)) note to)
