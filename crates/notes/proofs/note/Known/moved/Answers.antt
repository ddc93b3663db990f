-- `notes::note::Known::moved` meets its contract.
use Rattle.answer.proofs.Kit.{ap₂, ◌∙◌, ℕ, ◌+◌, ◌%◌, arith}
use Rattle.notes.specs.Notes.{letter_at, spelled, get_note}
use Rattle.notes.specs.declared.note.Note.{Note}
use Rattle.notes.proofs.note.Known.moved.Goals as goal

pub returns : goal.returns
unfolding get_note
returns c =
    let a = c.args in
    c.spell.ensures ∙ ap₂ (λ (p : ℕ) (n : Note). spelled (letter_at n.letter a.degree) ((p + a.semitones) % 12)) c.pitch.ensures.0 c.self.view_is
