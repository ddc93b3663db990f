-- `notes::note::Note::to_word` meets its contract.
use Rattle.answer.proofs.Kit.{sym, ap, ◌∙◌}
use Rattle.answer.specs.Words.{packed}
use Rattle.notes.specs.NoteText.{signs, note_name}
use Rattle.notes.specs.declared.note.Note.{Note}
use Rattle.notes.proofs.Known.{known_ok, known_not}
use Rattle.notes.proofs.note.Note.to_word.Goals as goal

pub returns-in_default : goal.returns-in_default
returns-in_default c = rw (known_not c.args.self (λ k e. c.in_default.not-Ok k (c.of.ensures ∙ e)))

pub returns : goal.returns
returns c =
    let is = known_ok c.args.self _ (sym c.of.ensures ∙ c.in-Ok.is) in
    rw is.0 (c.word.ensures ∙ ap (λ (n : Note). packed (note_name signs n)) is.1)
