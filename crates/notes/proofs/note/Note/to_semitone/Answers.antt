-- `notes::note::Note::to_semitone` meets its contract.
use Rattle.answer.proofs.Kit.{◌≡◌, sym, ap, ◌∙◌, Ok, Err, rules}
use Rattle.notes.specs.Notes.{semitone, semitone_answer}
use Rattle.notes.proofs.Known.{known_ok, known_err}
use Rattle.notes.proofs.note.Note.to_semitone.Goals as goal

pub returns-in_err-of : goal.returns-in_err-of
unfolding semitone_answer
returns-in_err-of c =
    let e : c.from_residual.result ≡ Err (c.in_err-of.field-0.0) = search rules in
    let no = known_err c.args.self _ (sym c.of.ensures ∙ c.in_err-of.was) in
    rw no.0 (e ∙ ap Err no.1)

pub returns : goal.returns
unfolding semitone_answer
returns c =
    let is = known_ok c.args.self _ (sym c.of.ensures ∙ c.in_ok-of.was) in
    rw is.0 (ap Ok (c.pitch.ensures.0 ∙ ap semitone is.1))
