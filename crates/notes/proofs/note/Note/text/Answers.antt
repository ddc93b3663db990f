-- `notes::note::Note::text` meets its contract: the note's word is its text.
use Rattle.answer.proofs.Kit.{◌≡◌, sym, ap, ◌∙◌, [], length, List, ℕ, Ok, Err, arith, rules, le-leb}
use Rattle.answer.specs.Words.{packed, text_of}
use Rattle.answer.specs.Made.{with_word}
use Rattle.answer.proofs.Rooms.{refused}
use Rattle.answer.proofs.Texts.{word_text}
use Rattle.notes.specs.NoteText.{signs, note_name, note_reply}
use Rattle.notes.specs.declared.note.Note.{Note}
use Rattle.notes.proofs.Names.{name_short}
use Rattle.notes.proofs.Known.{known_ok, known_err}
use Rattle.notes.proofs.note.Note.text.Goals as goal

pub returns-in_err-note : goal.returns-in_err-note
unfolding note_reply
returns-in_err-note c =
    let e : c.from_residual.result ≡ Err (c.in_err-note.field-0.0) = search rules in
    let no = known_err c.args.self _ (sym c.of.ensures ∙ c.in_err-note.was) in
    rw (no.0, e, no.1) (refused _ _)

pub returns : goal.returns
unfolding note_reply
returns c =
    let is = known_ok c.args.self _ (sym c.of.ensures ∙ c.in_ok-note.was) in
    let word : c.word.result ≡ packed (note_name signs c.args.self) = c.word.ensures ∙ ap (λ (n : Note). packed (note_name signs n)) is.1 in
    let made : c.push.new.self ≡ note_name signs c.args.self =
    rw (c.new-text.ensures, word) at c.push.ensures ∙ word_text (note_name signs c.args.self) (name_short _ is.0) in
    rw is.0 (rw made at c.give.ensures)
