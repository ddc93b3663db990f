-- `notes::note::Note::transpose` meets its contract: the tests say whether all three are notes.
use Rattle.answer.proofs.Kit.{◌≡◌, sym, ap, ap₂, ◌∙◌, true, ℕ, ◌+◌, ◌-◌, ◌%◌, arith, rules, Ok, Err}
use Rattle.notes.specs.Notes.{is_note, semitone, get_note, transposed, transpose_answer}
use Rattle.notes.specs.declared.note.Note.{Note}
use Rattle.notes.proofs.Known.{known_ok, known_err}
use Rattle.notes.proofs.note.Note.transpose.Goals as goal
use Rattle.notes.proofs.note.Note.transpose.Goals.{In_ok-from, In_ok-note, In_ok-to}

-- what the tests told of the three notes
from : (c : In_ok-from) → (is_note c.args.self ≡ true) × (c.in_ok-from.from ≡ c.args.self)
from c = known_ok c.args.self _ (sym c.of.ensures ∙ c.in_ok-from.was)

note : (c : In_ok-note) → (is_note c.args.note ≡ true) × (c.in_ok-note.note ≡ c.args.note)
note c = known_ok c.args.note _ (sym c.of-2.ensures ∙ c.in_ok-note.was)

to : (c : In_ok-to) → (is_note c.args.to ≡ true) × (c.in_ok-to.to ≡ c.args.to)
to c = known_ok c.args.to _ (sym c.of-3.ensures ∙ c.in_ok-to.was)

pub returns-in_err-from : goal.returns-in_err-from
unfolding transpose_answer
returns-in_err-from c =
    let e : c.from_residual.result ≡ Err (c.in_err-from.field-0.0) = search rules in
    let no = known_err c.args.self _ (sym c.of.ensures ∙ c.in_err-from.was) in
    rw no.0 (e ∙ ap Err no.1)

pub returns-in_err-note : goal.returns-in_err-note
unfolding transpose_answer
returns-in_err-note c =
    let e : c.from_residual-in_err-note.result ≡ Err (c.in_err-note.field-0.0) = search rules in
    let no = known_err c.args.note _ (sym c.of-2.ensures ∙ c.in_err-note.was) in
    rw ((from (goal.at.returns-in_err-note c).In_ok-from).0, no.0) (e ∙ ap Err no.1)

pub returns-in_err-to : goal.returns-in_err-to
unfolding transpose_answer
returns-in_err-to c =
    let e : c.from_residual-in_err-to.result ≡ Err (c.in_err-to.field-0.0) = search rules in
    let no = known_err c.args.to _ (sym c.of-3.ensures ∙ c.in_err-to.was) in
    rw ((from (goal.at.returns-in_err-to c).In_ok-from).0, (note (goal.at.returns-in_err-to c).In_ok-note).0, no.0) (e ∙ ap Err no.1)

pub returns : goal.returns
unfolding transposed transpose_answer
returns c =
    let f = from (goal.at.returns c).In_ok-from in
    let n = note (goal.at.returns c).In_ok-note in
    let t = to (goal.at.returns c).In_ok-to in
    let same =
    rw (c.pitch.ensures.0 ∙ ap semitone t.1, c.pitch-2.ensures.0 ∙ ap semitone f.1, n.1, c.to.view_is ∙ t.1, c.from.view_is ∙ f.1) at c.moved.ensures in
    rw (f.0, n.0, t.0) (ap Ok same)
