-- `notes::note::Note::get_note` meets its contract: the tests say which case of its answer holds.
use Rattle.answer.proofs.Kit.{◌≡◌, sym, ap, ◌∙◌, true, ◌<◌, arith, rules, le-leb, lt-leb, Ok, Err}
use Rattle.notes.specs.Notes.{is_note, get_note, get_note_answer}
use Rattle.notes.specs.declared.note.Note.{Note}
use Rattle.notes.proofs.Known.{known_ok, known_err}
use Rattle.notes.proofs.note.Note.get_note.Goals as goal
use Rattle.notes.proofs.note.Note.get_note.Goals.{In_ok-note}

-- it is a note
is : (c : In_ok-note) → (is_note c.args.self ≡ true) × (c.in_ok-note.note ≡ c.args.self)
is c = known_ok c.args.self _ (sym c.of.ensures ∙ c.in_ok-note.was)

pub returns-in_err-note : goal.returns-in_err-note
unfolding get_note_answer
returns-in_err-note c =
    let e : c.from_residual.result ≡ Err (c.in_err-note.field-0.0) = search rules in
    let no = known_err c.args.self _ (sym c.of.ensures ∙ c.in_err-note.was) in
    rw no.0 (e ∙ ap Err no.1)

pub returns-then-semitones-gt24 : goal.returns-then-semitones-gt24
unfolding get_note_answer
returns-then-semitones-gt24 c = simp ((is (goal.at.returns-then-semitones-gt24 c).In_ok-note).0, lt-leb _ _ c.if-semitones-gt24.true)

pub returns-then-degree-eq0 : goal.returns-then-degree-eq0
unfolding get_note_answer
returns-then-degree-eq0 c = rw ((is (goal.at.returns-then-degree-eq0 c).In_ok-note).0, le-leb _ _ c.if-semitones-gt24.false, c.if-degree-eq0.true)

pub returns-then-degree-gt14 : goal.returns-then-degree-gt14
unfolding get_note_answer
returns-then-degree-gt14 c =
    let least : 0 < c.args.degree = omega arith in
    simp ((is (goal.at.returns-then-degree-gt14 c).In_ok-note).0, le-leb _ _ c.if-semitones-gt24.false, le-leb _ _ least, lt-leb _ _ c.if-degree-gt14.true)

-- found without this too: it stands here so that a degree past 14 fails at it, whatever the test before it is called
pub moved-requires : goal.moved-requires
moved-requires c = (omega arith, omega arith, omega arith)

pub returns : goal.returns
unfolding get_note_answer
returns c =
    let note = is (goal.at.returns c).In_ok-note in
    let least : 0 < c.args.degree = omega arith in
    simp (note.0, le-leb _ _ c.if-semitones-gt24.false, le-leb _ _ least, le-leb _ _ c.if-degree-gt14.false)
    (ap Ok (c.moved.ensures ∙ ap (λ (n : Note). get_note n c.args.semitones c.args.degree) note.1))
