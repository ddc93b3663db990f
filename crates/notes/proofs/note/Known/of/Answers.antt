-- `notes::note::Known::of` meets its contract.
use Rattle.answer.proofs.Kit.{◌≡◌, refl, true, false, rules}
use Rattle.notes.specs.Notes.{is_note}
use Rattle.notes.specs.private.Known.{known_answer}
use Rattle.notes.proofs.note.Known.of.Goals as goal

pub returns-then-not-is_note : goal.returns-then-not-is_note
unfolding known_answer
returns-then-not-is_note c = let no : is_note c.args.note ≡ false = search rules in rw no refl

pub returns : goal.returns
unfolding known_answer
returns c = let yes : is_note c.args.note ≡ true = search rules in rw yes refl
