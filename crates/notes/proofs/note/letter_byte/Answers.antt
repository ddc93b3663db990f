-- `notes::note::letter_byte` meets its contract: a test of the seven letters.
use Rattle.answer.proofs.Kit.{Bool, ℕ, ◌+◌, ◌%◌, eqb, eqb→eq, rules}
use Rattle.answer.specs.Words.{bytes}
use Rattle.answer.proofs.Tests.{all, at}
use Rattle.notes.specs.NoteText.{letter_name}
use Rattle.notes.proofs.note.letter_byte.Goals as goal

right : ℕ → Bool
right l = eqb ((l + 2) % 7 + 65) (letter_name l)

pub returns : goal.returns
unfolding all right letter_name bytes
returns c = (eqb→eq _ (letter_name c.args.letter) (at right 7 tt c.args.letter c.requires), search rules)
