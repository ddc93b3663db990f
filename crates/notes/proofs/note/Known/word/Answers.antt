-- `notes::note::Known::word` meets its contract: the letter's byte, and the signs of its height behind it.
use Rattle.answer.proofs.Kit.{ap, ap₂, sym, ◌∙◌, ◌∷◌, ◌+◌, ℤ}
use Rattle.answer.specs.Words.{packed}
use Rattle.answer.proofs.Digits.{packed_cons}
use Rattle.notes.specs.Notes.{count_of}
use Rattle.notes.specs.NoteText.{letter_name, signs, note_name}
use Rattle.notes.specs.private.Heights.{behind_letter}
use Rattle.notes.specs.declared.note.Note.{Note}
use Rattle.notes.proofs.Counts.{lowered, lowered_height}
use Rattle.notes.proofs.Moves.{is_count_lem, height_is}
use Rattle.notes.proofs.note.Known.word.Goals as goal

pub behind_letter-requires : goal.behind_letter-requires
behind_letter-requires c = rw c.height.ensures (height_is c.self.inside.note c.self.invariant)

pub returns : goal.returns
unfolding note_name behind_letter
returns c =
    let a = c.self.inside.note in
    let height = ap lowered c.height.ensures ∙ lowered_height (count_of a.accidental) (is_count_lem a c.self.invariant) in
    ap₂ ◌+◌ c.letter_byte.ensures.0 (c.behind_letter.ensures.0 ∙ ap (λ (z : ℤ). packed (0 ∷ signs z)) height)
    ∙ sym (packed_cons (letter_name a.letter) (signs (count_of a.accidental)))
    ∙ ap (λ (n : Note). packed (letter_name n.letter ∷ signs (count_of n.accidental))) c.self.view_is
