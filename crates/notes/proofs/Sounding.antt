-- What a move reaches: a note on the letter that the degree says, which sounds as many semitones above.
--     spelled_is, spelled_sounds      on each letter, at each pitch, there is a note, and it sounds that pitch
--     move_is, move_letter, move_sounds     the same of the note that `get_note` gives
use Rattle.answer.proofs.Kit.{◌≡◌, refl, Bool, true, ◌&&◌, ℕ, ◌+◌, ◌%◌, ◌<◌, arith, T, eqb, eqb→eq}
use Rattle.answer.proofs.Tests.{left, right, is_true, all, at}
use Rattle.notes.specs.Notes.{is_note, semitone, letter_at, spelled, get_note}
use Rattle.notes.specs.declared.note.Note.{Note}

sound : ℕ → ℕ → Bool
sound l p = is_note (spelled l p) && eqb (semitone (spelled l p)) p

module _ (l p : ℕ) (hl : l < 7) (hp : p < 12) where
  is_sound : T (sound l p)
  unfolding all sound spelled semitone
  is_sound = at (sound l) 12 (at (λ l. all (sound l) 12) 7 tt l hl) p hp

  pub spelled_is : is_note (spelled l p) ≡ true
  unfolding sound
  spelled_is = is_true _ (left (is_note (spelled l p)) _ is_sound)

  pub spelled_sounds : semitone (spelled l p) ≡ p
  unfolding sound
  spelled_sounds = eqb→eq _ _ (right (is_note (spelled l p)) _ is_sound)

module _ (n : Note) (semitones degree : ℕ) where
  pub move_is : is_note (get_note n semitones degree) ≡ true
  unfolding get_note
  move_is = spelled_is _ _ (omega arith) (omega arith)

  pub move_letter : (get_note n semitones degree).letter ≡ letter_at n.letter degree
  unfolding get_note spelled
  move_letter = refl

  pub move_sounds : semitone (get_note n semitones degree) ≡ (semitone n + semitones) % 12
  unfolding get_note
  move_sounds = spelled_sounds _ _ (omega arith) (omega arith)
