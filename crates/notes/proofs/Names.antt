-- The text of a note, by a test of the seven letters at the thirteen heights.
use Rattle.answer.proofs.Kit.{◌≡◌, refl, subst, Bool, true, false, cond, ◌&&◌, List, ◌∷◌, ℕ, T, eqb, eqb→eq, length, ℤ, negsuc}
use Rattle.answer.specs.Words.{bytes}
use Rattle.answer.specs.Lines.{line_feeds}
use Rattle.answer.specs.Replies.{AtMost, refuse, text}
use Rattle.answer.specs.declared.refusal.Refusal.TheVariants.{BadNote}
use Rattle.answer.proofs.Digits.{is_short, are_bytes, short_length}
use Rattle.answer.proofs.Tests.{left, right, all, at}
use Rattle.notes.specs.Notes.{count_of, note_of, is_note}
use Rattle.notes.specs.NoteText.{letter_name, signs, note_name, note_reply}
use Rattle.notes.specs.private.Heights.{height_of}
use Rattle.notes.specs.declared.note.Note.{Note}
use Rattle.notes.proofs.Counts.{lowered, lowered_height}
use Rattle.notes.proofs.Moves.{letter_less, is_count_lem, height_is}

is_line_word : List ℕ → Bool
is_line_word t = is_short t && eqb (line_feeds t) 0

fine : ℕ → ℕ → Bool
fine l h = is_line_word (letter_name l ∷ signs (lowered h))

all_fine : T (all (λ l. all (fine l) 13) 7)
unfolding all fine is_line_word is_short are_bytes line_feeds letter_name signs bytes
all_fine = tt

module _ (n : Note) (note : is_note n ≡ true) where
  is_fine : T (is_line_word (note_name signs n))
  unfolding fine note_name
  is_fine =
      subst (λ (z : ℤ). T (is_line_word (letter_name n.letter ∷ signs z))) (lowered_height (count_of n.accidental) (is_count_lem n note))
      (at (fine n.letter) 13 (at (λ l. all (fine l) 13) 7 all_fine n.letter (letter_less n note)) (height_of (count_of n.accidental)) (height_is n note))

  -- a word can hold it
  pub name_short : T (is_short (note_name signs n))
  unfolding is_line_word
  name_short = left (is_short (note_name signs n)) _ is_fine

  -- and it ends no line
  pub name_line : line_feeds (note_name signs n) ≡ 0
  unfolding is_line_word
  name_line = eqb→eq (line_feeds (note_name signs n)) 0 (right (is_short (note_name signs n)) _ is_fine)

-- no note's text has more than seven bytes: the room of a call that writes it
pub note_text_room_lem : (n : Note) → AtMost 7 (note_reply signs n)
unfolding note_reply
note_text_room_lem n = by_note (is_note n) refl
  where
    by_note : (b : Bool) → is_note n ≡ b → AtMost 7 (cond b (text (note_name signs n)) (refuse BadNote))
    by_note true note = short_length _ (name_short n note)
    by_note false other = tt

-- and one has as many: C with six flats
pub note_text_reached : length (note_name signs (note_of 0 (negsuc 5))) ≡ 7
unfolding note_name signs bytes
note_text_reached = refl
