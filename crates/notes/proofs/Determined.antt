-- Determinacy of the crate's public contracts (`Rattle.answer.proofs.Determined` has the law).
--     F-decides      the contract of `F` allows one answer to each call, and one content of the range that it is lent
use Rattle.answer.proofs.Determined.{Decides, DecidesWith, determined, both}
use Rattle.notes.proofs.note.Note.new.Reads as new
use Rattle.notes.proofs.note.Note.to_semitone.Reads as to-semitone
use Rattle.notes.proofs.note.Note.get_note.Reads as get-note
use Rattle.notes.proofs.note.Note.transpose.Reads as transpose
use Rattle.notes.proofs.note.Note.to_word.Reads as to_word
use Rattle.notes.proofs.note.Note.text.Reads as text

pub new_decides : Decides new.Post
new_decides κs a r r' s s' = determined

pub to_semitone_decides : Decides to-semitone.Post
to_semitone_decides κs a r r' s s' = determined

pub get_note_decides : Decides get-note.Post
get_note_decides κs a r r' s s' = determined

pub transpose_decides : Decides transpose.Post
transpose_decides κs a r r' s s' = determined

pub to_word_decides : Decides to_word.Post
to_word_decides κs a r r' s s' = determined

pub text_decides : DecidesWith text.Post (λ κs s. s.1.0.now)
text_decides κs a r r' s s' = both
