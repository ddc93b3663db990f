-- Determinacy of the crate's public contracts (`Rattle.answer.proofs.Determined` has the law).
use Rattle.answer.proofs.Determined.{Decides, determined}
use Rattle.names.proofs.table.class_name.Reads as class-name
use Rattle.names.proofs.table.class_note.Reads as class-note

-- the contract of `class_name` allows one answer to each call
pub class_name_decides : Decides class-name.Post
class_name_decides κs a r r' s s' = determined

-- and so does that of `class_note`
pub class_note_decides : Decides class-note.Post
class_note_decides κs a r r' s s' = determined
