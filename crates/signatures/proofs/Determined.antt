-- Determinacy of the crate's public contracts (`Rattle.answer.proofs.Determined` has the law).
use Rattle.answer.proofs.Determined.{Decides, DecidesShown, determined}
use Rattle.signatures.proofs.line.Listings.line_part.Reads as line-part
use Rattle.signatures.proofs.line.Listings.line.Reads as line

pub line_part_decides : Decides line-part.Post
line_part_decides κs a r r' s s' = determined

-- `line` hands back a reference
pub line_decides : DecidesShown line.Post
line_decides κs a r r' s s' p q = (determined p.place q.place, determined p.bytes q.bytes)
