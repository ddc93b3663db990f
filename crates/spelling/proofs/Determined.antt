-- Determinacy of the crate's public contract (`Rattle.answer.proofs.Determined` has the law).
--     tones_decides      the contract of `tones` allows one answer to each call, and one content of the range that it is lent
use Rattle.answer.proofs.Determined.{DecidesWith, both}
use Rattle.spelling.proofs.tones.tones.Reads as tones

pub tones_decides : DecidesWith tones.Post (λ κs s. s.1.1.0.now)
tones_decides κs a r r' s s' = both
