-- Determinacy of the crate's public contract (`Rattle.answer.proofs.Determined` has the law).
--     harmony_decides      the contract of `harmony` allows one answer to each call, and one content of the range that it is lent
use Rattle.answer.proofs.Determined.{DecidesWith, both}
use Rattle.musicxml.proofs.harmony.harmony.Reads as harmony

pub harmony_decides : DecidesWith harmony.Post (λ κs s. s.1.1.1.0.now)
harmony_decides κs a r r' s s' = both
