-- Determinacy of the crate's public contract (`Rattle.answer.proofs.Determined` has the law).
--     voicing_decides      the contract of `voicing` allows one answer to each call, and one content of the range that it is lent
use Rattle.answer.proofs.Determined.{DecidesWith, both}
use Rattle.voicings.proofs.voicing.voicing.Reads as voicing

pub voicing_decides : DecidesWith voicing.Post (λ κs s. s.1.1.0.now)
voicing_decides κs a r r' s s' = both
