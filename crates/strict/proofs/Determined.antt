-- Determinacy of the crate's public contracts (`Rattle.answer.proofs.Determined` has the law).
--     F-decides      the contract of `F` allows one answer to each call, and one content of the range that it is lent
use Rattle.answer.proofs.Determined.{Decides, DecidesWith, determined, both}
use Rattle.strict.proofs.entry.check_keys.Reads as check-keys
use Rattle.strict.proofs.entry.candidates_strict_in.Reads as candidates-strict-in
use Rattle.strict.proofs.entry.candidates_strict.Reads as candidates-strict

pub check_keys_decides : Decides check-keys.Post
check_keys_decides κs a r r' s s' = determined

pub candidates_strict_in_decides : DecidesWith candidates-strict-in.Post (λ κs s. s.1.1.0.now)
candidates_strict_in_decides κs a r r' s s' = both

pub candidates_strict_decides : DecidesWith candidates-strict.Post (λ κs s. s.1.0.now)
candidates_strict_decides κs a r r' s s' = both
