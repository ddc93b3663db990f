-- Determinacy of the crate's public contract (`Rattle.answer.proofs.Determined` has the law).
--     check_pairs_decides      the contract of `check_pairs` allows one answer to each call
use Rattle.answer.proofs.Determined.{Decides, determined}
use Rattle.pairs.proofs.checks.check_pairs.Reads as check-pairs

pub check_pairs_decides : Decides check-pairs.Post
check_pairs_decides κs a r r' s s' = determined
