-- Determinacy of the crate's public contracts (`Rattle.answer.proofs.Determined` has the law).
--     F-decides      the contract of `F` allows one answer to each call, and one content of the range or the text that it is lent; of `put_suffix`
--                    the content up to its answer (Puts.antt, `one_put`)
use Rattle.std.proofs.Common.{Fits, w64}
use Rattle.answer.proofs.Kit.{refl, ℕ}
use Rattle.answer.proofs.Determined.{Decides, DecidesWith, both, determined}
use Rattle.inference.proofs.Puts.{one_put}
use Rattle.inference.proofs.normalize.suffix.Reads as suffix
use Rattle.inference.proofs.normalize.put_suffix.Reads as put-suffix
use Rattle.inference.proofs.normalize.push_suffix.Reads as push-suffix

pub suffix_decides : DecidesWith suffix.Post (λ κs s. s.1.0.now)
suffix_decides κs a r r' s s' = both

pub put_suffix_decides : Decides put-suffix.Post
put_suffix_decides κs a r r' s s' p q = (one_put _ _ _ r r' _ _ p q).0

module _ (n : ℕ) (small : Fits w64 n) where
  pub push_suffix_decides : DecidesWith (push-suffix.Post n small) (λ κs s. s.0.now)
  push_suffix_decides κs a r r' s s' p q = (refl, determined p q)
