-- Determinacy of the crate's public contracts (`Rattle.answer.proofs.Determined` has the law).
--     F-decides         the contract of `F` allows one answer to each call
--     tones_decides     that of `tones` allows one list of tones to be shown, at one place
--     remove_decides    that of `remove` allows one pool to be left, with one tone at each of its places
use Rattle.answer.proofs.Determined.{Decides, DecidesWith, DecidesShown, determined}
use Rattle.answer.proofs.Kit.{refl}
use Rattle.pool.proofs.pool.Pairs.used.Reads as used
use Rattle.pool.proofs.pool.Pool.tones.Reads as tones
use Rattle.pool.proofs.pool.Pool.remove.Reads as remove
use Rattle.pool.proofs.pool.ordered_pool.Reads as ordered-pool

pub used_decides : Decides used.Post
used_decides κs a r r' s s' = determined

pub tones_decides : DecidesShown tones.Post
tones_decides κs a r r' s s' p q = (determined p.1.1 q.1.1, determined p.0 q.0)

pub remove_decides : DecidesWith remove.Post (λ κs s. s.0.now)
remove_decides κs a r r' s s' p q = (refl, determined p q)

pub ordered_pool_decides : Decides ordered-pool.Post
ordered_pool_decides κs a r r' s s' = determined
