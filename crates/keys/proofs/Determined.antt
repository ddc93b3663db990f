-- Determinacy of the crate's public contracts (`Rattle.answer.proofs.Determined` has the law).
--     F-decides      the contract of `F` allows one answer to each call
use Rattle.answer.proofs.Determined.{Decides, determined}
use Rattle.keys.proofs.bits.in_set.Reads as in-set
use Rattle.keys.proofs.bits.take_out.Reads as take_out
use Rattle.keys.proofs.nearest.distance.Reads as distance
use Rattle.keys.proofs.nearest.nothing.Reads as nothing
use Rattle.keys.proofs.nearest.nearest.Reads as nearest

pub in_set_decides : Decides in-set.Post
in_set_decides κs a r r' s s' = determined

pub take_out_decides : Decides take_out.Post
take_out_decides κs a r r' s s' = determined

pub nothing_decides : Decides nothing.Post
nothing_decides κs a r r' s s' = determined

pub nearest_decides : Decides nearest.Post
nearest_decides κs a r r' s s' = determined

pub distance_decides : Decides distance.Post
distance_decides κs a r r' s s' = determined
