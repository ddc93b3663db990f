-- Determinacy of the crate's public contracts (`Rattle.answer.proofs.Determined` has the law).
--     F-decides      the contract of `F` allows one answer to each call
use Rattle.answer.proofs.Determined.{Decides, determined}
use Rattle.host.proofs.numbers.refused.Reads as refused
use Rattle.host.proofs.numbers.quality_number.Reads as quality-number
use Rattle.host.proofs.numbers.moved.Reads as moved
use Rattle.host.proofs.numbers.bass_from.Reads as bass-from
use Rattle.host.proofs.numbers.candidate_number.Reads as candidate-number
use Rattle.host.proofs.numbers.names_number.Reads as names-number

pub refused_decides : Decides refused.Post
refused_decides κs a r r' s s' = determined

pub quality_number_decides : Decides quality-number.Post
quality_number_decides κs a r r' s s' = determined

pub moved_decides : Decides moved.Post
moved_decides κs a r r' s s' = determined

pub bass_from_decides : Decides bass-from.Post
bass_from_decides κs a r r' s s' = determined

pub candidate_number_decides : Decides candidate-number.Post
candidate_number_decides κs a r r' s s' = determined

pub names_number_decides : Decides names-number.Post
names_number_decides κs a r r' s s' = determined
