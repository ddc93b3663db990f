-- Determinacy of the crate's public contracts (`Rattle.answer.proofs.Determined` has the law).
--     F-decides      the contract of `F` allows one answer to each call
use Rattle.answer.proofs.Determined.{Decides, determined}
use Rattle.qualities.proofs.quality.quality.Reads as quality
use Rattle.qualities.proofs.quality.ChordQuality.number.Reads as quality-number
use Rattle.qualities.proofs.quality.ChordQuality.self_mask.Reads as self-mask
use Rattle.qualities.proofs.quality.ChordQuality.alteration_mask.Reads as alteration-mask
use Rattle.qualities.proofs.quality.ChordQuality.extension_mask.Reads as extension-mask
use Rattle.qualities.proofs.quality.ChordQuality.extension_stack.Reads as extension-stack

pub quality_decides : Decides quality.Post
quality_decides κs a r r' s s' = determined

pub quality_number_decides : Decides quality-number.Post
quality_number_decides κs a r r' s s' = determined

pub self_mask_decides : Decides self-mask.Post
self_mask_decides κs a r r' s s' = determined

pub alteration_mask_decides : Decides alteration-mask.Post
alteration_mask_decides κs a r r' s s' = determined

pub extension_mask_decides : Decides extension-mask.Post
extension_mask_decides κs a r r' s s' = determined

pub extension_stack_decides : Decides extension-stack.Post
extension_stack_decides κs a r r' s s' = determined
