-- Determinacy of the crate's public contract (`Rattle.answer.proofs.Determined` has the law).
--     listing_decides   the contract of `listing` allows one answer to each call, and one content of the range that it is lent
use Rattle.answer.proofs.Determined.{DecidesWith, both}
use Rattle.listing.proofs.search.listing.Reads as listing

pub listing_decides : DecidesWith listing.Post (λ κs s. s.1.0.now)
listing_decides κs a r r' s s' = both
