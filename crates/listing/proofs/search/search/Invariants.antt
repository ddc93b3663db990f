-- `listing::search::search` meets its contract. The loop's invariant: what is found, with what the sets from `set` on give, is the listing.
use Rattle.answer.proofs.Kit.{◌≡◌, ◌++◌, ◌%◌, ◌-◌, ◌≤◌}
use Rattle.listing.specs.Listing.{listing_of}
use Rattle.listing.proofs.Found.{left_of}
use Rattle.listing.proofs.search.search.Given as goal

abbrev pub invariant-loop-set : goal.invariant-loop-set
invariant-loop-set l = record { found : l.found ++ left_of l.name l.set ≡ listing_of l.name; odd : l.set % 2 ≡ 1; within : l.set ≤ 4097 }

abbrev pub decreases-loop-set : goal.decreases-loop-set
decreases-loop-set l = 4097 - l.set
