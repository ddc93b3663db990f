-- Determinacy of the crate's public contracts (`Rattle.answer.proofs.Determined` has the law).
--     F-decides      the contract of `F` allows one answer to each call
use Rattle.answer.proofs.Kit.{◌≡◌, List, [], ◌∷◌, Option, Some, None}
use Rattle.answer.proofs.Determined.{Decides, DecidesWith, determined}
use Rattle.std.specs.Iterator.{YieldsFirst}
use Rattle.intervals.specs.declared.interval.Interval.{Interval}
use Rattle.descriptors.proofs.classes.intervals.Reads as intervals
use Rattle.descriptors.proofs.kinds.kind_of.Reads as kind-of
use Rattle.descriptors.proofs.descriptor.describe.Reads as describe
use Rattle.descriptors.proofs.showing.shown.Reads as shown
use Rattle.descriptors.proofs.members.Members.of.Reads as of
use Rattle.descriptors.proofs.members.MembersIterator.next.Reads as next

pub intervals_decides : Decides intervals.Post
intervals_decides κs a r r' s s' = determined

pub kind_of_decides : Decides kind-of.Post
kind_of_decides κs a r r' s s' = determined

pub describe_decides : Decides describe.Post
describe_decides κs a r r' s s' = determined

pub shown_decides : Decides shown.Post
shown_decides κs a r r' s s' = determined

pub of_decides : Decides of.Post
of_decides κs a r r' s s' = determined

-- a list has one first
one_first : (r r' : Option Interval) (s t t' : List Interval) → YieldsFirst (λ m. m) s r t → YieldsFirst (λ m. m) s r' t' → (r ≡ r') × (t ≡ t')
one_first None None s t t' p q = (cc, cc)
one_first None (Some y) s t t' p q = (cc, cc)
one_first (Some x) None s t t' p q = (cc, cc)
one_first (Some x) (Some y) s t t' p q = (cc, cc)

pub next_decides : DecidesWith next.Post (λ κs s. s.0.now)
next_decides κs a r r' s s' p q = one_first r r' _ _ _ p.0 q.0
