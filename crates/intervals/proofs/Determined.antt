-- Determinacy of the crate's public contracts (`Rattle.answer.proofs.Determined` has the law).
--     F-decides      the contract of `F` allows one answer to each call
use Rattle.answer.proofs.Determined.{Decides, determined}
use Rattle.intervals.proofs.interval.Interval.from_number.Reads as from-number
use Rattle.intervals.proofs.interval.Interval.number.Reads as number
use Rattle.intervals.proofs.interval.Interval.st.Reads as st
use Rattle.intervals.proofs.interval.Interval.degree.Reads as degree
use Rattle.intervals.proofs.interval.Interval.to_degree.Reads as to-degree
use Rattle.intervals.proofs.interval.Interval.to_chord_notation.Reads as to-chord-notation
use Rattle.intervals.proofs.interval.IntDegree.numeric.Reads as numeric
use Rattle.intervals.proofs.set.is_rooted.Reads as is_rooted_lem
use Rattle.intervals.proofs.set.Rooted.new.Reads as new
use Rattle.intervals.proofs.set.Rooted.set.Reads as set
use Rattle.intervals.proofs.bass.is_bass.Reads as is_bass_lem

pub from_number_decides : Decides from-number.Post
from_number_decides κs a r r' s s' = determined

pub number_decides : Decides number.Post
number_decides κs a r r' s s' = determined

pub st_decides : Decides st.Post
st_decides κs a r r' s s' = determined

pub degree_decides : Decides degree.Post
degree_decides κs a r r' s s' = determined

pub to_degree_decides : Decides to-degree.Post
to_degree_decides κs a r r' s s' = determined

pub to_chord_notation_decides : Decides to-chord-notation.Post
to_chord_notation_decides κs a r r' s s' = determined

pub numeric_decides : Decides numeric.Post
numeric_decides κs a r r' s s' = determined

pub is_rooted_decides : Decides is_rooted_lem.Post
is_rooted_decides κs a r r' s s' = determined

pub new_decides : Decides new.Post
new_decides κs a r r' s s' = determined

pub set_decides : Decides set.Post
set_decides κs a r r' s s' p q = determined p.0 q.0

pub is_bass_decides : Decides is_bass_lem.Post
is_bass_decides κs a r r' s s' = determined
