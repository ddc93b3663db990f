-- `voicings::guides::Present::guide_once` meets its contract: by what the pool holds.
use Rattle.intervals.specs.Intervals.{set_of}
use Rattle.voicings.proofs.guides.Present.guide_once.Goals as goal

pub returns-in-false-default : goal.returns-in-false-default
unfolding set_of
returns-in-false-default c = rw c.in-false-default.is-0

pub returns-in-true-true : goal.returns-in-true-true
unfolding set_of
returns-in-true-true c = rw (c.in-true-true.is-0, c.in-true-true.is-1)

pub returns-in-true-false : goal.returns-in-true-false
unfolding set_of
returns-in-true-false c = rw (c.in-true-false.is-0, c.in-true-false.is-1)
