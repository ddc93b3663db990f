-- `musicxml::kinds::Kind::of` meets its contract: each arm has its kind's name, classes and set.
use Rattle.answer.proofs.Kit.{refl, inl, inr}
use Rattle.answer.specs.Words.{bytes}
use Rattle.intervals.specs.Sets.{is_in}
use Rattle.intervals.specs.Intervals.{intervals, set_of}
use Rattle.rules.specs.Classes.{keep}
use Rattle.harmonies.specs.Kinds.{outside}
use Rattle.musicxml.proofs.kinds.Kind.of.Goals as goal

pub returns-in-Maj : goal.returns-in-Maj
unfolding bytes is_in intervals set_of keep outside
returns-in-Maj c = elim c.in-Maj.is [
  | inl e ↦ rw e record { name = refl; third = refl; on_third = refl; fifth = refl; on_fifth = refl; outside = refl }
  | inr more ↦ elim more [
    | inl e ↦ rw e record { name = refl; third = refl; on_third = refl; fifth = refl; on_fifth = refl; outside = refl }
    | inr e ↦ rw e record { name = refl; third = refl; on_third = refl; fifth = refl; on_fifth = refl; outside = refl }
  ]
]

pub returns-in-Maj6 : goal.returns-in-Maj6
unfolding bytes is_in intervals set_of keep outside
returns-in-Maj6 c = rw c.in-Maj6.is record { name = refl; third = refl; on_third = refl; fifth = refl; on_fifth = refl; outside = refl }

pub returns-in-Maj7 : goal.returns-in-Maj7
unfolding bytes is_in intervals set_of keep outside
returns-in-Maj7 c = rw c.in-Maj7.is record { name = refl; third = refl; on_third = refl; fifth = refl; on_fifth = refl; outside = refl }

pub returns-in-Dominant7 : goal.returns-in-Dominant7
unfolding bytes is_in intervals set_of keep outside
returns-in-Dominant7 c = rw c.in-Dominant7.is record { name = refl; third = refl; on_third = refl; fifth = refl; on_fifth = refl; outside = refl }

pub returns-in-Mi : goal.returns-in-Mi
unfolding bytes is_in intervals set_of keep outside
returns-in-Mi c = rw c.in-Mi.is record { name = refl; third = refl; on_third = refl; fifth = refl; on_fifth = refl; outside = refl }

pub returns-in-Mi6 : goal.returns-in-Mi6
unfolding bytes is_in intervals set_of keep outside
returns-in-Mi6 c = rw c.in-Mi6.is record { name = refl; third = refl; on_third = refl; fifth = refl; on_fifth = refl; outside = refl }

pub returns-in-Mi7 : goal.returns-in-Mi7
unfolding bytes is_in intervals set_of keep outside
returns-in-Mi7 c = rw c.in-Mi7.is record { name = refl; third = refl; on_third = refl; fifth = refl; on_fifth = refl; outside = refl }

pub returns-in-MiMaj7 : goal.returns-in-MiMaj7
unfolding bytes is_in intervals set_of keep outside
returns-in-MiMaj7 c = rw c.in-MiMaj7.is record { name = refl; third = refl; on_third = refl; fifth = refl; on_fifth = refl; outside = refl }

pub returns-in-Augmented : goal.returns-in-Augmented
unfolding bytes is_in intervals set_of keep outside
returns-in-Augmented c = rw c.in-Augmented.is record { name = refl; third = refl; on_third = refl; fifth = refl; on_fifth = refl; outside = refl }

pub returns-in-Diminished : goal.returns-in-Diminished
unfolding bytes is_in intervals set_of keep outside
returns-in-Diminished c = rw c.in-Diminished.is record { name = refl; third = refl; on_third = refl; fifth = refl; on_fifth = refl; outside = refl }

pub returns-in-Diminished7 : goal.returns-in-Diminished7
unfolding bytes is_in intervals set_of keep outside
returns-in-Diminished7 c = rw c.in-Diminished7.is record { name = refl; third = refl; on_third = refl; fifth = refl; on_fifth = refl; outside = refl }
