-- `musicxml::degrees::add_row` meets its contract: each arm has the texts of its degree.
use Rattle.answer.proofs.Kit.{refl}
use Rattle.answer.specs.Words.{bytes}
use Rattle.harmonies.specs.Harmony.{decimal, integer}
use Rattle.musicxml.proofs.degrees.add_row.Goals as goal

pub returns-in-Unison : goal.returns-in-Unison
unfolding bytes decimal integer
returns-in-Unison c = rw c.in-Unison.is record { value = refl; alter = refl }

pub returns-in-MinorSecond : goal.returns-in-MinorSecond
unfolding bytes decimal integer
returns-in-MinorSecond c = rw c.in-MinorSecond.is record { value = refl; alter = refl }

pub returns-in-MajorSecond : goal.returns-in-MajorSecond
unfolding bytes decimal integer
returns-in-MajorSecond c = rw c.in-MajorSecond.is record { value = refl; alter = refl }

pub returns-in-MinorThird : goal.returns-in-MinorThird
unfolding bytes decimal integer
returns-in-MinorThird c = rw c.in-MinorThird.is record { value = refl; alter = refl }

pub returns-in-MajorThird : goal.returns-in-MajorThird
unfolding bytes decimal integer
returns-in-MajorThird c = rw c.in-MajorThird.is record { value = refl; alter = refl }

pub returns-in-PerfectFourth : goal.returns-in-PerfectFourth
unfolding bytes decimal integer
returns-in-PerfectFourth c = rw c.in-PerfectFourth.is record { value = refl; alter = refl }

pub returns-in-AugmentedFourth : goal.returns-in-AugmentedFourth
unfolding bytes decimal integer
returns-in-AugmentedFourth c = rw c.in-AugmentedFourth.is record { value = refl; alter = refl }

pub returns-in-DiminishedFifth : goal.returns-in-DiminishedFifth
unfolding bytes decimal integer
returns-in-DiminishedFifth c = rw c.in-DiminishedFifth.is record { value = refl; alter = refl }

pub returns-in-PerfectFifth : goal.returns-in-PerfectFifth
unfolding bytes decimal integer
returns-in-PerfectFifth c = rw c.in-PerfectFifth.is record { value = refl; alter = refl }

pub returns-in-AugmentedFifth : goal.returns-in-AugmentedFifth
unfolding bytes decimal integer
returns-in-AugmentedFifth c = rw c.in-AugmentedFifth.is record { value = refl; alter = refl }

pub returns-in-MinorSixth : goal.returns-in-MinorSixth
unfolding bytes decimal integer
returns-in-MinorSixth c = rw c.in-MinorSixth.is record { value = refl; alter = refl }

pub returns-in-MajorSixth : goal.returns-in-MajorSixth
unfolding bytes decimal integer
returns-in-MajorSixth c = rw c.in-MajorSixth.is record { value = refl; alter = refl }

pub returns-in-DiminishedSeventh : goal.returns-in-DiminishedSeventh
unfolding bytes decimal integer
returns-in-DiminishedSeventh c = rw c.in-DiminishedSeventh.is record { value = refl; alter = refl }

pub returns-in-MinorSeventh : goal.returns-in-MinorSeventh
unfolding bytes decimal integer
returns-in-MinorSeventh c = rw c.in-MinorSeventh.is record { value = refl; alter = refl }

pub returns-in-MajorSeventh : goal.returns-in-MajorSeventh
unfolding bytes decimal integer
returns-in-MajorSeventh c = rw c.in-MajorSeventh.is record { value = refl; alter = refl }

pub returns-in-Octave : goal.returns-in-Octave
unfolding bytes decimal integer
returns-in-Octave c = rw c.in-Octave.is record { value = refl; alter = refl }

pub returns-in-FlatNinth : goal.returns-in-FlatNinth
unfolding bytes decimal integer
returns-in-FlatNinth c = rw c.in-FlatNinth.is record { value = refl; alter = refl }

pub returns-in-Ninth : goal.returns-in-Ninth
unfolding bytes decimal integer
returns-in-Ninth c = rw c.in-Ninth.is record { value = refl; alter = refl }

pub returns-in-SharpNinth : goal.returns-in-SharpNinth
unfolding bytes decimal integer
returns-in-SharpNinth c = rw c.in-SharpNinth.is record { value = refl; alter = refl }

pub returns-in-Eleventh : goal.returns-in-Eleventh
unfolding bytes decimal integer
returns-in-Eleventh c = rw c.in-Eleventh.is record { value = refl; alter = refl }

pub returns-in-SharpEleventh : goal.returns-in-SharpEleventh
unfolding bytes decimal integer
returns-in-SharpEleventh c = rw c.in-SharpEleventh.is record { value = refl; alter = refl }

pub returns-in-FlatThirteenth : goal.returns-in-FlatThirteenth
unfolding bytes decimal integer
returns-in-FlatThirteenth c = rw c.in-FlatThirteenth.is record { value = refl; alter = refl }

pub returns-in-Thirteenth : goal.returns-in-Thirteenth
unfolding bytes decimal integer
returns-in-Thirteenth c = rw c.in-Thirteenth.is record { value = refl; alter = refl }
