-- `musicxml::degrees::push_subtract` meets its contract: by whether the class sounds.
use Rattle.answer.specs.Words.{bytes}
use Rattle.musicxml.proofs.Degree.{sounding, missed}
use Rattle.musicxml.proofs.Pushed.{nothing, named}
use Rattle.musicxml.proofs.degrees.push_subtract.Goals as goal

pub returns-then-set-class-eq0 : goal.returns-then-set-class-eq0
unfolding bytes
returns-then-set-class-eq0 c = named (missed _ _ _ c.if-set-class-eq0.true) c.push_degree.ensures

pub returns-else-set-class-eq0 : goal.returns-else-set-class-eq0
returns-else-set-class-eq0 c = named (sounding _ _ _ c.if-set-class-eq0.false) (nothing _)
