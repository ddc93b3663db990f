-- `musicxml::degrees::push_adds` meets its contract: the adds of the intervals so far.
use Rattle.answer.proofs.Kit.{◌≡◌, ◌++◌, map}
use Rattle.harmonies.specs.Xml.{written}
use Rattle.harmonies.specs.Kinds.{add_of}
use Rattle.harmonies.specs.Harmony.{degrees}
use Rattle.musicxml.specs.private.Texts.{Adds}
use Rattle.musicxml.proofs.degrees.push_adds.Given as goal

abbrev pub invariant-loop-interval : goal.invariant-loop-interval
invariant-loop-interval l = (l.yielded ++ l.interval-iterator ≡ l.initial.interval-iterator) × Adds l.initial.element (written (degrees (map add_of l.yielded))) l.element
