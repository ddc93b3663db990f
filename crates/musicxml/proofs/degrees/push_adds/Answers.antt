-- `musicxml::degrees::push_adds` meets its contract: an add more at each turn.
use Rattle.answer.proofs.Kit.{refl, sym, ap, ◌∙◌, List, [], ◌∷◌, append_assoc, append-nil, map}
use Rattle.answer.specs.Words.{bytes}
use Rattle.intervals.specs.declared.interval.Interval.{Interval}
use Rattle.harmonies.specs.Xml.{written}
use Rattle.harmonies.specs.Kinds.{add_of}
use Rattle.harmonies.specs.Harmony.{degrees}
use Rattle.musicxml.proofs.Degree.{row_text, adds_snoc}
use Rattle.musicxml.proofs.Pushed.{nothing, then, named}
use Rattle.musicxml.proofs.degrees.push_adds.Goals as goal

pub loop-interval-init : goal.loop-interval-init
unfolding degrees written
loop-interval-init c = (refl, nothing _)

pub loop-interval-preserved : goal.loop-interval-preserved
unfolding bytes
loop-interval-preserved c =
    let walk = c.loop-interval.invariant in (
      append_assoc c.loop-interval.yielded (c.in-Some.interval ∷ []) c.next.new.self ∙ rw c.in-Some.ensures.steps at walk.0,
      named (sym (adds_snoc c.loop-interval.yielded c.in-Some.interval)) (then walk.1 (named (row_text c.in-Some.interval c.add_row-row.result c.add_row-row.ensures) c.push_degree.ensures)),
    )

pub returns : goal.returns
returns c =
    let walk = c.loop-interval.invariant in
    let all = sym (append-nil c.loop-interval.yielded) ∙ rw c.in-None.ensures.steps.0 at walk.0 ∙ c.into_iter-interval-iterator.ensures.into_iter_gives ∙ c.of-interval-items.ensures in
    named (ap (λ (found : List Interval). written (degrees (map add_of found))) all) walk.1
