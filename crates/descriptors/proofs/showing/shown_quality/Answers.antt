-- `descriptors::showing::shown_quality` meets its contract: a set with a third put in has a quality.
use Rattle.answer.proofs.Kit.{◌≡◌, refl, ◌∙◌, Ok, rules}
use Rattle.qualities.specs.Qualities.{quality_of}
use Rattle.descriptors.proofs.Shown.{has_quality, shown}
use Rattle.descriptors.proofs.showing.shown_quality.Goals as goal

pub unwrap-requires : goal.unwrap-requires
unwrap-requires c = rw (c.quality.ensures ∙ has_quality c.with_third.result c.with_third.ensures.1) refl

pub returns : goal.returns
returns c = shown _ _ _ c.quality.ensures c.with_third.ensures _ (search rules)
