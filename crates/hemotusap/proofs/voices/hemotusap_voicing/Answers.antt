-- `hemotusap::voices::hemotusap_voicing` meets its contract: it names the range.
use Rattle.answer.proofs.Kit.{◌∙◌, rules}
use mir.Syntax.{w64}
use mir.Facts.{to_z-of_z}
use Rattle.hemotusap.proofs.voices.hemotusap_voicing.Goals as goal

pub returns : goal.returns
returns c = let within = c.hemotusap_voicing_within in (to_z-of_z {w = w64} (search rules) ∙ within.ensures.0, within.ensures.1)
