-- `hemotusap::naming::hemotusap_quality` meets its contract.
use Rattle.answer.proofs.Kit.{ap, ◌∙◌, rules}
use mir.Syntax.{w64}
use mir.Facts.{to_z-of_z}
use Rattle.host.specs.Numbers.{quality_number}
use Rattle.hemotusap.proofs.naming.hemotusap_quality.Goals as goal

pub returns : goal.returns
returns c = to_z-of_z {w = w64} (search rules) ∙ c.quality_number.ensures ∙ ap quality_number c.quality.ensures
