-- `hemotusap::symbols::hemotusap_candidate` meets its contract.
use Rattle.answer.proofs.Kit.{ap, ◌∙◌, rules}
use mir.Syntax.{w64}
use mir.Facts.{to_z-of_z}
use Rattle.host.specs.Numbers.{candidate_number}
use Rattle.hemotusap.proofs.symbols.hemotusap_candidate.Goals as goal

pub returns : goal.returns
returns c = to_z-of_z {w = w64} (search rules) ∙ c.candidate_number.ensures ∙ ap candidate_number c.candidate.ensures
