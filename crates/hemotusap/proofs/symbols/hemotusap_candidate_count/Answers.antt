-- `hemotusap::symbols::hemotusap_candidate_count` meets its contract.
use Rattle.answer.proofs.Kit.{ap, ◌∙◌, pos, rules}
use mir.Syntax.{w64}
use mir.Facts.{to_z-of_z}
use Rattle.hemotusap.proofs.symbols.hemotusap_candidate_count.Goals as goal

pub returns : goal.returns
returns c = to_z-of_z {w = w64} (search rules) ∙ c.from.ensures ∙ ap pos c.candidate_count.ensures
