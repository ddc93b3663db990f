-- `hemotusap::symbols::hemotusap_candidates` meets its contract.
use Rattle.answer.proofs.Kit.{◌∙◌, arith, rules}
use mir.Syntax.{w64}
use mir.Facts.{to_z-of_z}
use Rattle.hemotusap.proofs.Told.{output_fits, told}
use Rattle.hemotusap.proofs.symbols.hemotusap_candidates.Goals as goal

pub written-requires : goal.written-requires
written-requires c = output_fits _ _ c.candidates.ensures (omega arith)

pub returns : goal.returns
returns c = told _ _ c.candidates.ensures (to_z-of_z {w = w64} (search rules) ∙ c.written.ensures)
