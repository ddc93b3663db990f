-- `hemotusap::voices::hemotusap_voicing_within` meets its contract.
use Rattle.answer.proofs.Kit.{◌∙◌, arith, rules}
use mir.Syntax.{w64}
use mir.Facts.{to_z-of_z}
use Rattle.hemotusap.proofs.Told.{output_fits, told}
use Rattle.hemotusap.proofs.voices.hemotusap_voicing_within.Goals as goal

pub written-requires : goal.written-requires
written-requires c = output_fits _ _ c.voicing.ensures (omega arith)

pub returns : goal.returns
returns c = let made = rw (c.bass_from.ensures, c.lead_from.ensures) at c.voicing.ensures in
    told _ _ made (to_z-of_z {w = w64} (search rules) ∙ c.written.ensures)
