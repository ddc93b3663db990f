-- `hemotusap::scores::hemotusap_harmony` meets its contract.
use Rattle.answer.proofs.Kit.{◌∙◌, arith, rules}
use mir.Syntax.{w64}
use mir.Facts.{to_z-of_z}
use Rattle.hemotusap.proofs.Told.{output_fits, told}
use Rattle.hemotusap.proofs.scores.hemotusap_harmony.Goals as goal

pub written-requires : goal.written-requires
written-requires c = output_fits _ _ c.harmony.ensures (omega arith)

pub returns : goal.returns
returns c = let made = rw c.bass_from.ensures at c.harmony.ensures in
    told _ _ made (to_z-of_z {w = w64} (search rules) ∙ c.written.ensures)
