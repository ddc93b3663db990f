-- What the boundary's function promises, cited so that a wrong call shows where it differs. A signed number is read back from its bits.
use Rattle.answer.proofs.Kit.{◌∙◌, rules}
use mir.Syntax.{w64}
use mir.Facts.{to_z-of_z}
use Rattle.hemotusap_c.proofs.naming.hemotusap_note_text.Goals as goal

pub returns : goal.returns
returns c =
    let told = rw (to_z-of_z c.ranges.accidental) at c.hemotusap_note_text.ensures in (to_z-of_z {w = w64} (search rules) ∙ told.0, told.1)
