-- `hemotusap::naming::hemotusap_note_text` meets its contract.
use Rattle.answer.proofs.Kit.{◌≡◌, ap, ◌∙◌, arith, rules}
use mir.Syntax.{w64}
use mir.Facts.{to_z-of_z}
use Rattle.notes.specs.Notes.{note_of}
use Rattle.hemotusap.proofs.Told.{output_fits, told}
use Rattle.hemotusap.proofs.naming.hemotusap_note_text.Goals as goal
use Rattle.hemotusap.proofs.naming.hemotusap_note_text.Goals.{After-new}

note : (c : After-new) → c.new.result ≡ note_of c.args.letter c.args.accidental
note c = c.new.ensures ∙ ap (note_of c.args.letter) (to_z-of_z c.ranges.accidental)

pub written-requires : goal.written-requires
written-requires c = output_fits _ _ c.text.ensures (omega arith)

pub returns : goal.returns
returns c = let made = rw (note (goal.at.returns c).After-new) at c.text.ensures in
    told _ _ made (to_z-of_z {w = w64} (search rules) ∙ c.written.ensures)
