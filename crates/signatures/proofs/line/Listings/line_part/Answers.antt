-- `signatures::line::Listings::line_part` meets its contract: what is found, or the empty part.
use Rattle.answer.proofs.Kit.{ap, ◌∙◌, length, Option}
use mir.Facts.{to_z-of_z}
use Rattle.std.specs.Prelude.{unwrap_or}
use Rattle.signatures.specs.declared.line.Part.{Part}
use Rattle.signatures.specs.Part.{no_line, part_of}
use Rattle.signatures.proofs.line.Listings.line_part.Goals as goal

pub returns : goal.returns
unfolding part_of
returns c = c.unwrap_or.ensures ∙ ap (λ (found : Option Part). unwrap_or found (no_line (length c.args.self.flat.now))) (rw (to_z-of_z c.ranges.fifths) at c.found.ensures)
