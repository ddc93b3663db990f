-- `hemotusap::symbols::hemotusap_candidate_line` meets its contract.
use Rattle.answer.proofs.Kit.{◌≡◌, ap, ◌∙◌, pos, rules}
use mir.Syntax.{w64}
use mir.Facts.{to_z-of_z}
use Rattle.signatures.specs.declared.line.Part.{Part}
use Rattle.signatures.specs.Part.{part_of}
use Rattle.host.specs.Numbers.{names_number}
use Rattle.hemotusap.proofs.symbols.hemotusap_candidate_line.Goals as goal

pub returns : goal.returns
returns c = let told : c.line_part-part.result ≡ part_of c.args.flat.now c.args.sharp.now c.args.number c.args.fifths = rw (to_z-of_z c.ranges.fifths) at c.line_part-part.ensures in
    (to_z-of_z {w = w64} (search rules) ∙ c.names_number.ensures ∙ ap (λ (p : Part). pos (names_number p.names)) told, ap (λ (p : Part). p.start) told, ap (λ (p : Part). p.length) told)
