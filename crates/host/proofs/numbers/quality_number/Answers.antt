-- `host::numbers::quality_number` meets its contract: what the library's method answers is cited, so that another number shows where it differs.
use Rattle.answer.proofs.Kit.{◌≡◌, ◌∙◌, pos, rules}
use mir.Syntax.{w64}
use mir.Facts.{to_z-of_z}
use Rattle.qualities.specs.Qualities as Qualities
use Rattle.host.specs.Numbers.{answer_number}
use Rattle.host.proofs.numbers.quality_number.Goals as goal

pub returns : goal.returns
returns c =
    let told : c.map_or_else.result ≡ answer_number (λ q. pos (Qualities.quality_number q)) c.args.answer = search rules in
    to_z-of_z {w = w64} (search rules) ∙ told
