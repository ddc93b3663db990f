-- `inference::normalize::push_part` meets its contract: two words in a row.
use Rattle.inference.proofs.Texts.{before_short, notation_short}
use Rattle.inference.proofs.Added.{word_added, then_adds}
use Rattle.inference.proofs.normalize.push_part.Goals as goal

pub returns : goal.returns
returns g c =
    then_adds _ _ _ _ _ _
    (word_added _ _ _ _ _ record { short = before_short c.args.first c.args.prefix; is = c.before_part.ensures } c.push.ensures)
    (word_added _ _ _ _ _ record { short = notation_short c.args.interval; is = c.to_chord_notation.ensures } c.push-2.ensures)
