-- `qualities::quality::quality` meets its contract: the test says whether the number is a set.
use Rattle.answer.proofs.Kit.{ap, lt-leb, le-leb, Ok}
use Rattle.intervals.specs.Sets.{is_set}
use Rattle.qualities.specs.Qualities.{quality_answer}
use Rattle.qualities.proofs.quality.quality.Goals as goal

pub returns-then-set-gt-LAST_SET : goal.returns-then-set-gt-LAST_SET
unfolding is_set quality_answer
returns-then-set-gt-LAST_SET c = simp (lt-leb _ _ c.if-set-gt-LAST_SET.true)

pub returns : goal.returns
unfolding is_set quality_answer
returns c = simp (le-leb _ _ c.if-set-gt-LAST_SET.false) (ap Ok c.first_rule.ensures)
