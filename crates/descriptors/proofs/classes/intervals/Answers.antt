-- `descriptors::classes::intervals` meets its contract: the steps together are told at each set.
use Rattle.answer.proofs.Kit.{arith}
use Rattle.rules.proofs.Resolved.{all_told}
use Rattle.descriptors.proofs.classes.intervals.Goals as goal

pub returns : goal.returns
returns c = rw (c.at_once.ensures, c.resolve_third.ensures, c.resolve_fourth.ensures, c.resolve_sixth.ensures, c.resolve_augmented_fifth.ensures) (all_told _ (omega arith))
