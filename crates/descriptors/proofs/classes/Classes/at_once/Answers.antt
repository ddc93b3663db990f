-- `descriptors::classes::Classes::at_once` meets its contract: what it computes is told at each set.
use Rattle.answer.proofs.Kit.{rules}
use Rattle.rules.proofs.Resolved.{once_told}
use Rattle.descriptors.proofs.classes.Classes.at_once.Goals as goal

pub returns : goal.returns
returns c = once_told _ c.args.self.small
