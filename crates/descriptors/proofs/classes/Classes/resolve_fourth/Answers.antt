-- `descriptors::classes::Classes::resolve_fourth` meets its contract: the tests that led to a return say what the chain comes to.
use Rattle.answer.proofs.Kit.{rules}
use Rattle.answer.proofs.Chosen.{yes, no_then}
use Rattle.rules.proofs.Resolved.{class_6_told}
use Rattle.descriptors.proofs.classes.Classes.resolve_fourth.Goals as goal

pub returns-then-set-eq0 : goal.returns-then-set-eq0
returns-then-set-eq0 c = class_6_told _ _ c.args.self.small (search yes)

pub returns-then-set-eq-CLASS_7 : goal.returns-then-set-eq-CLASS_7
returns-then-set-eq-CLASS_7 c = class_6_told _ _ c.args.self.small (search (yes, no_then))

pub returns : goal.returns
returns c = class_6_told _ _ c.args.self.small (search no_then)
