-- `descriptors::classes::Classes::resolve_augmented_fifth` meets its contract: the tests that led to a return say what the chain comes to.
use Rattle.answer.proofs.Kit.{rules}
use Rattle.answer.proofs.Chosen.{yes, no_then}
use Rattle.rules.proofs.Resolved.{class_8_told}
use Rattle.descriptors.proofs.classes.Classes.resolve_augmented_fifth.Goals as goal

pub returns-then-set-eq0 : goal.returns-then-set-eq0
returns-then-set-eq0 c = class_8_told _ _ c.args.self.small (search yes)

pub returns-then-set-eq-CLASS_4 : goal.returns-then-set-eq-CLASS_4
returns-then-set-eq-CLASS_4 c = class_8_told _ _ c.args.self.small (search (yes, no_then))

pub returns-then-set-eq0-2 : goal.returns-then-set-eq0-2
returns-then-set-eq0-2 c = class_8_told _ _ c.args.self.small (search (yes, no_then))

pub returns : goal.returns
returns c = class_8_told _ _ c.args.self.small (search no_then)
