-- `keys::bits::in_set` meets its contract: a number past 31 is in no set of 32 bits.
use Rattle.answer.proofs.Kit.{sym, rules}
use Rattle.intervals.specs.Sets.{has}
use Rattle.intervals.proofs.Width.{past}
use Rattle.keys.proofs.bits.in_set.Goals as goal

pub returns-then-number-gt31 : goal.returns-then-number-gt31
returns-then-number-gt31 c = sym (past _ _ (search rules) c.if-number-gt31.true)

pub returns : goal.returns
unfolding has
returns c = search rules
