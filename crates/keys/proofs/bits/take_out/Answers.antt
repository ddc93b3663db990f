-- `keys::bits::take_out` meets its contract: a number in the set has a bit that the set is no less than.
use Rattle.answer.proofs.Kit.{sym, ◌∙◌, rules}
use Rattle.intervals.specs.Sets.{without}
use Rattle.intervals.proofs.Members.{bit_least}
use Rattle.intervals.proofs.Width.{within, bit_held}
use Rattle.keys.proofs.bits.take_out.Goals as goal

pub overflow_shl-result : goal.overflow_shl-result
overflow_shl-result c = within c.args.set c.args.number (search rules) (sym c.in_set.ensures ∙ c.if-in_set.true)

pub overflow_sub-result : goal.overflow_sub-result
overflow_sub-result c =
    let member = sym c.in_set.ensures ∙ c.if-in_set.true in
    rw (bit_held c.args.number (within c.args.set c.args.number (search rules) member)) (bit_least c.args.set c.args.number member)

pub returns-then-in_set : goal.returns-then-in_set
unfolding without
returns-then-in_set c =
    let member = sym c.in_set.ensures ∙ c.if-in_set.true in
    rw (bit_held c.args.number (within c.args.set c.args.number (search rules) member), member)

pub returns : goal.returns
unfolding without
returns c = rw (sym c.in_set.ensures ∙ c.if-in_set.false)
