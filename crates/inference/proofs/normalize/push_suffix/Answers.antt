-- `inference::normalize::push_suffix` meets its contract: where there is room, a rooted set has a descriptor, and what is added off it is the
-- suffix.
use Rattle.answer.proofs.Kit.{sym, ap, ◌∙◌, ◌+◌, ◌≤◌, arith, length}
use Rattle.descriptors.proofs.Replied as Replied
use Rattle.inference.proofs.Puts.{suffix_added, with_set, without_set}
use Rattle.inference.proofs.normalize.push_suffix.Goals as goal

pub returns-in-Ok : goal.returns-in-Ok
returns-in-Ok g c =
    let told = Replied.described c.args.set _ c.describe.ensures _ c.in-Ok.is in
    let room : length c.args.text.now + 72 ≤ g.row.N = omega (arith, ap length c.as_slice.ensures.bytes, c.if-as_slice.false) in
    suffix_added c.args.set g.row.N _ _ _ told room c.push_described.ensures ∙ sym (with_set c.args.set g.row.N c.args.text.now told.0 room)

pub returns-in_default : goal.returns-in_default
returns-in_default g c = sym (without_set c.args.set g.row.N c.args.text.now (Replied.refused c.args.set _ c.describe.ensures _ c.in_default.is))
