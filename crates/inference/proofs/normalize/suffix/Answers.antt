-- `inference::normalize::suffix` meets its contract: the descriptor of a rooted set, and what is added off it, is given.
use Rattle.std.proofs.lemmas.Result.{err_from_is_err_and}
use Rattle.answer.proofs.Kit.{sym, ap, subst, ◌∙◌, [], arith}
use Rattle.answer.specs.Replies.{Reply, text, Answered}
use Rattle.answer.proofs.Rooms.{refused_by}
use Rattle.descriptors.proofs.Replied as Replied
use Rattle.inference.proofs.Puts.{suffix_added}
use Rattle.inference.proofs.Replied.{refused_reply, rooted}
use Rattle.inference.proofs.normalize.suffix.Goals as goal

pub returns-in_err-descriptor : goal.returns-in_err-descriptor
returns-in_err-descriptor c =
    let why = refused_reply c.args.set _ (sym c.describe.ensures ∙ c.in_err-descriptor.was) in
    let refused = err_from_is_err_and c.from_residual.result c.from_residual.ensures.1 in
    rw (refused.1, refused.2) (refused_by _ _ _ why)

pub returns : goal.returns
returns c =
    let told = Replied.described c.args.set _ c.describe.ensures _ c.in_ok-descriptor.was in
    let made = suffix_added c.args.set 72 [] c.push_described.new.text _ told (omega arith) (rw c.new-text.ensures at c.push_described.ensures) in
    subst (λ (x : Reply). Answered x c.args.out.now c.give.result c.give.new.out) (ap text made ∙ sym (rooted c.args.set told.0)) c.give.ensures
