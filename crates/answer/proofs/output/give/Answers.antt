-- `answer::output::give` meets its contract.
use Rattle.answer.proofs.Kit.{arith}
use Rattle.answer.proofs.Rooms.{no_room, written}
use Rattle.answer.proofs.output.give.Goals as goal

pub returns-then-out-from : goal.returns-then-out-from
returns-then-out-from c = no_room _ _ c.if-out-from.true

pub returns : goal.returns
returns c = rw c.copy_from_slice.ensures.after (written c.args.from.now c.args.out.now (omega arith))
