-- `answer::word::put` meets its contract.
use Rattle.answer.proofs.Kit.{arith}
use Rattle.answer.proofs.Digits.{put_nothing, put_whole}
use Rattle.answer.proofs.word.put.Goals as goal

pub returns-then-buffer-lt8 : goal.returns-then-buffer-lt8
returns-then-buffer-lt8 c = put_nothing _ _ _ (let h = c.if-buffer-lt8.true in omega arith)

pub returns-then-buffer-at : goal.returns-then-buffer-at
returns-then-buffer-at c = put_nothing _ _ _ (let h = c.if-buffer-at.true in let k = c.if-buffer-lt8.false in omega arith)

pub returns : goal.returns
returns c = rw (c.copy_from_slice.ensures.after, c.to_le_bytes.ensures) (put_whole _ _ _ (let h = c.if-buffer-at.false in let k = c.if-buffer-lt8.false in omega arith))
