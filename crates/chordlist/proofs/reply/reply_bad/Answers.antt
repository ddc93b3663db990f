-- `chordlist::reply::reply_bad` meets its contract: `?` and LF.
use Rattle.answer.specs.Words.{bytes}
use Rattle.answer.proofs.Kit.{refl}
use Rattle.chordlist.specs.Replies.{bad_text}
use Rattle.chordlist.proofs.reply.reply_bad.Goals as goal

pub returns : goal.returns
unfolding bad_text bytes
returns c = rw (c.push-2.ensures, c.push.ensures, c.clear.ensures) refl
