-- What a call for a `harmony` element has to give: paper 02, Q-2 ("Refusals: 1, 2 and 7 as in the base").
use Rattle.std.specs.Prelude.{cond, ◌&&◌, List, ℕ, leb, Option}
use Rattle.answer.specs.Replies.{Reply, refuse, text}
use Rattle.answer.specs.declared.refusal.Refusal.TheVariants.{NotASet, BadClass}
use Rattle.intervals.specs.Bass.{is_bass}
use Rattle.intervals.specs.Sets.{is_rooted}
use Rattle.notes.specs.declared.note.Note.{Note}
use Rattle.harmonies.specs.Harmony.{harmony_of}
-- the code's table, passed on to those that cite the reply
pub use Rattle.harmonies.specs.Harmony.{flats}

-- refusals 1 and 2 in this order, or the element
unfoldable pub harmony_reply : List Note → ℕ → Option ℕ → ℕ → Reply
harmony_reply table root bass s =
    cond (is_rooted s) (cond (leb root 11 && is_bass bass) (text (harmony_of table root bass s)) (refuse BadClass)) (refuse NotASet)
