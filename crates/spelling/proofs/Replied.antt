-- What a call for the tones has to give, by the answers on its numbers, for any table of degrees.
use Rattle.answer.proofs.Kit.{◌≡◌, refl, Bool, true, false, cond, ℕ, Result, Ok, Err}
use Rattle.answer.specs.Replies.{Reply, refuse}
use Rattle.answer.specs.declared.refusal.Refusal.{Refusal}
use Rattle.answer.specs.declared.refusal.Refusal.TheVariants.{NotASet}
use Rattle.intervals.specs.Sets.{is_rooted, rooted_answer}
use Rattle.intervals.specs.declared.interval.Interval.{Interval}
use Rattle.intervals.specs.declared.interval.IntDegree.{IntDegree}
use Rattle.names.specs.Names.{flats, note_in}
use Rattle.spelling.specs.Tones.{tones_on, tones_reply}

module _ (degrees : Interval → IntDegree) (root : ℕ) where
  -- behind what the set was answered
  abbrev pub on_set : Result ℕ Refusal → Reply
  on_set (Ok s) = tones_on degrees (note_in flats root) s
  on_set (Err why) = refuse why

  pub by_the_set : (s : ℕ) → tones_reply degrees root s ≡ on_set (rooted_answer s)
  unfolding rooted_answer tones_reply
  by_the_set s = by_test (is_rooted s)
    where
      by_test : (b : Bool) → cond b (tones_on degrees (note_in flats root) s) (refuse NotASet) ≡ on_set (cond b (Ok s) (Err NotASet))
      by_test true = refl
      by_test false = refl
