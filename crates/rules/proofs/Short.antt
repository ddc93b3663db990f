-- No suffix of a rooted set is longer than 27 bytes, nor than the paper's 64, and none has an end of line: a test at each of
-- the 2,048.
--     suffix_reached   the bound, and that one set reaches it
--     suffix_short     the paper's
--     suffix_line      no end of line
--     suffix_room_lem  so no call's answer has more than 64 bytes
use Rattle.answer.proofs.Kit.{◌≡◌, refl, Bool, true, false, cond, ◌&&◌, List, ℕ, ◌≤◌, arith, T, eqb, leb, eqb→eq, leb→le, length}
use Rattle.answer.specs.Lines.{line_feeds}
use Rattle.answer.specs.Replies.{AtMost, refuse, text}
use Rattle.answer.specs.declared.refusal.Refusal.TheVariants.{NotASet}
use Rattle.answer.proofs.Tests.{left, right}
use Rattle.intervals.specs.Sets.{is_rooted}
use Rattle.intervals.proofs.Rooted.{at_rooted}
use Rattle.rules.specs.Suffix.{suffix_of, suffix_reply, longest, reached}
use Rattle.rules.proofs.Computed.{suffix_computed}

-- one line of so many bytes
is_line : List ℕ → Bool
is_line t = leb (length t) reached && eqb (line_feeds t) 0

all_lines : (s : ℕ) → is_rooted s ≡ true → T (is_line (suffix_of s))
unfolding suffix_computed is_line line_feeds
all_lines = at_rooted (λ s. is_line (suffix_of s)) tt

module _ (s : ℕ) (is : is_rooted s ≡ true) where
  pub suffix_reached : length (suffix_of s) ≤ reached
  unfolding is_line
  suffix_reached = leb→le _ _ (left (leb (length (suffix_of s)) reached) (eqb (line_feeds (suffix_of s)) 0) (all_lines s is))

  pub suffix_short : length (suffix_of s) ≤ longest
  suffix_short = omega (arith, suffix_reached)

  pub suffix_line : line_feeds (suffix_of s) ≡ 0
  unfolding is_line
  suffix_line = eqb→eq _ _ (right (leb (length (suffix_of s)) reached) (eqb (line_feeds (suffix_of s)) 0) (all_lines s is))

pub suffix_room_lem : (s : ℕ) → AtMost longest (suffix_reply s)
unfolding suffix_reply
suffix_room_lem s = by_set (is_rooted s) refl
  where
    by_set : (b : Bool) → is_rooted s ≡ b → AtMost longest (cond b (text (suffix_of s)) (refuse NotASet))
    by_set true is = suffix_short s is
    by_set false other = tt

-- a suffix of that length
pub reached_by : length (suffix_of 3015) ≡ reached
unfolding suffix_computed
reached_by = refl
