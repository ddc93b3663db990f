-- The intervals of a rooted set: a test at each of the 2,048.
--     at_least_one, at_most_twelve     how many they are
--     set_reads      the number that has their bits gives them back
use Rattle.answer.proofs.Kit.{◌≡◌, ap, Bool, true, ◌&&◌, List, ◌++◌, ℕ, ◌≤◌, T, eqb, leb, eqb→eq, leb→le, length}
use Rattle.answer.proofs.Tests.{left, right}
use Rattle.intervals.specs.Sets.{is_rooted}
use Rattle.intervals.specs.Intervals.{set_of}
use Rattle.intervals.specs.declared.interval.Interval.{Interval}
use Rattle.intervals.proofs.Rooted.{at_rooted}
use Rattle.rules.specs.Classes.{at_once, of_class3, of_class6, of_class9, of_class8, intervals_in, intervals_of}
use Rattle.rules.proofs.Computed.{classes_computed}

-- the number that `intervals_of` reads them off
abbrev found : ℕ → ℕ
found s = set_of (at_once s ++ of_class3 s ++ of_class6 s ++ of_class9 s ++ of_class8 s)

abbrev sized : List Interval → Bool
sized i = leb 1 (length i) && leb (length i) 12

fine : ℕ → Bool
fine s = let i = intervals_of s in sized i && eqb (set_of i) (found s)

all_fine : (s : ℕ) → is_rooted s ≡ true → T (fine s)
unfolding classes_computed fine
all_fine = at_rooted fine tt

module _ (s : ℕ) (is : is_rooted s ≡ true) where
  is_sized : T (sized (intervals_of s))
  unfolding fine
  is_sized = left (sized (intervals_of s)) _ (all_fine s is)

  pub at_least_one : 1 ≤ length (intervals_of s)
  at_least_one = leb→le 1 (length (intervals_of s)) (left (leb 1 (length (intervals_of s))) _ is_sized)

  pub at_most_twelve : length (intervals_of s) ≤ 12
  at_most_twelve = leb→le (length (intervals_of s)) 12 (right (leb 1 (length (intervals_of s))) _ is_sized)

  pub set_reads : intervals_in (set_of (intervals_of s)) ≡ intervals_of s
  unfolding fine intervals_of
  set_reads = ap intervals_in (eqb→eq (set_of (intervals_of s)) (found s) (right (sized (intervals_of s)) _ (all_fine s is)))
