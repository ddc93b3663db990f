-- Classes become intervals: paper 01, "Sets and intervals" ("Classes become intervals (000)"), sentence by sentence.
use Rattle.std.specs.Prelude.{Bool, cond, ◌&&◌, ◌||◌, List, [], ◌∷◌, ◌++◌, map, ℕ, eqb}
use Rattle.intervals.specs.Sets.{has, is_in}
use Rattle.intervals.specs.Intervals.{intervals, number_of, set_of}
use Rattle.intervals.specs.declared.interval.Interval.{Interval}
use Rattle.intervals.specs.declared.interval.Interval.TheVariants.{Unison, MinorThird, MajorThird, DiminishedFifth, PerfectFifth, AugmentedFifth, MinorSixth, MajorSixth, DiminishedSeventh, MinorSeventh, MajorSeventh, FlatNinth, Ninth, SharpNinth, Eleventh, SharpEleventh, FlatThirteenth, Thirteenth}

-- two intervals are the same one
abbrev pub is : Interval → Interval → Bool
is i j = eqb (number_of i) (number_of j)

-- an interval is in a list
unfoldable pub among : Interval → List Interval → Bool
among i found = is_in (number_of i) (map number_of found)

-- the members of a list that pass a test
unfoldable pub keep : (Interval → Bool) → List Interval → List Interval
keep test [] = []
keep test (i ∷ more) = cond (test i) (i ∷ keep test more) (keep test more)

-- the one interval, where a condition holds
unfoldable pub only : Bool → Interval → List Interval
only holds i = cond holds (i ∷ []) []

-- "At once": the intervals of classes 0, 1, 2, 4, 5, 7, 10 and 11
unfoldable pub at_once : ℕ → List Interval
at_once s =
    only (has s 0) Unison ++ only (has s 1) FlatNinth ++ only (has s 2) Ninth ++ only (has s 4) MajorThird
    ++ only (has s 5) Eleventh ++ only (has s 7) PerfectFifth ++ only (has s 10) MinorSeventh ++ only (has s 11) MajorSeventh

-- "Then in this order": what class 3 becomes
unfoldable pub of_class3 : ℕ → List Interval
of_class3 s = only (has s 3) (cond (among MajorThird (at_once s)) SharpNinth MinorThird)

-- what class 6 becomes
unfoldable pub of_class6 : ℕ → List Interval
of_class6 s = only (has s 6) (cond (among PerfectFifth (at_once s)) SharpEleventh DiminishedFifth)

-- what class 9 becomes
unfoldable pub of_class9 : ℕ → List Interval
of_class9 s =
    only (has s 9)
    (cond (among MinorSeventh (at_once s)) Thirteenth
    (cond (among DiminishedFifth (of_class6 s) && among MinorThird (of_class3 s)) DiminishedSeventh
    MajorSixth))

-- "Last 8"
unfoldable pub of_class8 : ℕ → List Interval
of_class8 s =
    only (has s 8)
    (cond (among MinorSeventh (at_once s) || among DiminishedSeventh (of_class9 s) || among MajorSixth (of_class9 s)) FlatThirteenth
    (cond (among MajorThird (at_once s)) AugmentedFifth
    MinorSixth))

-- the intervals of such a set: "Interval sets are visited in rising order"
unfoldable pub intervals_in : ℕ → List Interval
intervals_in set = keep (λ i. has set (number_of i)) intervals

-- the intervals of a set of classes
unfoldable pub intervals_of : ℕ → List Interval
intervals_of s = intervals_in (set_of (at_once s ++ of_class3 s ++ of_class6 s ++ of_class9 s ++ of_class8 s))
