-- What of a set a suffix names: paper 01, "The suffix (002, 003)", for a set s, the quality q that it shows, and its intervals.
use Rattle.std.specs.Prelude.{Bool, cond, not, ◌&&◌, ◌||◌, List, ◌++◌, ℕ, ◌+◌, ◌^◌}
use Rattle.intervals.specs.Sets.{has}
use Rattle.qualities.specs.Qualities.{quality_of}
use Rattle.qualities.specs.Masks.{mask_of}
use Rattle.intervals.specs.declared.interval.Interval.{Interval}
use Rattle.intervals.specs.declared.interval.Interval.TheVariants.{MinorThird, MajorThird, DiminishedFifth, PerfectFifth, AugmentedFifth, MajorSixth, FlatThirteenth, Thirteenth}
use Rattle.qualities.specs.declared.quality.ChordQuality.{ChordQuality}
use Rattle.rules.specs.Classes.{is, among, keep, only, intervals_of}

-- a minor or a major third is among the intervals
unfoldable pub has_third : List Interval → Bool
has_third ints = among MinorThird ints || among MajorThird ints

-- a set with class 4 put in where it has neither third
unfoldable pub with_third : ℕ → ℕ
with_third s = cond (has_third (intervals_of s)) s (s + 2 ^ 4)

-- "If neither third is among them, class 4 is put in for the quality only"
unfoldable pub suffix_quality : ℕ → ChordQuality
suffix_quality s = quality_of (with_third s)

-- "Sus: class 5 present and 3 absent"
unfoldable pub is_sus : ℕ → Bool
is_sus s = has s 5 && not (has s 3)

-- the intervals that are in a mask
unfoldable pub within : List Interval → List Interval → List Interval
within mask ints = keep (λ i. among i mask) ints

-- "the set's intervals within the masks of 003"
unfoldable pub alterations_of : ChordQuality → List Interval → List Interval
alterations_of q ints = within (mask_of q).alterations ints

-- intervals with a major sixth as 13, which comes last
unfoldable pub sixth_as13 : List Interval → List Interval
sixth_as13 found = keep (λ i. not (is i MajorSixth)) found ++ only (among MajorSixth found) Thirteenth

-- the same; "A major sixth among extensions becomes 13", which is the last in rising order
unfoldable pub extensions_of : ChordQuality → List Interval → List Interval
extensions_of q ints = sixth_as13 (within (mask_of q).extensions ints)

-- "Under sus a present major third is the last add"
unfoldable pub last_add : ℕ → List Interval
last_add s = only (is_sus s && among MajorThird (intervals_of s)) MajorThird

-- "Omits: `3` if not sus and no third", as the interval that is written so
unfoldable pub omit_third : ℕ → List Interval
omit_third s = only (not (is_sus s) && not (has_third (intervals_of s))) MajorThird

-- "`5` if no b5, 5 or #5 and no b13"
unfoldable pub omit_fifth : ℕ → List Interval
omit_fifth s =
    let ints = intervals_of s in
    only (not (among DiminishedFifth ints || among PerfectFifth ints || among AugmentedFifth ints) && not (among FlatThirteenth ints)) PerfectFifth
