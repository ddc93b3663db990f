-- Intervals and degrees: paper 01, "Sets and intervals" ("Intervals are 0..22 in the order of 004"), and the tables of 004.
use Rattle.std.specs.Prelude.{List, [], ◌∷◌, map, ℕ, zero, suc, ◌%◌, Option, Some, None}
use Prim.Native.String.{String}
use Rattle.answer.specs.Words.{bytes}
use Rattle.intervals.specs.Sets.{bits}
use Rattle.intervals.specs.declared.interval.Interval.{Interval}
use Rattle.intervals.specs.declared.interval.Interval.TheVariants.{Unison, MinorSecond, MajorSecond, MinorThird, MajorThird, PerfectFourth, AugmentedFourth, DiminishedFifth, PerfectFifth, AugmentedFifth, MinorSixth, MajorSixth, DiminishedSeventh, MinorSeventh, MajorSeventh, Octave, FlatNinth, Ninth, SharpNinth, Eleventh, SharpEleventh, FlatThirteenth, Thirteenth}
use Rattle.intervals.specs.declared.interval.IntDegree.{IntDegree}
use Rattle.intervals.specs.declared.interval.IntDegree.TheVariants.{Root, Second, Third, Fourth, Fifth, Sixth, Seventh}
use Rattle.intervals.specs.declared.interval.IntDegree.TheVariants as Degree

-- the intervals in the order of 004
unfoldable pub intervals : List Interval
intervals =
    Unison ∷ MinorSecond ∷ MajorSecond ∷ MinorThird ∷ MajorThird ∷ PerfectFourth
    ∷ AugmentedFourth ∷ DiminishedFifth ∷ PerfectFifth ∷ AugmentedFifth ∷ MinorSixth ∷ MajorSixth
    ∷ DiminishedSeventh ∷ MinorSeventh ∷ MajorSeventh ∷ Octave ∷ FlatNinth ∷ Ninth
    ∷ SharpNinth ∷ Eleventh ∷ SharpEleventh ∷ FlatThirteenth ∷ Thirteenth ∷ []

-- the interval at a place of a list
unfoldable pub nth : List Interval → ℕ → Option Interval
nth [] n = None
nth (i ∷ more) zero = Some i
nth (i ∷ more) (suc n) = nth more n

-- the interval of a number, 0 to 22
unfoldable pub numbered : ℕ → Option Interval
numbered n = nth intervals n

-- what 004 keeps of an interval
pub record Row : Type 0 where
  pub number : ℕ
  pub semitones : ℕ
  pub degree : IntDegree
  pub to_degree : IntDegree
  pub notation : List ℕ

-- a row with its text quoted
abbrev row : ℕ → ℕ → IntDegree → IntDegree → String → Row
row n s d t text = record { number = n; semitones = s; degree = d; to_degree = t; notation = bytes text }

-- all that 004 says of an interval: its number, its semitones, its degree by `From<Interval>`, its degree by `to_degree`, and how it is written in a
-- chord
abbrev pub row_of : Interval → Row
row_of Unison = row 0 0 Root Root "1"
row_of MinorSecond = row 1 1 Second Second "b2"
row_of MajorSecond = row 2 2 Second Second "2"
row_of MinorThird = row 3 3 Third Third "b3"
row_of MajorThird = row 4 4 Third Third "3"
row_of PerfectFourth = row 5 5 Fourth Fourth "4"
row_of AugmentedFourth = row 6 6 Fourth Fourth "#4"
row_of DiminishedFifth = row 7 6 Fourth Fifth "b5"
row_of PerfectFifth = row 8 7 Fifth Fifth "5"
row_of AugmentedFifth = row 9 8 Fifth Fifth "#5"
row_of MinorSixth = row 10 8 Sixth Sixth "b6"
row_of MajorSixth = row 11 9 Sixth Sixth "6"
row_of DiminishedSeventh = row 12 9 Seventh Seventh "bb7"
row_of MinorSeventh = row 13 10 Seventh Seventh "7"
row_of MajorSeventh = row 14 11 Seventh Seventh "Ma7"
row_of Octave = row 15 12 Root Root "8"
row_of FlatNinth = row 16 13 Degree.Ninth Degree.Ninth "b9"
row_of Ninth = row 17 14 Degree.Ninth Degree.Ninth "9"
row_of SharpNinth = row 18 15 Degree.Ninth Degree.Ninth "#9"
row_of Eleventh = row 19 17 Degree.Eleventh Degree.Eleventh "11"
row_of SharpEleventh = row 20 18 Degree.Eleventh Degree.Eleventh "#11"
row_of FlatThirteenth = row 21 20 Degree.Thirteenth Degree.Thirteenth "b13"
row_of Thirteenth = row 22 21 Degree.Thirteenth Degree.Thirteenth "13"

-- "Intervals are 0..22 in the order of 004"
abbrev pub number_of : Interval → ℕ
number_of i = (row_of i).number

-- its semitones above the root
abbrev pub semitones_of : Interval → ℕ
semitones_of i = (row_of i).semitones

-- its degree by 004's `From<Interval>`: b5 is a fourth
abbrev pub degree_of : Interval → IntDegree
degree_of i = (row_of i).degree

-- its degree by 004's `to_degree`: b5 is a fifth
abbrev pub to_degree_of : Interval → IntDegree
to_degree_of i = (row_of i).to_degree

-- how a chord writes it
abbrev pub notation_of : Interval → List ℕ
notation_of i = (row_of i).notation

-- the pitch class of an interval
abbrev pub class_of : Interval → ℕ
class_of i = semitones_of i % 12

-- intervals as a set, a number with the bit of each one's number
unfoldable pub set_of : List Interval → ℕ
set_of found = bits (map number_of found)

-- the number of a degree
abbrev pub numeric_of : IntDegree → ℕ
numeric_of Root = 1
numeric_of Second = 2
numeric_of Third = 3
numeric_of Fourth = 4
numeric_of Fifth = 5
numeric_of Sixth = 6
numeric_of Seventh = 7
numeric_of Degree.Ninth = 9
numeric_of Degree.Eleventh = 11
numeric_of Degree.Thirteenth = 13
