-- What 003 keeps for each quality, from which the suffix is made.
use Rattle.std.specs.Prelude.{List, [], ◌∷◌, map, ℕ}
use Rattle.intervals.specs.Sets.{bits}
use Rattle.intervals.specs.Intervals.{number_of, numeric_of}
use Rattle.intervals.specs.declared.interval.Interval.{Interval}
use Rattle.intervals.specs.declared.interval.Interval.TheVariants.{DiminishedFifth, AugmentedFifth, MinorSixth, MajorSixth, MajorSeventh, FlatNinth, Ninth, SharpNinth, Eleventh, SharpEleventh, FlatThirteenth, Thirteenth}
use Rattle.intervals.specs.declared.interval.IntDegree.{IntDegree}
use Rattle.intervals.specs.declared.interval.IntDegree.TheVariants as Degree
use Rattle.qualities.specs.declared.quality.ChordQuality.{ChordQuality}
use Rattle.qualities.specs.declared.quality.ChordQuality.TheVariants.{Maj, Maj6, Maj7, Dominant7, Mi, Mi6, Mi7, MiMaj7, Augmented, Diminished, Diminished7, Power, Bass}

-- what 003 keeps of a quality
pub record Mask : Type 0 where
  pub own : List ℕ
  pub alterations : List Interval
  pub extensions : List Interval
  pub stack : List IntDegree

-- a row of it
abbrev mask : List ℕ → List Interval → List Interval → List IntDegree → Mask
mask o a e s = record { own = o; alterations = a; extensions = e; stack = s }

-- the alterations of most qualities
abbrev usual : List Interval
usual = DiminishedFifth ∷ AugmentedFifth ∷ MinorSixth ∷ FlatNinth ∷ SharpNinth ∷ SharpEleventh ∷ FlatThirteenth ∷ []

-- those of an augmented chord
abbrev augmented : List Interval
augmented = DiminishedFifth ∷ FlatNinth ∷ SharpNinth ∷ SharpEleventh ∷ FlatThirteenth ∷ []

-- those of a diminished one
abbrev diminished : List Interval
diminished = AugmentedFifth ∷ MinorSixth ∷ FlatNinth ∷ FlatThirteenth ∷ []

-- the extensions, 9 and 13 always: with a major sixth
abbrev sixth : List Interval
sixth = MajorSixth ∷ Ninth ∷ Thirteenth ∷ []

-- with a major sixth and an 11
abbrev sixth_eleventh : List Interval
sixth_eleventh = MajorSixth ∷ Ninth ∷ Eleventh ∷ Thirteenth ∷ []

-- with a major seventh
abbrev seventh : List Interval
seventh = MajorSeventh ∷ Ninth ∷ Thirteenth ∷ []

-- with a major seventh and an 11
abbrev seventh_eleventh : List Interval
seventh_eleventh = MajorSeventh ∷ Ninth ∷ Eleventh ∷ Thirteenth ∷ []

-- the stacks: without an 11
abbrev skipping : List IntDegree
skipping = Degree.Seventh ∷ Degree.Ninth ∷ Degree.Thirteenth ∷ []

-- with an 11
abbrev full : List IntDegree
full = Degree.Seventh ∷ Degree.Ninth ∷ Degree.Eleventh ∷ Degree.Thirteenth ∷ []

-- of a quality: the classes that make it, the intervals that it shows as alterations, those that it shows as extensions, and the degrees of which its
-- extensions are stacked
abbrev pub mask_of : ChordQuality → Mask
mask_of Maj = mask (4 ∷ []) usual sixth skipping
mask_of Maj6 = mask (4 ∷ 9 ∷ []) usual seventh full
mask_of Maj7 = mask (4 ∷ 11 ∷ []) usual sixth skipping
mask_of Dominant7 = mask (4 ∷ 10 ∷ []) usual sixth skipping
mask_of Mi = mask (3 ∷ []) usual sixth_eleventh full
mask_of Mi6 = mask (3 ∷ 9 ∷ []) usual seventh_eleventh full
mask_of Mi7 = mask (3 ∷ 10 ∷ []) usual sixth_eleventh full
mask_of MiMaj7 = mask (3 ∷ 11 ∷ []) usual sixth_eleventh full
mask_of Augmented = mask (4 ∷ 8 ∷ []) augmented sixth skipping
mask_of Diminished = mask (3 ∷ 6 ∷ []) diminished seventh_eleventh full
mask_of Diminished7 = mask (3 ∷ 6 ∷ 9 ∷ []) diminished seventh_eleventh full
mask_of Power = mask (7 ∷ []) [] [] []
mask_of Bass = mask [] [] [] []

-- its classes, and each of the others, as a number with a bit for each member
abbrev pub own_bits : ChordQuality → ℕ
own_bits q = bits (mask_of q).own

-- the intervals that it shows as alterations
abbrev pub alteration_bits : ChordQuality → ℕ
alteration_bits q = bits (map number_of (mask_of q).alterations)

-- the intervals that it shows as extensions
abbrev pub extension_bits : ChordQuality → ℕ
extension_bits q = bits (map number_of (mask_of q).extensions)

-- the degrees of its stack
abbrev pub stack_bits : ChordQuality → ℕ
stack_bits q = bits (map numeric_of (mask_of q).stack)
