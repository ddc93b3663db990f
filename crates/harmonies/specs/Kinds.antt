-- The kind and the degrees of a rooted set: paper 02, Q-2.
use Rattle.std.specs.Prelude.{not, List, [], ◌∷◌, ◌++◌, map, ℕ, pos, ◌-ℤ◌}
use Prim.Native.String.{String}
use Rattle.answer.specs.Words.{bytes}
use Rattle.intervals.specs.Sets.{has, is_in}
use Rattle.intervals.specs.Intervals.{semitones_of, to_degree_of, class_of, numeric_of}
use Rattle.intervals.specs.declared.interval.Interval.{Interval}
use Rattle.intervals.specs.declared.interval.Interval.TheVariants.{Unison, MinorThird, MajorThird, DiminishedFifth, PerfectFifth, AugmentedFifth, MajorSixth, DiminishedSeventh, MinorSeventh, MajorSeventh}
use Rattle.intervals.specs.declared.interval.IntDegree.{IntDegree}
use Rattle.intervals.specs.declared.interval.IntDegree.TheVariants.{Root, Second, Third, Fourth, Fifth, Sixth, Seventh, Ninth, Eleventh, Thirteenth}
use Rattle.qualities.specs.declared.quality.ChordQuality.{ChordQuality}
use Rattle.qualities.specs.declared.quality.ChordQuality.TheVariants.{Maj, Maj6, Maj7, Dominant7, Mi, Mi6, Mi7, MiMaj7, Augmented, Diminished, Diminished7, Power, Bass}
use Rattle.rules.specs.Classes.{keep, intervals_of}
use Rattle.rules.specs.Parts.{suffix_quality}
use Rattle.harmonies.specs.Degrees.{Degree}

-- a kind: its name, its third and fifth, and its sixth or seventh, as intervals above the root
pub record Kind : Type 0 where
  pub name : List ℕ
  pub third : Interval
  pub fifth : Interval
  pub more : List Interval

-- a kind with its name quoted
abbrev kind : String → Interval → Interval → List Interval → Kind
kind name third fifth more = record { name = bytes name; third = third; fifth = fifth; more = more }

-- its tones, by rising degree
abbrev pub tones : Kind → List Interval
tones k = Unison ∷ k.third ∷ k.fifth ∷ k.more

-- "Kinds by the suffix's quality", with "the triad of the kind, and its sixth or seventh"; no rooted set shows the last two (proofs/Lossless.antt, `shown_kind`)
abbrev pub kind_of : ChordQuality → Kind
kind_of Maj = kind "major" MajorThird PerfectFifth []
kind_of Maj6 = kind "major-sixth" MajorThird PerfectFifth (MajorSixth ∷ [])
kind_of Maj7 = kind "major-seventh" MajorThird PerfectFifth (MajorSeventh ∷ [])
kind_of Dominant7 = kind "dominant" MajorThird PerfectFifth (MinorSeventh ∷ [])
kind_of Mi = kind "minor" MinorThird PerfectFifth []
kind_of Mi6 = kind "minor-sixth" MinorThird PerfectFifth (MajorSixth ∷ [])
kind_of Mi7 = kind "minor-seventh" MinorThird PerfectFifth (MinorSeventh ∷ [])
kind_of MiMaj7 = kind "major-minor" MinorThird PerfectFifth (MajorSeventh ∷ [])
kind_of Augmented = kind "augmented" MajorThird AugmentedFifth []
kind_of Diminished = kind "diminished" MinorThird DiminishedFifth []
kind_of Diminished7 = kind "diminished-seventh" MinorThird DiminishedFifth (DiminishedSeventh ∷ [])
kind_of Power = kind "major" MajorThird PerfectFifth []
kind_of Bass = kind "major" MajorThird PerfectFifth []

-- "degrees as in a major scale with a minor seventh": how far each is above the root in a dominant chord
abbrev pub in_dominant : IntDegree → ℕ
in_dominant Root = 0
in_dominant Second = 2
in_dominant Third = 4
in_dominant Fourth = 5
in_dominant Fifth = 7
in_dominant Sixth = 9
in_dominant Seventh = 10
in_dominant Ninth = 14
in_dominant Eleventh = 17
in_dominant Thirteenth = 21

-- "an `add`, numbered by 004's `to_degree`, its alter counted from a dominant chord"
abbrev pub add_of : Interval → Degree
add_of i =
    let degree = to_degree_of i in
    record { value = numeric_of degree; alter = pos (semitones_of i) -ℤ pos (in_dominant degree); type = bytes "add" }

-- "a `subtract` with alter 0"
abbrev pub subtract_of : Interval → Degree
subtract_of tone = record { value = numeric_of (to_degree_of tone); alter = pos 0; type = bytes "subtract" }

-- the intervals outside the kind, "by pitch class", in their rising order
unfoldable pub outside : Kind → List Interval → List Interval
outside k found = keep (λ i. not (is_in (class_of i) (map class_of (tones k)))) found

-- "each tone of the kind that doesn't sound"
unfoldable pub silent : Kind → ℕ → List Interval
silent k s = keep (λ t. not (has s (class_of t))) (tones k)

-- "Adds in rising interval order; then each tone of the kind that doesn't sound as a `subtract`": of a kind, the intervals of a set, and the set
abbrev pub degrees_from : Kind → List Interval → ℕ → List Degree
degrees_from k found s = map add_of (outside k found) ++ map subtract_of (silent k s)

-- the degrees of a set
unfoldable pub degrees_of : ℕ → List Degree
degrees_of s = degrees_from (kind_of (suffix_quality s)) (intervals_of s) s
