-- What stands before the parentheses of a suffix: paper 01, "The suffix (002, 003)" ("quality with modifier, worded as 002 words
-- them, `sus`").
use Rattle.std.specs.Prelude.{Bool, cond, ◌&&◌, List, [], ◌∷◌, ◌++◌, ℕ, Option, Some, None}
use Prim.Native.String.{String}
use Rattle.answer.specs.Words.{bytes}
use Rattle.intervals.specs.Intervals.{notation_of}
use Rattle.intervals.specs.declared.interval.Interval.{Interval}
use Rattle.intervals.specs.declared.interval.Interval.TheVariants.{Ninth}
use Rattle.qualities.specs.declared.quality.ChordQuality.{ChordQuality}
use Rattle.qualities.specs.declared.quality.ChordQuality.TheVariants.{Maj, Maj6, Maj7, Dominant7, Mi, Mi6, Mi7, MiMaj7, Augmented, Diminished, Diminished7, Power, Bass}
use Rattle.rules.specs.Classes.{among, intervals_of}
use Rattle.rules.specs.Parts.{suffix_quality, is_sus}
use Rattle.rules.specs.Stack.{is_one_of, modifier_of, adds_of}

-- a quality's word, up to where its modifier stands; a rooted set with a third supplied is neither Power nor Bass
abbrev pub wording : ChordQuality → List ℕ
wording Maj = []
wording Maj6 = bytes "6"
wording Maj7 = bytes "Ma"
wording Dominant7 = []
wording Mi = bytes "mi"
wording Mi6 = bytes "mi6"
wording Mi7 = bytes "mi"
wording MiMaj7 = bytes "miMa"
wording Augmented = bytes "+"
wording Diminished = bytes "dim"
wording Diminished7 = bytes "dim7"
wording Power = []
wording Bass = []

-- how a chord writes an interval, or a text where there is none
abbrev pub or_else : String → Option Interval → List ℕ
or_else without (Some i) = notation_of i
or_else without None = bytes without

-- "Maj, Mi and Mi6 show no modifier", and the diminished qualities have none
abbrev pub shows_modifier : ChordQuality → Bool
shows_modifier q = is_one_of q (Maj6 ∷ Maj7 ∷ Dominant7 ∷ Mi7 ∷ MiMaj7 ∷ Augmented ∷ [])

-- what 002 writes where there is none
abbrev pub unmodified : ChordQuality → List ℕ
unmodified q = cond (is_one_of q (Maj7 ∷ Dominant7 ∷ Mi7 ∷ MiMaj7 ∷ [])) (bytes "7") []

-- the modifier, where the quality shows one, or what 002 writes where there is none
abbrev pub modified : ChordQuality → Option Interval → List ℕ
modified q (Some i) = cond (shows_modifier q) (notation_of i) []
modified q None = unmodified q

-- "A 9 among the adds of Maj6 or Mi6 goes in behind the first `6`"
abbrev pub is_sixth : ChordQuality → Bool
is_sixth q = is_one_of q (Maj6 ∷ Mi6 ∷ [])

-- such a 9 is among the adds
unfoldable pub nine : ChordQuality → List Interval → Bool
nine q adds = is_sixth q && among Ninth adds

-- quality with modifier
unfoldable pub heading : ℕ → List ℕ
heading s =
    let ints = intervals_of s in
    let q = suffix_quality s in
    wording q ++ cond (nine q (adds_of q ints)) (bytes "9") [] ++ modified q (modifier_of q ints)

-- `sus`, or nothing
unfoldable pub sus : ℕ → List ℕ
sus s = cond (is_sus s) (bytes "sus") []
