-- What becomes of the extensions: paper 01, "The suffix (002, 003)", its third rule.
use Rattle.std.specs.Prelude.{Bool, true, cond, not, ◌&&◌, ◌||◌, List, [], ◌∷◌, ◌++◌, map, leb, Option, Some, None}
use Rattle.intervals.specs.Sets.{is_in}
use Rattle.intervals.specs.Intervals.{degree_of, numeric_of, class_of}
use Rattle.qualities.specs.Qualities.{quality_number}
use Rattle.qualities.specs.Masks.{mask_of}
use Rattle.intervals.specs.declared.interval.Interval.{Interval}
use Rattle.intervals.specs.declared.interval.Interval.TheVariants.{MajorSeventh, Ninth, Eleventh, Thirteenth}
use Rattle.intervals.specs.declared.interval.IntDegree.{IntDegree}
use Rattle.intervals.specs.declared.interval.IntDegree.TheVariants.{Seventh}
use Rattle.qualities.specs.declared.quality.ChordQuality.{ChordQuality}
use Rattle.qualities.specs.declared.quality.ChordQuality.TheVariants.{Maj7, Dominant7, Mi7, MiMaj7, Diminished, Diminished7}
use Rattle.rules.specs.Classes.{is, keep}
use Rattle.rules.specs.Parts.{alterations_of, extensions_of}

-- a quality is one of some
abbrev pub is_one_of : ChordQuality → List ChordQuality → Bool
is_one_of q some = is_in (quality_number q) (map quality_number some)

-- "plus Seventh for Dominant7, Maj7, Mi7, MiMaj7"
abbrev pub own_seventh : ChordQuality → List IntDegree
own_seventh q = cond (is_one_of q (Dominant7 ∷ Maj7 ∷ Mi7 ∷ MiMaj7 ∷ [])) (Seventh ∷ []) []

-- "both diminished qualities"
abbrev pub is_diminished : ChordQuality → Bool
is_diminished q = is_one_of q (Diminished ∷ Diminished7 ∷ [])

-- "those of alterations and extensions by 004's `From<Interval>` table, plus Seventh for Dominant7, Maj7, Mi7, MiMaj7"
unfoldable pub degrees_of : ChordQuality → List Interval → List IntDegree
degrees_of q ints = map degree_of (alterations_of q ints ++ extensions_of q ints) ++ own_seventh q

-- a degree is in a list
unfoldable pub is_degree : IntDegree → List IntDegree → Bool
is_degree d some = is_in (numeric_of d) (map numeric_of some)

-- "every member of the quality's stack up to its degree is among the degrees"
unfoldable pub reaches : List IntDegree → List IntDegree → IntDegree → Bool
reaches degrees [] top = true
reaches degrees (d ∷ stack) top = (is_degree d degrees || not (leb (numeric_of d) (numeric_of top))) && reaches degrees stack top

-- what can be the modifier: not a major seventh, which "is an add"
unfoldable pub is_stacked : ChordQuality → List IntDegree → Interval → Bool
is_stacked q degrees e = not (is e MajorSeventh) && reaches degrees (mask_of q).stack (degree_of e)

-- the extensions, present or not, up to whose degree a member of the stack is not among the degrees
unfoldable pub unstacked_of : ChordQuality → List Interval → List Interval
unstacked_of q ints =
    let degrees = degrees_of q ints in keep (λ e. not (reaches degrees (mask_of q).stack (degree_of e))) (Ninth ∷ Eleventh ∷ Thirteenth ∷ [])

-- the last of a list, if it has one
unfoldable pub last_of : List Interval → Option Interval
last_of [] = None
last_of (i ∷ []) = Some i
last_of (i ∷ j ∷ more) = last_of (j ∷ more)

-- "Any other extension becomes the modifier, replacing an earlier one": the last that is stacked
unfoldable pub modifier_of : ChordQuality → List Interval → Option Interval
modifier_of q ints =
    let degrees = degrees_of q ints in cond (is_diminished q) None (last_of (keep (is_stacked q degrees) (extensions_of q ints)))

-- a major seventh; "else it is an add unless its class is in the quality's own set"
unfoldable pub is_add : ChordQuality → List IntDegree → Interval → Bool
is_add q degrees e = is e MajorSeventh || not (is_stacked q degrees e) && not (is_in (class_of e) (mask_of q).own)

-- the adds; "For both diminished qualities every extension is an add"
unfoldable pub adds_of : ChordQuality → List Interval → List Interval
adds_of q ints = let degrees = degrees_of q ints in cond (is_diminished q) (extensions_of q ints) (keep (is_add q degrees) (extensions_of q ints))
