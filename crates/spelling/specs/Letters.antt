-- On which letters the spelled tones stand, for who engraves them: paper 02, Q-3. No contract cites it; theorems do (proofs/Letters.antt).
use Rattle.std.specs.Prelude.{Bool, true, cond, not, ◌&&◌, ◌||◌, List, [], ◌∷◌, ◌++◌, map, ℕ}
use Rattle.intervals.specs.Sets.{has, has_all, has_none, bits, is_in}
use Rattle.intervals.specs.declared.interval.Interval.{Interval}
use Rattle.intervals.specs.declared.interval.IntDegree.{IntDegree}
use Rattle.notes.specs.declared.note.Note.{Note}
use Rattle.qualities.specs.Masks.{mask_of}
use Rattle.qualities.specs.declared.quality.ChordQuality.{ChordQuality}
use Rattle.qualities.specs.declared.quality.ChordQuality.TheVariants.{Maj7, Dominant7, Mi7, MiMaj7, Diminished7, Power, Bass}
use Rattle.rules.specs.Classes.{intervals_of}
use Rattle.rules.specs.Stack.{is_one_of}
use Rattle.rules.specs.Heading.{is_sixth}
use Rattle.spelling.specs.Tones.{tone_of}

-- the letters of a set's tones above a root, in their order
unfoldable pub letters_of : (Interval → IntDegree) → Note → ℕ → List ℕ
letters_of degrees root s = map (λ i. (tone_of degrees root i).letter) (intervals_of s)

-- no two of a list are the same
unfoldable pub are_apart : List ℕ → Bool
are_apart [] = true
are_apart (x ∷ more) = not (is_in x more) && are_apart more

-- the eleven qualities that a suffix shows
abbrev pub is_shown : ChordQuality → Bool
is_shown q = not (is_one_of q (Power ∷ Bass ∷ []))

-- the triad of such a quality, with its sixth or seventh: the root, the classes that make it (003), and a perfect fifth where none of these is a fifth
abbrev pub chord_of : ChordQuality → ℕ
chord_of q = let own = (mask_of q).own in bits (0 ∷ own ++ cond (is_in 6 own || is_in 8 own) [] (7 ∷ []))

-- the degrees on which a musician expects its tones: 1 3 5, and 6 or 7
abbrev pub degrees_in : ChordQuality → List ℕ
degrees_in q = 1 ∷ 3 ∷ 5 ∷ cond (is_sixth q) (6 ∷ []) (cond (is_one_of q (Maj7 ∷ Dominant7 ∷ Mi7 ∷ MiMaj7 ∷ Diminished7 ∷ [])) (7 ∷ []) [])

-- two of b9, 9 and #9, which is class 3 above a major third
unfoldable pub two_ninths : ℕ → Bool
two_ninths s = has_all s (1 ∷ 2 ∷ []) || has_all s (3 ∷ 4 ∷ []) && (has s 1 || has s 2)

-- 11 and #11, which is class 6 beside a perfect fifth
unfoldable pub two_elevenths : ℕ → Bool
two_elevenths s = has_all s (5 ∷ 6 ∷ 7 ∷ [])

-- #5, which is class 8 above a major third with neither 9 nor 10, and another fifth
unfoldable pub two_fifths : ℕ → Bool
two_fifths s = has_all s (4 ∷ 8 ∷ []) && has_none s (9 ∷ 10 ∷ []) && (has s 6 || has s 7)

-- class 9 is a diminished seventh
unfoldable pub has_low_seventh : ℕ → Bool
has_low_seventh s = has_all s (3 ∷ 6 ∷ 9 ∷ []) && has_none s (4 ∷ 7 ∷ 10 ∷ [])

-- classes 8 and 9, each a sixth or a thirteenth
unfoldable pub two_sixths : ℕ → Bool
two_sixths s = has_all s (8 ∷ 9 ∷ []) && not (has_low_seventh s)

-- a major seventh, and a minor or a diminished one
unfoldable pub two_sevenths : ℕ → Bool
two_sevenths s = has s 11 && (has s 10 || has_low_seventh s)

-- a set that has two tones for one letter
unfoldable pub is_crowded : ℕ → Bool
is_crowded s = two_ninths s || two_elevenths s || two_fifths s || two_sixths s || two_sevenths s
