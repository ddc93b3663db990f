-- What a reader knows of chords: MusicXML 4.0, `kind` and `degree`. Nothing here is taken from what writes the element: a table that both had could
-- be wrong, and what is read would still be what was written.
use Rattle.std.specs.Prelude.{cond, List, [], ◌∷◌, map, ℕ, ◌+◌, ◌-◌, ◌*◌, ◌/◌, ◌%◌, eqb, pos, ◌+ℤ◌, get_or}
use Rattle.answer.specs.Words.{bytes, same}
use Rattle.intervals.specs.Sets.{with_member, without, bits}
use Rattle.notes.specs.Notes.{mod12}
use Rattle.harmonies.specs.Degrees.{Degree}

-- a tone of a kind: its degree, and how many semitones it is above the root
pub record Tone : Type 0 where
  pub degree : ℕ
  pub semitones : ℕ

-- a `kind` value with its tones
pub record Kind : Type 0 where
  pub name : List ℕ
  pub tones : List Tone

-- a tone by its parts
abbrev tone : ℕ → ℕ → Tone
tone degree semitones = record { degree = degree; semitones = semitones }

-- the values that MusicXML has for triads, sixths and sevenths, with what it says they are made of: "major (major third, perfect fifth)" ..
unfoldable pub kinds : List Kind
kinds =
    record { name = bytes "major"; tones = tone 1 0 ∷ tone 3 4 ∷ tone 5 7 ∷ [] }
    ∷ record { name = bytes "minor"; tones = tone 1 0 ∷ tone 3 3 ∷ tone 5 7 ∷ [] }
    ∷ record { name = bytes "augmented"; tones = tone 1 0 ∷ tone 3 4 ∷ tone 5 8 ∷ [] }
    ∷ record { name = bytes "diminished"; tones = tone 1 0 ∷ tone 3 3 ∷ tone 5 6 ∷ [] }
    ∷ record { name = bytes "dominant"; tones = tone 1 0 ∷ tone 3 4 ∷ tone 5 7 ∷ tone 7 10 ∷ [] }
    ∷ record { name = bytes "major-seventh"; tones = tone 1 0 ∷ tone 3 4 ∷ tone 5 7 ∷ tone 7 11 ∷ [] }
    ∷ record { name = bytes "minor-seventh"; tones = tone 1 0 ∷ tone 3 3 ∷ tone 5 7 ∷ tone 7 10 ∷ [] }
    ∷ record { name = bytes "diminished-seventh"; tones = tone 1 0 ∷ tone 3 3 ∷ tone 5 6 ∷ tone 7 9 ∷ [] }
    ∷ record { name = bytes "augmented-seventh"; tones = tone 1 0 ∷ tone 3 4 ∷ tone 5 8 ∷ tone 7 10 ∷ [] }
    ∷ record { name = bytes "half-diminished"; tones = tone 1 0 ∷ tone 3 3 ∷ tone 5 6 ∷ tone 7 10 ∷ [] }
    ∷ record { name = bytes "major-minor"; tones = tone 1 0 ∷ tone 3 3 ∷ tone 5 7 ∷ tone 7 11 ∷ [] }
    ∷ record { name = bytes "major-sixth"; tones = tone 1 0 ∷ tone 3 4 ∷ tone 5 7 ∷ tone 6 9 ∷ [] }
    ∷ record { name = bytes "minor-sixth"; tones = tone 1 0 ∷ tone 3 3 ∷ tone 5 7 ∷ tone 6 9 ∷ [] }
    ∷ []

-- the tones of the first kind of a name; of no kind, none
unfoldable pub tones_in : List Kind → List ℕ → List Tone
tones_in [] name = []
tones_in (k ∷ more) name = cond (same k.name name) k.tones (tones_in more name)

-- the tones of a `kind` value
unfoldable pub tones_of : List ℕ → List Tone
tones_of name = tones_in kinds name

-- a degree above the root of a dominant chord, which has "major and perfect intervals except for a minor seventh": a scale, octave by octave
unfoldable pub above_root : ℕ → ℕ
above_root d = get_or (0 ∷ 2 ∷ 4 ∷ 5 ∷ 7 ∷ 9 ∷ 10 ∷ []) ((d - 1) % 7) 0 + 12 * ((d - 1) / 7)

-- the semitones of the kind's tone on a degree
unfoldable pub tone_on : List Tone → ℕ → ℕ
tone_on [] d = 0
tone_on (t ∷ more) d = cond (eqb t.degree d) t.semitones (tone_on more d)

-- the classes of tones above the root
unfoldable pub classes_of : List Tone → ℕ
classes_of tones = bits (map (λ t. t.semitones % 12) tones)

-- a set less what is subtracted, "relative to the degree already in the chord as specified by the kind element"
unfoldable pub less_subtracted : List Tone → List Degree → ℕ → ℕ
less_subtracted tones [] s = s
less_subtracted tones (d ∷ more) s =
    less_subtracted tones more (cond (same d.type (bytes "subtract")) (without (mod12 (pos (tone_on tones d.value) +ℤ d.alter)) s) s)

-- a set with what is added, "relative to a dominant chord"
unfoldable pub with_added : List Degree → ℕ → ℕ
with_added [] s = s
with_added (d ∷ more) s = with_added more (cond (same d.type (bytes "add")) (with_member (mod12 (pos (above_root d.value) +ℤ d.alter)) s) s)

-- the classes that a kind and degrees tell: the kind's tones, less the subtracted, with the added
unfoldable pub sounding : List Tone → List Degree → ℕ
sounding tones degrees = with_added degrees (less_subtracted tones degrees (classes_of tones))
