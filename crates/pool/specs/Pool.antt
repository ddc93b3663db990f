-- The pool: paper 01, "Voicing (001)".
use Rattle.intervals.specs.declared.interval.Interval.{Interval}
use Rattle.std.specs.Prelude.{Bool, false, ◌||◌, List, [], ◌∷◌, ℕ, zero, suc, Option, Some, None}
use Rattle.intervals.specs.Intervals.{numbered, class_of}
use Rattle.pool.specs.declared.pool.Tone.{Tone}

-- of an interval, or 0 of none
abbrev pub base_named : Option Interval → ℕ
base_named (Some i) = class_of i
base_named None = 0

-- "A tone's base is its interval's semitones mod 12": of what a number names
abbrev pub base_of : ℕ → ℕ
base_of interval = base_named (numbered interval)

-- the tone of a note class and an interval's number
abbrev pub tone_of : ℕ → ℕ → Tone
tone_of class interval = record { base = base_of interval; class = class; interval = interval }

-- the tones of two ranges: "Only as many pairs as the shorter range has are used or examined"
unfoldable pub tones_of : List ℕ → List ℕ → List Tone
tones_of [] intervals = []
tones_of (c ∷ classes) [] = []
tones_of (c ∷ classes) (i ∷ intervals) = tone_of c i ∷ tones_of classes intervals

-- some tone of a list passes a test
unfoldable pub any_tone : (Tone → Bool) → List Tone → Bool
any_tone test [] = false
any_tone test (t ∷ more) = test t || any_tone test more

-- tones without the one at a place; past the last of them, as they were
unfoldable pub without_at : ℕ → List Tone → List Tone
without_at n [] = []
without_at zero (t ∷ more) = more
without_at (suc n) (t ∷ more) = t ∷ without_at n more
