-- The range of a voicing above its bass: paper 02, Q-8 ("a lowest and a highest key in place of 51 and 79"). MIDI 1.0 numbers the keys, and 60 is middle C.
use Rattle.std.specs.Prelude.{Bool, ◌&&◌, ℕ, leb}

-- refusal 16 is for any other: "lowest above highest, or highest above 127"
abbrev pub is_range : ℕ → ℕ → Bool
is_range lowest highest = leb lowest highest && leb highest 127

-- paper 01's range, from an Eb to a G ("kept within 51..79"): a choice of those who call, of which no proof of a voicing knows
abbrev pub lowest_key : ℕ
lowest_key = 51

-- its highest key
abbrev pub highest_key : ℕ
highest_key = 79
