-- The bass of a chord: paper 01, "Numbers given back".
use Rattle.std.specs.Prelude.{Bool, true, leb, Option, Some, None, ℕ}

-- a bass that is not refused: not "a .. bass class above 11 (bass none excepted)"
abbrev pub is_bass : Option ℕ → Bool
is_bass None = true
is_bass (Some class) = leb class 11
