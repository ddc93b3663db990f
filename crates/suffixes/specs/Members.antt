-- What is said of a list of sets.
use Rattle.std.specs.Prelude.{Bool, true, ◌&&◌, List, [], ◌∷◌, ℕ, ltb}

-- all that it has are above a number
unfoldable pub is_above : ℕ → List ℕ → Bool
is_above n [] = true
is_above n (x ∷ more) = ltb n x && is_above n more

-- each is below all that stand behind it: so it rises, and has none twice
unfoldable pub is_rising : List ℕ → Bool
is_rising [] = true
is_rising (x ∷ more) = is_above x more && is_rising more
