-- The listing of a text: paper 01, "Numbers given back" ("Listing: each set is two bytes, big-endian"), of the sets that demand 3
-- asks for.
use Rattle.std.specs.Prelude.{List, [], ◌∷◌, ℕ, ◌/◌, ◌%◌}
use Rattle.suffixes.specs.Sets.{sets_of}

-- sets in a row, each "two bytes, big-endian"
unfoldable pub in_bytes : List ℕ → List ℕ
in_bytes [] = []
in_bytes (s ∷ more) = s / 256 ∷ s % 256 ∷ in_bytes more

-- the listing of a text
unfoldable pub listing_of : List ℕ → List ℕ
listing_of t = in_bytes (sets_of t)
