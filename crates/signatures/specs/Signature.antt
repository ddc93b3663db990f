-- Key signatures: paper 02, Q-9.
use Rattle.std.specs.Prelude.{Bool, cond, ◌&&◌, ℤ, pos, neg_ℤ, Option, Some, None}
use Rattle.std.specs.Int.Signed.{le_z, lt_z}
use Rattle.names.specs.declared.table.Names.{Names}
use Rattle.names.specs.declared.table.Names.TheVariants.{Flats, Sharps}

-- "a key signature from -7 to 7 fifths"
abbrev pub is_signature : ℤ → Bool
is_signature fifths = le_z (neg_ℤ (pos 7)) fifths && le_z fifths (pos 7)

-- the names "the key calls for: sharp above 0, flat otherwise"
abbrev pub names_for : ℤ → Names
names_for fifths = cond (lt_z (pos 0) fifths) Sharps Flats

-- and none in "a key out of range"
unfoldable pub names_in : ℤ → Option Names
names_in fifths = cond (is_signature fifths) (Some (names_for fifths)) None
