-- The code's table of classes.
use Rattle.std.specs.Prelude.{◌≡◌, ℕ, ◌<◌, Ok}
use Rattle.answer.specs.Words.{packed}
use Rattle.names.specs.Names.{flats, sharps, name_of, note_in}
use Rattle.names.specs.declared.table.Row.{Row}

-- a row has the note of its class, where the number is one, and the words of its names
pub record Tells (class : ℕ) (row : Row) : Type 0 where
  pub note : class < 12 → note_in flats class ≡ Ok (record { letter = row.0; accidental = row.1 })
  pub flat : row.2 ≡ packed (name_of flats class)
  pub sharp : row.3 ≡ packed (name_of sharps class)
