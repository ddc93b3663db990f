-- The code's table of qualities.
use Rattle.std.specs.Prelude.{◌≡◌}
use Rattle.qualities.specs.Qualities.{quality_number}
use Rattle.qualities.specs.Masks.{own_bits, alteration_bits, extension_bits, stack_bits}
use Rattle.qualities.specs.declared.quality.About.{About}
use Rattle.qualities.specs.declared.quality.ChordQuality.{ChordQuality}

-- a row of the code's table has that, with the quality's number
pub record Tells (q : ChordQuality) (row : About) : Type 0 where
  pub number : row.0 ≡ quality_number q
  pub own : row.1 ≡ own_bits q
  pub alterations : row.2 ≡ alteration_bits q
  pub extensions : row.3 ≡ extension_bits q
  pub stack : row.4 ≡ stack_bits q
