-- Laws of the table of qualities.
--     row_tells     the row of a quality tells of it
use Rattle.answer.proofs.Kit.{◌≡◌, sym, ap}
use Rattle.qualities.specs.Qualities.{quality_number}
use Rattle.qualities.specs.Masks.{own_bits, alteration_bits, extension_bits, stack_bits}
use Rattle.qualities.specs.private.Rows.{Tells}
use Rattle.qualities.specs.declared.quality.About as quality
use Rattle.qualities.specs.declared.quality.ChordQuality.{ChordQuality}

-- a quality's row
abbrev row_kept : ChordQuality → quality.About
row_kept q = record { 0 = quality_number q; 1 = own_bits q; 2 = alteration_bits q; 3 = extension_bits q; 4 = stack_bits q }

pub row_tells : (q k : ChordQuality) → q ≡ k → Tells q (row_kept k)
row_tells q k e =
    record {
      number = ap quality_number (sym e);
      own = ap own_bits (sym e);
      alterations = ap alteration_bits (sym e);
      extensions = ap extension_bits (sym e);
      stack = ap stack_bits (sym e);
    }
