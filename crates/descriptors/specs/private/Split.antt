-- What becomes of the extensions, as the code computes it by bits.
use Rattle.intervals.specs.declared.interval.Interval.{Interval}
use Rattle.std.specs.Prelude.{◌≡◌, map, ℕ, Option}
use Rattle.std.specs.Int.Bits.{bit_or}
use Rattle.intervals.specs.Sets.{bits}
use Rattle.intervals.specs.Intervals.{numeric_of}
use Rattle.qualities.specs.Masks.{own_bits, stack_bits}
use Rattle.qualities.specs.declared.quality.ChordQuality.{ChordQuality}
use Rattle.rules.specs.Stack.{own_seventh, is_diminished}
use Rattle.rules.specs.Heading.{is_sixth}
use Rattle.rules.specs.private.Steps.{unstacked_from, modifier_from, adds_from, nine_from}

-- the gaps in a quality's stack, with the alterations and extensions of a set
abbrev pub missed_by : ChordQuality → ℕ → ℕ → ℕ
missed_by q a e = unstacked_from (bit_or a e) (bits (map numeric_of (own_seventh q))) (stack_bits q)

-- of a quality, alterations and extensions: the modifier, the adds, and the 9 behind the `6`
pub record Splits (q : ChordQuality) (a e : ℕ) (modifier : Option Interval) (adds nine : ℕ) : Type 0 where
  pub stacked : modifier ≡ modifier_from (is_diminished q) e (missed_by q a e)
  pub added : adds ≡ adds_from (is_diminished q) e (missed_by q a e) (own_bits q)
  pub behind : nine ≡ nine_from (is_sixth q) adds
