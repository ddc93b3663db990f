-- What the suffix asks of each quality: paper 01, "The suffix (002, 003)".
use Rattle.std.specs.Prelude.{cond, map, Some, None}
use Rattle.answer.specs.Words.{packed}
use Rattle.intervals.specs.Sets.{bits}
use Rattle.intervals.specs.Intervals.{numeric_of}
use Rattle.qualities.specs.declared.quality.ChordQuality.{ChordQuality}
use Rattle.rules.specs.Stack.{own_seventh, is_diminished}
use Rattle.rules.specs.Heading.{wording, shows_modifier, unmodified, is_sixth}
use Rattle.descriptors.specs.declared.kinds.Kind.{Kind}

-- the row of a quality: its word, its word without a modifier where it shows one, the degree of its own as a bit, whether it writes a `6`,
-- and whether it is diminished
abbrev pub kind_of : ChordQuality → Kind
kind_of q =
    record {
      0 = packed (wording q);
      1 = cond (shows_modifier q) (Some (packed (unmodified q))) None;
      2 = bits (map numeric_of (own_seventh q));
      3 = is_sixth q;
      4 = is_diminished q;
    }
