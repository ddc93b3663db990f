-- The code's table of kinds.
use Rattle.std.specs.Prelude.{◌≡◌}
use Rattle.intervals.specs.Intervals.{intervals, set_of, class_of, to_degree_of}
use Rattle.intervals.specs.declared.interval.IntDegree.TheVariants.{Third, Fifth}
use Rattle.qualities.specs.declared.quality.ChordQuality.{ChordQuality}
use Rattle.harmonies.specs.Kinds.{kind_of, outside}
use Rattle.musicxml.specs.declared.kinds.Kind.{Kind}

-- a row tells of the kind of its quality: its name, the classes of its third and fifth, which stand on these degrees, and the intervals outside it
pub record IsKind (q : ChordQuality) (row : Kind) : Type 0 where
  pub name : row.name.now ≡ (kind_of q).name
  pub third : row.third ≡ class_of (kind_of q).third
  pub on_third : to_degree_of (kind_of q).third ≡ Third
  pub fifth : row.fifth ≡ class_of (kind_of q).fifth
  pub on_fifth : to_degree_of (kind_of q).fifth ≡ Fifth
  pub outside : row.outside ≡ set_of (outside (kind_of q) intervals)
