-- The code's table of intervals.
use Rattle.std.specs.Prelude.{◌≡◌}
use Rattle.answer.specs.Words.{packed}
use Rattle.intervals.specs.Intervals.{number_of, semitones_of, degree_of, to_degree_of, notation_of}
use Rattle.intervals.specs.declared.interval.Interval.{Interval}
use Rattle.intervals.specs.declared.interval.About.{About}

-- a row tells of its interval, with how that is written as a word
pub record Tells (i : Interval) (row : About) : Type 0 where
  pub number : row.0 ≡ number_of i
  pub semitones : row.1 ≡ semitones_of i
  pub degree : row.2 ≡ degree_of i
  pub to_degree : row.3 ≡ to_degree_of i
  pub notation : row.4 ≡ packed (notation_of i)
