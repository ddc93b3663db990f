-- Degrees as the code has them.
use Rattle.std.specs.Prelude.{◌≡◌, cond, List, [], ◌++◌, ℕ}
use Rattle.answer.specs.Words.{bytes}
use Rattle.intervals.specs.Sets.{has}
use Rattle.harmonies.specs.Degrees.{Degree}
use Rattle.harmonies.specs.Harmony.{decimal, integer}
use Rattle.musicxml.specs.declared.degrees.Row.{Row}

-- a degree of a value and an alter, and what its type ends with
unfoldable pub degree_text : List ℕ → List ℕ → List ℕ → List ℕ
degree_text value alter end = bytes "<degree><degree-value>" ++ value ++ bytes "</degree-value><degree-alter>" ++ alter ++ bytes "</degree-alter><degree-type>" ++ end

-- a row has the texts of a degree's value and alter
pub record IsRow (d : Degree) (row : Row) : Type 0 where
  pub value : row.0.now ≡ decimal d.value
  pub alter : row.1.now ≡ integer d.alter

-- a subtract with alter 0, unless a class is in a set
unfoldable pub subtract_where : ℕ → ℕ → List ℕ → List ℕ
subtract_where set class value = cond (has set class) [] (degree_text value (bytes "0") (bytes "subtract</degree-type></degree>"))
