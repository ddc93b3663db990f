-- MusicXML 4.0, `degree`: what one has, be it written or read.
use Rattle.std.specs.Prelude.{List, ℕ, ℤ}

-- its value, alter and type
pub record Degree : Type 0 where
  pub value : ℕ
  pub alter : ℤ
  pub type : List ℕ
