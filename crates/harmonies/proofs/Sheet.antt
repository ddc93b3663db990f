-- Elements that the request names, byte by byte: one table, and one theorem.
--     sheet_holds
use Rattle.answer.proofs.Kit.{Bool, true, ◌&&◌, List, [], ◌∷◌, ℕ, T, Option, Some, None}
use Rattle.answer.specs.Words.{bytes, same}
use Rattle.harmonies.specs.Harmony.{flats, harmony_of}
use Rattle.harmonies.proofs.Computed.{harmony_computed}

-- a root, a bass or none, a set, and its element
pub record Line : Type 0 where
  pub root : ℕ
  pub bass : Option ℕ
  pub set : ℕ
  pub found : List ℕ

pub sheet : List Line
sheet =
    record { root = 0; bass = None; set = 145; found = bytes "<harmony><root><root-step>C</root-step></root><kind>major</kind></harmony>" }
    ∷ record { root = 0; bass = None; set = 73; found = bytes "<harmony><root><root-step>C</root-step></root><kind>diminished</kind></harmony>" }
    ∷ record { root = 0; bass = None; set = 585; found = bytes "<harmony><root><root-step>C</root-step></root><kind>diminished-seventh</kind></harmony>" }
    ∷ record { root = 6; bass = None; set = 693; found = bytes "<harmony><root><root-step>G</root-step><root-alter>-1</root-alter></root><kind>major-sixth</kind><degree><degree-value>9</degree-value><degree-alter>0</degree-alter><degree-type>add</degree-type></degree><degree><degree-value>11</degree-value><degree-alter>0</degree-alter><degree-type>add</degree-type></degree></harmony>" }
    ∷ record { root = 1; bass = None; set = 1177; found = bytes "<harmony><root><root-step>D</root-step><root-alter>-1</root-alter></root><kind>dominant</kind><degree><degree-value>9</degree-value><degree-alter>1</degree-alter><degree-type>add</degree-type></degree></harmony>" }
    ∷ record { root = 0; bass = Some 4; set = 81; found = bytes "<harmony><root><root-step>C</root-step></root><kind>major</kind><bass><bass-step>E</bass-step></bass><degree><degree-value>5</degree-value><degree-alter>-1</degree-alter><degree-type>add</degree-type></degree><degree><degree-value>5</degree-value><degree-alter>0</degree-alter><degree-type>subtract</degree-type></degree></harmony>" }
    ∷ record { root = 0; bass = None; set = 1297; found = bytes "<harmony><root><root-step>C</root-step></root><kind>dominant</kind><degree><degree-value>13</degree-value><degree-alter>-1</degree-alter><degree-type>add</degree-type></degree><degree><degree-value>5</degree-value><degree-alter>0</degree-alter><degree-type>subtract</degree-type></degree></harmony>" }
    ∷ record { root = 10; bass = Some 3; set = 3345; found = bytes "<harmony><root><root-step>B</root-step><root-alter>-1</root-alter></root><kind>dominant</kind><bass><bass-step>E</bass-step><bass-alter>-1</bass-alter></bass><degree><degree-value>7</degree-value><degree-alter>1</degree-alter><degree-type>add</degree-type></degree><degree><degree-value>13</degree-value><degree-alter>-1</degree-alter><degree-type>add</degree-type></degree><degree><degree-value>5</degree-value><degree-alter>0</degree-alter><degree-type>subtract</degree-type></degree></harmony>" }
    ∷ record { root = 0; bass = None; set = 257; found = bytes "<harmony><root><root-step>C</root-step></root><kind>augmented</kind><degree><degree-value>3</degree-value><degree-alter>0</degree-alter><degree-type>subtract</degree-type></degree></harmony>" }
    ∷ record { root = 0; bass = Some 0; set = 145; found = bytes "<harmony><root><root-step>C</root-step></root><kind>major</kind><bass><bass-step>C</bass-step></bass></harmony>" }
    ∷ []

pub holds : List Line → Bool
holds [] = true
holds (l ∷ more) = same (harmony_of flats l.root l.bass l.set) l.found && holds more

pub sheet_holds : T (holds sheet)
unfolding harmony_computed sheet holds
sheet_holds = tt
