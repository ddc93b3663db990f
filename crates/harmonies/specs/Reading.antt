-- A `harmony` element read, by the names of its parts: MusicXML 4.0, `harmony`, `root`, `kind`, `bass`, `degree`.
use Rattle.std.specs.Prelude.{Bool, false, cond, ◌||◌, List, [], ◌∷◌, ℕ, ◌+◌, ◌-◌, ◌*◌, eqb, ℤ, pos, neg_ℤ, ◌+ℤ◌, Option, Some, None}
use Prim.Native.String.{String}
use Rattle.answer.specs.Words.{bytes, same}
use Rattle.notes.specs.Notes.{natural, mod12}
use Rattle.harmonies.specs.Xml.{Elements, none, element}
use Rattle.harmonies.specs.Scanning.{elements_of}
use Rattle.harmonies.specs.Degrees.{Degree}
use Rattle.harmonies.specs.Chords.{tones_of, sounding}

-- what is in the first element of a name
unfoldable pub inside : String → Elements → Elements
inside wanted none = none
inside wanted (element name text within behind) = cond (same (bytes wanted) name) within (inside wanted behind)

-- the text of the first element of a name
unfoldable pub text_in : String → Elements → List ℕ
text_in wanted none = []
text_in wanted (element name text within behind) = cond (same (bytes wanted) name) text (text_in wanted behind)

-- there is an element of a name
unfoldable pub is_there : String → Elements → Bool
is_there wanted none = false
is_there wanted (element name text within behind) = same (bytes wanted) name || is_there wanted behind

-- decimal digits behind a number
unfoldable pub digits_from : ℕ → List ℕ → ℕ
digits_from n [] = n
digits_from n (d ∷ more) = digits_from (10 * n + (d - 48)) more

-- a text as a number: no text is 0
unfoldable pub number_of : List ℕ → ℕ
number_of t = digits_from 0 t

-- a text as an integer, negative behind a `-`: no text is 0
unfoldable pub integer_of : List ℕ → ℤ
integer_of [] = pos 0
integer_of (b ∷ more) = cond (eqb b 45) (neg_ℤ (pos (number_of more))) (pos (number_of (b ∷ more)))

-- the place of a text of one letter among some letters
unfoldable pub place_of : List ℕ → List ℕ → ℕ
place_of [] t = 0
place_of (l ∷ more) t = cond (same t (l ∷ [])) 0 (1 + place_of more t)

-- the class of a step and an alter, by these names
unfoldable pub class_in : String → String → Elements → ℕ
class_in step alter es = mod12 (pos (natural (place_of (bytes "CDEFGAB") (text_in step es))) +ℤ integer_of (text_in alter es))

-- the bass, where there is one
unfoldable pub bass_in : Elements → Option ℕ
bass_in es = cond (is_there "bass" es) (Some (class_in "bass-step" "bass-alter" (inside "bass" es))) None

-- a degree, from what is in its element
abbrev pub degree_in : Elements → Degree
degree_in es =
    record { value = number_of (text_in "degree-value" es); alter = integer_of (text_in "degree-alter" es); type = text_in "degree-type" es }

-- the degrees, in their order
unfoldable pub degrees_in : Elements → List Degree
degrees_in none = []
degrees_in (element name text within behind) = cond (same (bytes "degree") name) (degree_in within ∷ degrees_in behind) (degrees_in behind)

-- what an element tells: a root class, a bass class or none, and a set of classes above the root
pub record Harmony : Type 0 where
  pub root : ℕ
  pub bass : Option ℕ
  pub set : ℕ

-- from what is in the element
unfoldable pub harmony_in : Elements → Harmony
harmony_in es =
    record {
      root = class_in "root-step" "root-alter" (inside "root" es);
      bass = bass_in es;
      set = sounding (tones_of (text_in "kind" es)) (degrees_in es);
    }

-- from its bytes
unfoldable pub read_harmony : List ℕ → Harmony
read_harmony t = harmony_in (inside "harmony" (elements_of t))
