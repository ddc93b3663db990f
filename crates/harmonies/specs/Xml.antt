-- XML, as far as MusicXML's `harmony` needs it: elements with a text or other elements in them. "No white space", and no attributes.
use Rattle.std.specs.Prelude.{List, [], ◌++◌, ℕ}
use Prim.Native.String.{String}
use Rattle.answer.specs.Words.{bytes}

-- elements in a row: the first one's name, its text and what is in it, and those behind it
pub data Elements : Type 0 where
  none : Elements
  element : List ℕ → List ℕ → Elements → Elements → Elements

-- a row behind another
infixl 5 ◌then◌
unfoldable pub ◌then◌ : Elements → Elements → Elements
none then more = more
(element name text inside behind) then more = element name text inside (behind then more)

-- one element with a text in it
abbrev pub leaf : String → List ℕ → Elements
leaf name text = element (bytes name) text none none

-- one element with others in it
abbrev pub node : String → Elements → Elements
node name inside = element (bytes name) [] inside none

-- a row as bytes: each element between its tags
unfoldable pub written : Elements → List ℕ
written none = []
written (element name text inside behind) =
    bytes "<" ++ name ++ bytes ">" ++ text ++ written inside ++ bytes "</" ++ name ++ bytes ">" ++ written behind
