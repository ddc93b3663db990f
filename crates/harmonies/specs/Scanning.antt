-- A text of XML taken apart, from the last byte to the first, by what XML says of tags. A text may have no attributes, comments or references.
use Rattle.std.specs.Prelude.{cond, List, [], ◌∷◌, ℕ, eqb}
use Rattle.answer.specs.Words.{same}
use Rattle.harmonies.specs.Xml.{Elements, none, element}

-- the byte `<`
abbrev pub less : ℕ
less = 60

-- the byte `>`
abbrev pub greater : ℕ
greater = 62

-- the byte `/`
abbrev pub slash : ℕ
slash = 47

-- what stands between `<` and `>`, and the text behind that, up to the next tag
pub record Tag : Type 0 where
  pub name : List ℕ
  pub text : List ℕ

-- where a scan stands: the run of bytes up to the next `<` or `>`, the text behind the tag whose name the run will be, and the tags behind
pub record Scanned : Type 0 where
  pub run : List ℕ
  pub text : List ℕ
  pub tags : List Tag

-- a tag by its parts
abbrev pub tag : List ℕ → List ℕ → Tag
tag name text = record { name = name; text = text }

-- a place of a scan by its parts
abbrev pub scanned : List ℕ → List ℕ → List Tag → Scanned
scanned run text tags = record { run = run; text = text; tags = tags }

-- one byte more: `<` ends a tag's name, `>` a text, and any other byte belongs to the run
unfoldable pub met : ℕ → Scanned → Scanned
met byte s =
    cond (eqb byte less) (scanned [] [] (tag s.run s.text ∷ s.tags))
    (cond (eqb byte greater) (scanned [] s.run s.tags)
    (scanned (byte ∷ s.run) s.text s.tags))

-- the tags of a text
unfoldable pub scan : List ℕ → Scanned
scan [] = scanned [] [] []
scan (byte ∷ more) = met byte (scan more)

-- elements on their way: those that stand in the element of a name, whose end has been met and whose beginning hasn't
pub record Row : Type 0 where
  pub within : List ℕ
  pub elements : Elements

-- such a row by its parts
abbrev pub row : List ℕ → Elements → Row
row name elements = record { within = name; elements = elements }

-- the end of an element begins a row
unfoldable pub closed : List ℕ → List Row → List Row
closed name [] = []
closed name (r ∷ rows) = row name none ∷ r ∷ rows

-- its beginning puts the innermost row into an element of the next one; tags that don't pair leave nothing
unfoldable pub opened : List ℕ → List ℕ → List Row → List Row
opened name text [] = []
opened name text (r ∷ []) = []
opened name text (r ∷ s ∷ rows) = cond (same name r.within) (row s.within (element name text r.elements s.elements) ∷ rows) []

-- a tag is an end by its `/`
unfoldable pub placed : List ℕ → List ℕ → List Row → List Row
placed [] text rows = []
placed (byte ∷ name) text rows = cond (eqb byte slash) (closed name rows) (opened (byte ∷ name) text rows)

-- the rows before some tags, the innermost first
unfoldable pub joined : List Tag → List Row
joined [] = row [] none ∷ []
joined (t ∷ more) = placed t.name t.text (joined more)

-- the one row that is left
unfoldable pub only : List Row → Elements
only [] = none
only (r ∷ []) = r.elements
only (r ∷ s ∷ rows) = none

-- the elements of a text
unfoldable pub elements_of : List ℕ → Elements
elements_of t = only (joined (scan t).tags)
