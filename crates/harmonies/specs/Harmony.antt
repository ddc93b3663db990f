-- The `harmony` element of a rooted set on a root class, over a bass class or none: paper 02, Q-2, for any table of the classes as notes.
use Rattle.std.specs.Prelude.{cond, List, [], ◌∷◌, ◌++◌, map, ℕ, suc, ◌+◌, ◌/◌, ◌%◌, leb, ℤ, pos, negsuc, get_or, Option, Some, None}
use Prim.Native.String.{String}
use Rattle.answer.specs.Words.{bytes}
use Rattle.notes.specs.NoteText.{letter_name}
use Rattle.notes.specs.declared.note.Note.{Note}
-- the code's table, passed on to those that cite the element
pub use Rattle.names.specs.Names.{flats}
use Rattle.rules.specs.Parts.{suffix_quality}
use Rattle.harmonies.specs.Xml.{Elements, none, ◌then◌, leaf, node, written}
use Rattle.harmonies.specs.Degrees.{Degree}
use Rattle.harmonies.specs.Kinds.{kind_of, degrees_of}

-- a number below 100 in decimal
unfoldable pub decimal : ℕ → List ℕ
decimal n = cond (leb n 9) [] ((48 + n / 10) ∷ []) ++ ((48 + n % 10) ∷ [])

-- an integer between -100 and 100
unfoldable pub integer : ℤ → List ℕ
integer (pos n) = decimal n
integer (negsuc n) = bytes "-" ++ decimal (suc n)

-- an accidental: "a root or bass alter of 0 is left out"
abbrev pub altered : String → Option ℤ → Elements
altered name None = none
altered name (Some count) = leaf name (integer count)

-- a note as step and alter, by these names
abbrev pub pitch : String → String → Note → Elements
pitch step alter note = leaf step (letter_name note.letter ∷ []) then altered alter note.accidental

-- a class as its note in a table; a number past the table has none
abbrev pub pitch_of : String → String → List Note → ℕ → Elements
pitch_of step alter table class = get_or (map (pitch step alter) table) class none

-- the root
abbrev pub root_of : List Note → ℕ → Elements
root_of table root = node "root" (pitch_of "root-step" "root-alter" table root)

-- the bass: "A bass that is handed in is written, whatever it is"
abbrev pub bass_of : List Note → Option ℕ → Elements
bass_of table None = none
bass_of table (Some bass) = node "bass" (pitch_of "bass-step" "bass-alter" table bass)

-- a degree: "a degree's alter never" is left out
abbrev pub degree : Degree → Elements
degree d =
    node "degree"
    (leaf "degree-value" (decimal d.value) then leaf "degree-alter" (integer d.alter) then leaf "degree-type" d.type)

-- degrees in a row
unfoldable pub degrees : List Degree → Elements
degrees [] = none
degrees (d ∷ more) = degree d then degrees more

-- "Order inside: root, kind, bass, degrees"
unfoldable pub harmony : List Note → ℕ → Option ℕ → ℕ → Elements
harmony table root bass s =
    node "harmony" (root_of table root then leaf "kind" (kind_of (suffix_quality s)).name then bass_of table bass then degrees (degrees_of s))

-- its bytes
unfoldable pub harmony_of : List Note → ℕ → Option ℕ → ℕ → List ℕ
harmony_of table root bass s = written (harmony table root bass s)

-- "the longest has 1,147 bytes": proofs/Long.antt has the theorem
abbrev pub longest : ℕ
longest = 1147
