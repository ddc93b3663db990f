-- Texts in parts: the codes of a line, the lines of an input.
use Rattle.std.specs.Prelude.{cond, List, [], ◌∷◌, ◌++◌, ℕ, eqb}

-- parts with a byte in front of the first
unfoldable pub with_byte : ℕ → List (List ℕ) → List (List ℕ)
with_byte byte [] = (byte ∷ []) ∷ []
with_byte byte (part ∷ more) = (byte ∷ part) ∷ more

-- the parts of a text before each separator and behind the last; `none` are those of no bytes
unfoldable pub parts : List (List ℕ) → ℕ → List ℕ → List (List ℕ)
parts none separator [] = none
parts none separator (byte ∷ more) =
    cond (eqb byte separator) ([] ∷ parts none separator more) (with_byte byte (parts none separator more))

-- texts in a row, one separator between
unfoldable pub joined : ℕ → List (List ℕ) → List ℕ
joined separator [] = []
joined separator (part ∷ []) = part
joined separator (part ∷ next ∷ more) = part ++ separator ∷ joined separator (next ∷ more)
