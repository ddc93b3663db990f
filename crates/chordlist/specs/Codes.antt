-- The codes of a line: paper 01, program `chordlist`.
use Rattle.std.specs.Prelude.{◌≡◌, Bool, true, cond, ◌&&◌, List, [], ◌∷◌, map, ℕ, ◌+◌, ◌-◌, ◌*◌, leb, ltb, length, Option, Some, None}
use Rattle.chordlist.specs.Parts.{parts, joined}

-- the bytes `0`, `9` and space
abbrev pub digit0 : ℕ
digit0 = 48

abbrev pub digit9 : ℕ
digit9 = 57

abbrev pub space : ℕ
space = 32

-- "digits"
abbrev pub is_digit : ℕ → Bool
is_digit byte = leb digit0 byte && leb byte digit9

-- each byte of a text is a digit
unfoldable pub are_digits : List ℕ → Bool
are_digits [] = true
are_digits (byte ∷ more) = is_digit byte && are_digits more

-- "decimal": the number that some digits behind a number make
unfoldable pub decimal : ℕ → List ℕ → ℕ
decimal number [] = number
decimal number (digit ∷ more) = decimal (number * 10 + (digit - digit0)) more

-- "decimal codes 0..255 of one to three digits"
unfoldable pub is_code : List ℕ → Bool
is_code part = ltb 0 (length part) && leb (length part) 3 && are_digits part && leb (decimal 0 part) 255

-- each of some texts is a code
unfoldable pub are_codes : List (List ℕ) → Bool
are_codes [] = true
are_codes (text ∷ more) = is_code text && are_codes more

-- a line is the texts of codes, "one space between": `codes_in` below reads exactly these, a theorem (proofs/Spaced.antt)
pub record Spaced (line codes : List ℕ) : Type 0 where
  pub texts : List (List ℕ)
  pub each : are_codes texts ≡ true
  pub between : joined space texts ≡ line
  pub worth : map (decimal 0) texts ≡ codes

-- what a line holds, its codes or nothing that can be read, with a code in front
unfoldable pub with_code : ℕ → Option (List ℕ) → Option (List ℕ)
with_code code None = None
with_code code (Some codes) = Some (code ∷ codes)

-- the codes of parts, each of which has to be one
unfoldable pub codes_of : List (List ℕ) → Option (List ℕ)
codes_of [] = Some []
codes_of (part ∷ more) = cond (is_code part) (with_code (decimal 0 part) (codes_of more)) None

-- "one space between": before each space and behind it stands a code. An empty line has none
unfoldable pub codes_in : List ℕ → Option (List ℕ)
codes_in [] = Some []
codes_in (byte ∷ more) = codes_of (parts ([] ∷ []) space (byte ∷ more))
