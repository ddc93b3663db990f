-- A text in the making, in a memory of n bytes.
use Rattle.std.specs.Prelude.{◌≡◌, cond, List, [], ◌∷◌, ◌++◌, ℕ, ◌+◌, leb, ltb, length}
use Rattle.answer.specs.Words.{text_of}

-- a text with a word's text behind it: a word is stored whole, and asks for eight bytes
abbrev pub with_word : ℕ → List ℕ → ℕ → List ℕ
with_word n t word = cond (leb (length t + 8) n) (t ++ text_of word) t

-- a text with a byte behind it
abbrev pub with_byte : ℕ → List ℕ → ℕ → List ℕ
with_byte n t byte = cond (ltb (length t) n) (t ++ (byte ∷ [])) t

-- a text with bytes behind it
abbrev pub with_bytes : ℕ → List ℕ → List ℕ → List ℕ
with_bytes n t bytes = cond (leb (length t + length bytes) n) (t ++ bytes) t

-- what a text is after that
pub record IsWithBytes (n : ℕ) (t bytes t' : List ℕ) : Type 0 where
  pub is : t' ≡ with_bytes n t bytes
