-- Texts of at most seven bytes as one number each, and how a word is stored.
use Rattle.std.specs.Prelude.{Bool, true, false, cond, ◌&&◌, List, ◌++◌, ℕ, zero, suc, ◌+◌, ◌*◌, ◌/◌, ◌%◌, ◌^◌, eqb, leb, length, take, drop}
use mathlib.Core.List as list
use Prim.Native.Char.{code}
use Prim.Native.String.{String, [], ◌∷◌}

-- a quoted text as the list of its bytes
unfoldable pub bytes : String → List ℕ
bytes [] = list.[]
bytes (c ∷ more) = list.◌∷◌ (code c) (bytes more)

-- two texts are the same
unfoldable pub same : List ℕ → List ℕ → Bool
same list.[] list.[] = true
same list.[] (list.◌∷◌ b more) = false
same (list.◌∷◌ a rest) list.[] = false
same (list.◌∷◌ a rest) (list.◌∷◌ b more) = eqb a b && same rest more

-- bytes as the digits of a number, the lowest first
unfoldable pub low : List ℕ → ℕ
low list.[] = 0
low (list.◌∷◌ b more) = b + 256 * low more

-- a text's word: its bytes from the lowest up, and their number in the eighth
unfoldable pub packed : List ℕ → ℕ
packed t = low t + 256 ^ 7 * length t

-- the lowest n bytes of a number, the lowest first
unfoldable pub digits : ℕ → ℕ → List ℕ
digits zero w = list.[]
digits (suc n) w = list.◌∷◌ (w % 256) (digits n (w / 256))

-- how many bytes a word's text has
abbrev pub long : ℕ → ℕ
long w = w / 256 ^ 7

-- a buffer has eight bytes at a place
abbrev pub has_room : List ℕ → ℕ → Bool
has_room buffer at = leb (at + 8) (length buffer)

-- the place behind a word's text
unfoldable pub place_after : List ℕ → ℕ → ℕ → ℕ
place_after buffer at word = cond (has_room buffer at) (at + long word) at

-- the buffer with a word's eight bytes at a place
unfoldable pub put_at : List ℕ → ℕ → ℕ → List ℕ
put_at buffer at word = cond (has_room buffer at) (take at buffer ++ digits 8 word ++ drop (at + 8) buffer) buffer

-- the text of a word
unfoldable pub text_of : ℕ → List ℕ
text_of word = take (long word) (digits 8 word)
