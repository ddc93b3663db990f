-- A note's text from the player's side, for the theorem that no count is lost in it (proofs/Signs.antt).
use Rattle.std.specs.Prelude.{cond, List, [], ◌∷◌, ℕ, eqb, ℤ, pos, negsuc, ◌+ℤ◌}
use Rattle.answer.specs.Words.{bytes}
use Rattle.notes.specs.NoteText.{byte}

-- the sharps that a sign stands for: `#` is one, `x` two, and `b` one flat
unfoldable pub worth : ℕ → ℤ
worth sign =
    cond (eqb sign (byte (bytes "#"))) (pos 1) (cond (eqb sign (byte (bytes "x"))) (pos 2) (cond (eqb sign (byte (bytes "b"))) (negsuc 0) (pos 0)))

-- those that signs stand for together
unfoldable pub read_in : List ℕ → ℤ
read_in [] = pos 0
read_in (sign ∷ more) = worth sign +ℤ read_in more
