-- Signs of accidentals as a player reads them.
--     sharps_written   one to six sharps, as the request has them
--     signs_read       any count is read back from its signs
--     same_name        so no two notes have one name
use Rattle.answer.proofs.Kit.{◌≡◌, refl, sym, ap, ◌∙◌, Bool, true, not, ◌||◌, List, [], ◌∷◌, ◌++◌, map, ℕ, zero, suc, ◌+◌, ◌*◌, ◌/◌, ◌%◌, ◌<◌, arith, eqb, eqb→eq, eq-eqb, replicate, get_or, drop, ℤ, pos, negsuc}
use Rattle.answer.specs.Words.{bytes}
use Rattle.answer.proofs.Tests.{all, at}
use Rattle.notes.specs.Notes.{count_of, is_note}
use Rattle.notes.specs.NoteText.{letter_name, byte, signs, note_name}
use Rattle.notes.specs.Reading.{worth, read_in}
use Rattle.notes.specs.declared.note.Note.{Note}
use Rattle.notes.proofs.Moves.{letter_less}

pub sharps_written : map (λ (n : ℕ). signs (pos n)) (1 ∷ 2 ∷ 3 ∷ 4 ∷ 5 ∷ 6 ∷ [])
    ≡ bytes "#" ∷ bytes "x" ∷ bytes "#x" ∷ bytes "xx" ∷ bytes "#xx" ∷ bytes "xxx" ∷ []
unfolding signs bytes
sharps_written = refl

doubles : (n : ℕ) → read_in (replicate n (byte (bytes "x"))) ≡ pos (2 * n)
unfolding read_in worth bytes
doubles zero = refl
doubles (suc n) = rw (doubles n) (ap pos (omega arith))

singles : (n k : ℕ) (behind : List ℕ) → read_in behind ≡ pos k → read_in (replicate n (byte (bytes "#")) ++ behind) ≡ pos (n + k)
unfolding read_in worth bytes
singles zero k behind e = e ∙ ap pos (omega arith)
singles (suc n) k behind e = rw (singles n k behind e) (ap pos (omega arith))

flats : (n : ℕ) → read_in (replicate (suc n) (byte (bytes "b"))) ≡ negsuc n
unfolding read_in worth bytes
flats zero = refl
flats (suc n) = rw (flats n) (ap negsuc (omega arith))

pub signs_read : (count : ℤ) → read_in (signs count) ≡ count
unfolding signs
signs_read (pos n) = singles (n % 2) (2 * (n / 2)) _ (doubles (n / 2)) ∙ ap pos (omega arith)
signs_read (negsuc n) = flats n

-- letters are told by their bytes
apart : ℕ → ℕ → Bool
apart l k = not (eqb (letter_name l) (letter_name k)) || eqb l k

letters : (l k : ℕ) → l < 7 → k < 7 → letter_name l ≡ letter_name k → l ≡ k
unfolding all apart letter_name bytes
letters l k hl hk e = eqb→eq l k (rw (eq-eqb (letter_name l) (letter_name k) e) at (at (apart l) 7 (at (λ l. all (apart l) 7) 7 tt l hl) k hk))

pub same_name : (m n : Note) → is_note m ≡ true → is_note n ≡ true → note_name signs m ≡ note_name signs n
    → (m.letter ≡ n.letter) × (count_of m.accidental ≡ count_of n.accidental)
unfolding note_name
same_name m n is also e = (
  letters m.letter n.letter (letter_less m is) (letter_less n also) (ap (λ (t : List ℕ). get_or t 0 0) e),
  sym (signs_read (count_of m.accidental)) ∙ ap (λ (t : List ℕ). read_in (drop 1 t)) e ∙ signs_read (count_of n.accidental),
)
