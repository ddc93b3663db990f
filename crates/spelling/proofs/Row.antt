-- The row that `tones` makes, a space and a tone's name for each interval, for any table of degrees.
--     tone_given     on a note an interval's tone is not refused
--     turn           a turn of the loop: a space and the next tone
--     row_some, row_long, given     how long the row is, and its names joined
use Rattle.answer.proofs.Kit.{◌≡◌, refl, sym, ap, ◌∙◌, true, List, [], ◌∷◌, ◌++◌, append_assoc, ℕ, ◌+◌, ◌*◌, ◌≤◌, arith, cond, length, drop, length-append, lt-ltb, le-leb, Ok}
use Rattle.answer.specs.Words.{bytes, packed}
use Rattle.answer.specs.Made.{with_byte, with_word}
use Rattle.answer.proofs.Digits.{short_length}
use Rattle.answer.proofs.Texts.{word_text}
use Rattle.intervals.specs.Intervals.{semitones_of, numeric_of}
use Rattle.intervals.specs.declared.interval.Interval.{Interval}
use Rattle.intervals.specs.declared.interval.IntDegree.{IntDegree}
use Rattle.notes.specs.Notes.{is_note, get_note_answer}
use Rattle.notes.specs.NoteText.{signs, note_name}
use Rattle.notes.specs.declared.note.Note.{Note}
use Rattle.notes.proofs.Sounding.{move_is}
use Rattle.spelling.specs.Tones.{tone_of, tone_name, tone_names, spaced, joined}
use Rattle.spelling.proofs.Spelled.{move_given, interval_moves, tone_short}

-- the row of some intervals
abbrev pub row_of : (Interval → IntDegree) → Note → List Interval → List ℕ
row_of degrees root found = spaced (tone_names degrees root found)

-- what `to_word` tells of a note
abbrev word_of : Note → ℕ
word_of n = cond (is_note n) (packed (note_name signs n)) 0

module _ (degrees : Interval → IntDegree) (root : Note) where
  pub tone_given : is_note root ≡ true → (i : Interval) → get_note_answer root (semitones_of i) (numeric_of (degrees i)) ≡ Ok (tone_of degrees root i)
  unfolding tone_of
  tone_given is i = move_given root (semitones_of i) (numeric_of (degrees i)) is (interval_moves degrees i)

  word_is : (i : Interval) → word_of (tone_of degrees root i) ≡ packed (tone_name degrees root i)
  unfolding tone_of tone_name
  word_is i = rw (move_is root (semitones_of i) (numeric_of (degrees i))) refl

  -- a row in a memory that has room for the whole of it, and for eight bytes more
  module _ (n : ℕ) (whole : List ℕ) (room : length whole + 8 ≤ n) (row : List ℕ) (i : Interval) (more : List Interval)
      (so_far : row ++ row_of degrees root (i ∷ more) ≡ whole) where
    pub turn : with_word n (with_byte n row 32) (word_of (tone_of degrees root i)) ++ row_of degrees root more ≡ whole
    unfolding spaced bytes
    turn =
        let long : length row + length (row_of degrees root (i ∷ more)) ≡ length whole = sym (length-append row _) ∙ ap length so_far in
        let space : with_byte n row 32 ≡ row ++ (32 ∷ []) = rw (lt-ltb (length row) n (omega (arith, long, room))) refl in
        let roomy : length (row ++ (32 ∷ [])) + 8 ≤ n = simp length-append (omega (arith, long, room)) in
        rw (space, word_is i, le-leb _ _ roomy, word_text _ (tone_short degrees root i)) (simp append_assoc so_far)

  -- at most eight bytes for each interval
  pub row_long : (found : List Interval) → length (row_of degrees root found) ≤ 8 * length found
  unfolding spaced bytes
  row_long [] = omega arith
  row_long (i ∷ more) =
      let short = short_length _ (tone_short degrees root i) in
      simp length-append (omega (arith, short, row_long more))

  -- a row of some intervals has a byte
  pub row_some : (found : List Interval) → 1 ≤ length found → 1 ≤ length (row_of degrees root found)
  unfolding spaced bytes
  row_some [] h = h
  row_some (i ∷ more) h = omega arith

-- a row without its first byte is the names joined
pub given : (names : List (List ℕ)) → drop 1 (spaced names) ≡ joined names
unfolding spaced joined bytes
given [] = refl
given (name ∷ more) = refl
