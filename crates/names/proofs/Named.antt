-- Laws of tables of notes.
use Rattle.answer.proofs.Kit.{◌≡◌, refl, sym, ap, ◌∙◌, Bool, true, true≢false, ◌&&◌, List, [], ◌∷◌, map, ℕ, zero, suc, ◌≤◌, arith, T, eqb, leb, leb→le, length, get_or, Ok, Err}
use Rattle.answer.specs.Words.{bytes}
use Rattle.answer.specs.Lines.{line_feeds}
use Rattle.answer.specs.declared.refusal.Refusal.{Refusal}
use Rattle.answer.specs.declared.refusal.Refusal.TheVariants.{BadClass}
use Rattle.answer.proofs.Digits.{is_short, are_bytes}
use Rattle.answer.proofs.Tests.{left, right, is_true}
use Rattle.notes.specs.Notes.{is_note, semitone}
use Rattle.notes.specs.NoteText.{letter_name, signs, note_name}
use Rattle.notes.specs.declared.note.Note.{Note}
use Rattle.notes.proofs.Names as text
use Rattle.names.specs.declared.table.Names.{Names}
use Rattle.names.specs.declared.table.Names.TheVariants.{Flats, Sharps}
use Rattle.names.specs.Names.{flats, sharps, table_of, name_of, note_in}

-- a note whose text has at most two bytes
abbrev is_brief : Note → Bool
is_brief n = is_note n && leb (length (note_name signs n)) 2

-- a table of such notes: what stands above holds for any
unfoldable pub are_brief : List Note → Bool
are_brief [] = true
are_brief (n ∷ more) = is_brief n && are_brief more

-- the twelve as paper 01 writes them
pub flats_read : map (note_name signs) flats
    ≡ bytes "C" ∷ bytes "Db" ∷ bytes "D" ∷ bytes "Eb" ∷ bytes "E" ∷ bytes "F" ∷ bytes "Gb" ∷ bytes "G" ∷ bytes "Ab" ∷ bytes "A" ∷ bytes "Bb"
    ∷ bytes "B" ∷ []
unfolding flats note_name letter_name signs bytes
flats_read = refl

-- and as paper 02 has them, Q-9
pub sharps_read : map (note_name signs) sharps
    ≡ bytes "C" ∷ bytes "C#" ∷ bytes "D" ∷ bytes "D#" ∷ bytes "E" ∷ bytes "F" ∷ bytes "F#" ∷ bytes "G" ∷ bytes "G#" ∷ bytes "A" ∷ bytes "A#"
    ∷ bytes "B" ∷ []
unfolding sharps note_name letter_name signs bytes
sharps_read = refl

pub table_brief : (names : Names) → T (are_brief (table_of names))
unfolding are_brief flats sharps note_name letter_name signs bytes
table_brief Flats = tt
table_brief Sharps = tt

pub flats_brief : T (are_brief flats)
flats_brief = table_brief Flats

-- each of a table's notes sounds the class at whose place it stands, and they are twelve
unfoldable pub sounds_from : ℕ → List Note → Bool
sounds_from k [] = eqb k 12
sounds_from k (n ∷ more) = eqb (semitone n) k && sounds_from (suc k) more

-- so both names of a black key are that key's
pub table_sounds : (names : Names) → T (sounds_from 0 (table_of names))
unfolding sounds_from flats sharps semitone
table_sounds Flats = tt
table_sounds Sharps = tt

length-get_or : (l : List (List ℕ)) (c : ℕ) → length (get_or l c []) ≡ get_or (map length l) c 0
length-get_or [] c = refl
length-get_or (t ∷ more) zero = refl
length-get_or (t ∷ more) (suc c) = length-get_or more c

lengths : (names : Names) → map length (map (note_name signs) (table_of names)) ≡ map length (map (note_name signs) flats)
unfolding flats sharps note_name letter_name signs bytes
lengths Flats = refl
lengths Sharps = refl

-- a name is as long in one table as in the other
pub as_long : (names : Names) (c : ℕ) → length (name_of (table_of names) c) ≡ length (name_of flats c)
as_long names c =
    length-get_or (map (note_name signs) (table_of names)) c ∙ ap (λ (l : List ℕ). get_or l c 0) (lengths names) ∙ sym (length-get_or (map (note_name signs) flats) c)

-- the first of a table's notes, and the others
module _ (n : Note) (more : List Note) (brief : T (are_brief (n ∷ more))) where
  first_is : is_note n ≡ true
  unfolding are_brief
  first_is = is_true (is_note n) (left (is_note n) _ (left (is_brief n) (are_brief more) brief))

  first_length : length (note_name signs n) ≤ 2
  unfolding are_brief
  first_length = leb→le (length (note_name signs n)) 2 (right (is_note n) _ (left (is_brief n) (are_brief more) brief))

  rest_brief : T (are_brief more)
  unfolding are_brief
  rest_brief = right (is_brief n) (are_brief more) brief

-- what holds of no text, and of a note's of at most two bytes, holds of each name
each_name : (P : List ℕ → Type 0) → P [] → ((n : Note) → is_note n ≡ true → length (note_name signs n) ≤ 2 → P (note_name signs n))
    → (table : List Note) → T (are_brief table) → (c : ℕ) → P (name_of table c)
each_name P none some [] t c = none
each_name P none some (n ∷ more) t zero = some n (first_is n more t) (first_length n more t)
each_name P none some (n ∷ more) t (suc c) = each_name P none some more (rest_brief n more t) c

module _ (table : List Note) (brief : T (are_brief table)) where
  pub name_short : (c : ℕ) → T (is_short (name_of table c))
  unfolding is_short are_bytes
  name_short = each_name (λ t. T (is_short t)) tt (λ n note two. text.name_short n note) table brief

  pub name_length : (c : ℕ) → length (name_of table c) ≤ 2
  name_length = each_name (λ t. length t ≤ 2) (omega arith) (λ n note two. two) table brief

  pub name_line : (c : ℕ) → line_feeds (name_of table c) ≡ 0
  unfolding line_feeds
  name_line = each_name (λ t. line_feeds t ≡ 0) refl (λ n note two. text.name_line n note) table brief

-- what a table gives for a class is a note
pub note_in_lem : (table : List Note) → T (are_brief table) → (c : ℕ) (n : Note) → note_in table c ≡ Ok n → is_note n ≡ true
note_in_lem [] t c n e = absurd (true≢false cc)
note_in_lem (m ∷ more) t zero n e = let same : m ≡ n = cc in rw same at (first_is m more t)
note_in_lem (m ∷ more) t (suc c) n e = note_in_lem more (rest_brief m more t) c n e

-- and what it refuses is refusal 2
pub none_in : (table : List Note) (c : ℕ) (why : Refusal) → note_in table c ≡ Err why → BadClass ≡ why
none_in [] c why e = cc
none_in (m ∷ more) zero why e = absurd (true≢false cc)
none_in (m ∷ more) (suc c) why e = none_in more c why e
