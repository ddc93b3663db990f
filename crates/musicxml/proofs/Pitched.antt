-- A class as the code writes it: one test at each of the twelve.
--     letter_byte, name_long        the byte of its letter, and how long its name is
--     root_text_lem, bass_text_lem  its element, as a root and as a bass
use Rattle.answer.proofs.Kit.{◌≡◌, Bool, ◌&&◌, List, [], ◌∷◌, ◌++◌, ℕ, ◌%◌, ◌<◌, T, eqb, eqb→eq, length, take, Some}
use Rattle.answer.specs.Words.{bytes, same, low, packed, long}
use Rattle.answer.proofs.Tests.{left, right, all, at, same→eq}
use Rattle.notes.specs.NoteText.{signs, note_name}
use Rattle.names.specs.Names.{flats, name_of}
use Rattle.harmonies.specs.Xml.{written}
use Rattle.harmonies.specs.Harmony.{root_of, bass_of}
use Rattle.harmonies.proofs.Computed.{pitches_computed}
use Rattle.musicxml.specs.private.Pitches.{named_text}

abbrev pub root_text : ℕ → List ℕ
root_text k = named_text (name_of flats k) (bytes "<harmony><root><root-step>") (bytes "</root-step>") (bytes "<root-alter>-1</root-alter>") (bytes "</root><kind>")

abbrev pub bass_text : ℕ → List ℕ
bass_text k = named_text (name_of flats k) (bytes "<bass><bass-step>") (bytes "</bass-step>") (bytes "<bass-alter>-1</bass-alter>") (bytes "</bass>")

abbrev lettered : ℕ → Bool
lettered k = same (packed (name_of flats k) % 0x100 ∷ []) (take 1 (name_of flats k))

abbrev counted : ℕ → Bool
counted k = eqb (long (packed (name_of flats k))) (length (name_of flats k))

abbrev as_root : ℕ → Bool
as_root k = same (bytes "<harmony>" ++ written (root_of flats k) ++ bytes "<kind>") (root_text k)

abbrev as_bass : ℕ → Bool
as_bass k = same (written (bass_of flats (Some k))) (bass_text k)

module _ (k : ℕ) (h : k < 12) where
  all_hold : T (lettered k && counted k && (as_root k && as_bass k))
  unfolding pitches_computed all low packed signs note_name written named_text
  all_hold = at (λ k. lettered k && counted k && (as_root k && as_bass k)) 12 tt k h

  words : T (lettered k && counted k)
  words = left (lettered k && counted k) (as_root k && as_bass k) all_hold

  texts : T (as_root k && as_bass k)
  texts = right (lettered k && counted k) (as_root k && as_bass k) all_hold

  pub letter_byte : packed (name_of flats k) % 0x100 ∷ [] ≡ take 1 (name_of flats k)
  letter_byte = same→eq _ _ (left (lettered k) (counted k) words)

  pub name_long : long (packed (name_of flats k)) ≡ length (name_of flats k)
  name_long = eqb→eq _ _ (right (lettered k) (counted k) words)

  pub root_text_lem : bytes "<harmony>" ++ written (root_of flats k) ++ bytes "<kind>" ≡ root_text k
  root_text_lem = same→eq _ _ (left (as_root k) (as_bass k) texts)

  pub bass_text_lem : written (bass_of flats (Some k)) ≡ bass_text k
  bass_text_lem = same→eq _ _ (right (as_root k) (as_bass k) texts)
