-- On which letters spelled tones stand.
--     by_degrees       whatever the root and the table of degrees: two tones share a letter exactly where their degrees are the same but for octaves
--     crowded_exactly  which rooted sets have two tones on one letter: one test, at each of the 2,048
--     chord_stands     the triads, sixths and sevenths of the eleven qualities, on any root: each shows its quality, stands on the letters 1 3 5, and 6 or 7,
--                      counted from the root's, and no two of its tones share one
use Rattle.answer.proofs.Kit.{◌≡◌, refl, sym, ap, ap₂, ◌∙◌, Bool, true, false, true≢false, not, ◌&&◌, ◌||◌, List, [], ◌∷◌, map, ℕ, ◌%◌, ◌≤◌, arith, T, eqb, leb, leb→le, eqb-true, eqb-false, eq-eqb, ne_eqb}
use Rattle.answer.specs.Words.{same}
use Rattle.answer.proofs.Tests.{left, right, said, same→eq}
use Rattle.intervals.specs.Sets.{is_in, is_set, is_rooted, has_all, has_none}
use Rattle.intervals.specs.Intervals.{semitones_of, numeric_of}
use Rattle.intervals.specs.declared.interval.Interval.{Interval}
use Rattle.intervals.specs.declared.interval.IntDegree.{IntDegree}
use Rattle.intervals.proofs.Rooted.{at_rooted}
use Rattle.notes.specs.Notes.{letter_at, spelled, get_note}
use Rattle.notes.specs.declared.note.Note.{Note}
use Rattle.qualities.specs.declared.quality.ChordQuality.{ChordQuality}
use Rattle.qualities.specs.declared.quality.ChordQuality.TheVariants.{Maj, Maj6, Maj7, Dominant7, Mi, Mi6, Mi7, MiMaj7, Augmented, Diminished, Diminished7, Power, Bass}
use Rattle.rules.specs.Classes.{intervals_of}
use Rattle.rules.specs.Parts.{suffix_quality}
use Rattle.rules.proofs.Agree.{same_bool, same_bool→eq}
use Rattle.rules.proofs.Computed.{classes_computed, named_computed}
use Rattle.spelling.specs.Tones.{spelled_by, tone_of}
use Rattle.spelling.specs.Letters.{letters_of, are_apart, is_shown, chord_of, degrees_in, two_ninths, two_elevenths, two_fifths, has_low_seventh, two_sixths, two_sevenths, is_crowded}
use Rattle.spelling.proofs.Spelled.{interval_moves}

-- degrees are counted from 1
from_one : (degrees : Interval → IntDegree) (i : Interval) → 1 ≤ numeric_of (degrees i)
from_one degrees i =
    let d = numeric_of (degrees i) in
    leb→le 1 d (right (leb (semitones_of i) 24) (leb 1 d) (left (leb (semitones_of i) 24 && leb 1 d) (leb d 14) (said _ (interval_moves degrees i))))

-- two degrees above one letter
same_letter : (l d e : ℕ) → 1 ≤ d → 1 ≤ e → eqb (letter_at l d) (letter_at l e) ≡ eqb (d % 7) (e % 7)
same_letter l d e hd he = by_degree (eqb (d % 7) (e % 7)) refl
  where
    by_degree : (b : Bool) → eqb (d % 7) (e % 7) ≡ b → eqb (letter_at l d) (letter_at l e) ≡ b
    by_degree true is = let same = eqb-true (d % 7) (e % 7) is in eq-eqb (letter_at l d) (letter_at l e) (omega (arith, same, hd, he))
    by_degree false is = ne_eqb (letter_at l d) (letter_at l e) (λ same. eqb-false (d % 7) (e % 7) is (omega (arith, same, hd, he)))

module _ (degrees : Interval → IntDegree) (root : Note) where
  abbrev letter : Interval → ℕ
  letter i = (tone_of degrees root i).letter

  abbrev number : Interval → ℕ
  number i = numeric_of (degrees i)

  abbrev degree : Interval → ℕ
  degree i = number i % 7

  on_degrees : (found : List Interval) → map letter found ≡ map (letter_at root.letter) (map number found)
  unfolding tone_of get_note spelled
  on_degrees [] = refl
  on_degrees (i ∷ more) = ap (λ (l : List ℕ). letter i ∷ l) (on_degrees more)

  letters_on : (s : ℕ) (l : List ℕ) → map number (intervals_of s) ≡ l → letters_of degrees root s ≡ map (letter_at root.letter) l
  unfolding letters_of
  letters_on s l e = on_degrees (intervals_of s) ∙ ap (map (letter_at root.letter)) e

  is_in_lem : (i : Interval) (found : List Interval) → is_in (letter i) (map letter found) ≡ is_in (degree i) (map degree found)
  unfolding is_in tone_of get_note spelled
  is_in_lem i [] = refl
  is_in_lem i (j ∷ more) = ap₂ ◌||◌ (same_letter root.letter (number i) (number j) (from_one degrees i) (from_one degrees j)) (is_in_lem i more)

  apart : (found : List Interval) → are_apart (map letter found) ≡ are_apart (map degree found)
  unfolding are_apart
  apart [] = refl
  apart (i ∷ more) = ap₂ (λ (a b : Bool). not a && b) (is_in_lem i more) (apart more)

  pub by_degrees : (s : ℕ) → are_apart (letters_of degrees root s) ≡ are_apart (map degree (intervals_of s))
  unfolding letters_of
  by_degrees s = apart (intervals_of s)

-- what is computed of a set's letters
unfoldable crowded_computed : Unit {0}
unfolding classes_computed has_all has_none are_apart two_ninths two_elevenths two_fifths has_low_seventh two_sixths two_sevenths is_crowded
crowded_computed = tt

abbrev apart_as_said : ℕ → Bool
apart_as_said s = same_bool (are_apart (map (λ i. numeric_of (spelled_by i) % 7) (intervals_of s))) (not (is_crowded s))

each_as_said : (s : ℕ) → is_rooted s ≡ true → T (apart_as_said s)
unfolding crowded_computed
each_as_said = at_rooted apart_as_said tt

pub crowded_exactly : (root : Note) (s : ℕ) → is_rooted s ≡ true → are_apart (letters_of spelled_by root s) ≡ not (is_crowded s)
crowded_exactly root s is = by_degrees spelled_by root s ∙ same_bool→eq _ _ (each_as_said s is)

-- the triad of a quality, with its sixth or seventh, above a root
pub record Stands (root : Note) (q : ChordQuality) : Type 0 where
  pub shows : suffix_quality (chord_of q) ≡ q
  pub letters : letters_of spelled_by root (chord_of q) ≡ map (letter_at root.letter) (degrees_in q)
  pub apart : are_apart (letters_of spelled_by root (chord_of q)) ≡ true

stands : (root : Note) (q : ChordQuality) → suffix_quality (chord_of q) ≡ q → T (same (map (λ i. numeric_of (spelled_by i)) (intervals_of (chord_of q))) (degrees_in q))
    → is_rooted (chord_of q) ≡ true → is_crowded (chord_of q) ≡ false → Stands root q
stands root q is on rooted uncrowded =
    record {
      shows = is;
      letters = letters_on spelled_by root (chord_of q) (degrees_in q) (same→eq _ _ on);
      apart = crowded_exactly root (chord_of q) rooted ∙ ap not uncrowded;
    }

pub chord_stands : (root : Note) (q : ChordQuality) → is_shown q ≡ true → Stands root q
unfolding crowded_computed named_computed is_set is_rooted
chord_stands root Maj h = stands root Maj refl tt refl refl
chord_stands root Maj6 h = stands root Maj6 refl tt refl refl
chord_stands root Maj7 h = stands root Maj7 refl tt refl refl
chord_stands root Dominant7 h = stands root Dominant7 refl tt refl refl
chord_stands root Mi h = stands root Mi refl tt refl refl
chord_stands root Mi6 h = stands root Mi6 refl tt refl refl
chord_stands root Mi7 h = stands root Mi7 refl tt refl refl
chord_stands root MiMaj7 h = stands root MiMaj7 refl tt refl refl
chord_stands root Augmented h = stands root Augmented refl tt refl refl
chord_stands root Diminished h = stands root Diminished refl tt refl refl
chord_stands root Diminished7 h = stands root Diminished7 refl tt refl refl
chord_stands root Power h = absurd (true≢false (sym h))
chord_stands root Bass h = absurd (true≢false (sym h))
