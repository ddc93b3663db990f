-- No element has more than 1,147 bytes, and one has as many.
--     root_short, bass_short     a root's and a bass's element
--     harmony_short     the bound
--     longest_reached   and one has them
use Rattle.answer.proofs.Kit.{◌≡◌, refl, Bool, true, ◌&&◌, ℕ, ◌<◌, ◌≤◌, arith, T, leb, leb→le, length, length-append, Option, Some, None}
use Rattle.answer.specs.Words.{bytes}
use Rattle.answer.proofs.Tests.{left, right, all, at}
use Rattle.intervals.specs.Bass.{is_bass}
use Rattle.intervals.specs.Sets.{is_rooted}
use Rattle.harmonies.specs.Xml.{written}
use Rattle.harmonies.specs.Kinds.{degrees_of}
use Rattle.harmonies.specs.Harmony.{flats, root_of, bass_of, harmony_of, longest}
use Rattle.harmonies.proofs.Computed.{harmony_computed}
use Rattle.harmonies.proofs.Lossless.{class_of_lem, tail_short}
use Rattle.harmonies.proofs.Texts.{degrees_long, harmony_text}

abbrev short : ℕ → Bool
short k = leb (length (written (root_of flats k))) 64 && leb (length (written (bass_of flats (Some k)))) 64

module _ (k : ℕ) (h : k < 12) where
  both_short : T (short k)
  unfolding harmony_computed all
  both_short = at short 12 tt k h

  pub root_short : length (written (root_of flats k)) ≤ 64
  root_short = leb→le _ _ (left (leb (length (written (root_of flats k))) 64) _ both_short)

  bass_element : length (written (bass_of flats (Some k))) ≤ 64
  bass_element = leb→le _ _ (right (leb (length (written (root_of flats k))) 64) _ both_short)

pub bass_short : (b : Option ℕ) → is_bass b ≡ true → length (written (bass_of flats b)) ≤ 64
unfolding written
bass_short None e = omega arith
bass_short (Some b) e = bass_element b (class_of_lem b e)

pub harmony_short : (root : ℕ) (b : Option ℕ) (s : ℕ) → root < 12 → is_bass b ≡ true → is_rooted s ≡ true → length (harmony_of flats root b s) ≤ longest
unfolding bytes
harmony_short root b s hr hb is =
    rw (harmony_text flats root b s)
    (simp length-append (omega (arith, root_short root hr, bass_short b hb, tail_short s is, degrees_long (degrees_of s))))

-- on Db over Db
pub longest_reached : length (harmony_of flats 1 (Some 1) 3943) ≡ longest
unfolding harmony_computed
longest_reached = refl
