-- The element loses nothing: what is read from the bytes that are written is the root, the bass and the set.
--     shown_kind      no rooted set shows one of the last two qualities, which have no kind of their own
--     kind_sounds     what a kind has beside its triad sounds, so that only a third or a fifth is ever subtracted
--     tail_short      a kind's name and the degrees of a set have no more than 987 bytes
--     lossless        the theorem
--     apart           so two elements are the same only where root, bass and set are
use Rattle.answer.proofs.Kit.{◌≡◌, ap, sym, ◌∙◌, Bool, true, cond, ◌&&◌, List, [], ◌∷◌, map, ℕ, ◌+◌, ◌^◌, ◌<◌, ◌≤◌, arith, T, eqb, leb, ltb, eqb→eq, leb→le, ltb→lt, length, Option, Some, None}
use Rattle.answer.specs.Words.{bytes, same}
use Rattle.answer.proofs.Tests.{left, right, is_true, said, all, at}
use Rattle.intervals.specs.Bass.{is_bass}
use Rattle.intervals.specs.Sets.{is_rooted, has_all}
use Rattle.intervals.specs.Intervals.{class_of}
use Rattle.intervals.proofs.Rooted.{at_rooted}
use Rattle.qualities.specs.Qualities.{quality_of, quality_number}
use Rattle.qualities.specs.declared.quality.ChordQuality.{ChordQuality}
use Rattle.qualities.specs.declared.quality.ChordQuality.TheVariants.{Maj, Maj6, Maj7, Dominant7, Mi, Mi6, Mi7, MiMaj7, Augmented, Diminished, Diminished7, Power}
use Rattle.qualities.specs.declared.quality.ChordQuality.TheVariants as Quality
use Rattle.rules.specs.Classes.{intervals_of}
use Rattle.rules.specs.Parts.{has_third, with_third, suffix_quality}
use Rattle.harmonies.specs.Xml.{Elements, ◌then◌, leaf, node}
use Rattle.harmonies.specs.Degrees.{Degree}
use Rattle.harmonies.specs.Kinds.{Kind, kind_of, degrees_from, degrees_of}
use Rattle.harmonies.specs.Harmony.{flats, decimal, integer, pitch_of, bass_of, harmony, harmony_of}
use Rattle.harmonies.specs.Chords.{tones_of, sounding}
use Rattle.harmonies.specs.Reading.{inside, text_in, is_there, class_in, bass_in, degrees_in, Harmony, harmony_in, read_harmony}
use Rattle.harmonies.proofs.Parsed.{plain, is_name, clean, clean_then, parsed}
use Rattle.harmonies.proofs.Computed.{numbers_computed, pitches_computed, told_computed}
use Rattle.harmonies.proofs.Degrees.{sameℤ, are_read, Row, row_of}

-- how many bytes degrees have: their tags, and what stands between
unfoldable pub sizes : List Degree → ℕ
sizes [] = 0
sizes (d ∷ more) = 102 + length (decimal d.value) + length (integer d.alter) + length d.type + sizes more

-- five facts of a set, its quality, its kind and its degrees
abbrev tests : ℕ → ChordQuality → Kind → List Degree → Bool
tests s q k ds =
    eqb (sounding (tones_of k.name) ds) s
    && (are_read ds && (ltb (quality_number q) 11 && (has_all s (map class_of k.more) && leb (length k.name + sizes ds) 987)))

tells : ℕ → Bool
tells s =
    let i = intervals_of s in
    let q = quality_of (cond (has_third i) s (s + 2 ^ 4)) in
    let k = kind_of q in
    tests s q k (degrees_from k i s)

all_tell : (s : ℕ) → is_rooted s ≡ true → T (tells s)
unfolding told_computed numbers_computed tells sizes are_read sameℤ
all_tell = at_rooted tells tt

module _ (s : ℕ) (is : is_rooted s ≡ true) where
  abbrev shown : Kind
  shown = kind_of (suffix_quality s)

  told : T (tests s (suffix_quality s) shown (degrees_of s))
  unfolding tells with_third suffix_quality degrees_of
  told = all_tell s is

  abbrev others : Bool
  others = has_all s (map class_of shown.more)

  abbrev short : Bool
  short = leb (length shown.name + sizes (degrees_of s)) 987

  last_four : T (are_read (degrees_of s) && (ltb (quality_number (suffix_quality s)) 11 && (others && short)))
  last_four = right (eqb (sounding (tones_of shown.name) (degrees_of s)) s) _ told

  last_three : T (ltb (quality_number (suffix_quality s)) 11 && (others && short))
  last_three = right (are_read (degrees_of s)) _ last_four

  last_two : T (others && short)
  last_two = right (ltb (quality_number (suffix_quality s)) 11) (others && short) last_three

  pub sounds : sounding (tones_of shown.name) (degrees_of s) ≡ s
  sounds = eqb→eq _ _ (left (eqb (sounding (tones_of shown.name) (degrees_of s)) s) _ told)

  row : Row (degrees_of s)
  row = row_of (degrees_of s) (left (are_read (degrees_of s)) _ last_four)

  pub shown_kind : quality_number (suffix_quality s) < 11
  shown_kind = ltb→lt _ _ (left (ltb (quality_number (suffix_quality s)) 11) (others && short) last_three)

  pub kind_sounds : has_all s (map class_of shown.more) ≡ true
  kind_sounds = is_true others (left others short last_two)

  pub tail_short : length shown.name + sizes (degrees_of s) ≤ 987
  tail_short = leb→le _ _ (right others short last_two)

-- a class as a root and as a bass
abbrev as_root : ℕ → Elements
as_root k = pitch_of "root-step" "root-alter" flats k

abbrev as_bass : ℕ → Elements
as_bass k = pitch_of "bass-step" "bass-alter" flats k

abbrev pitched : ℕ → Bool
pitched k =
    clean (as_root k) && eqb (class_in "root-step" "root-alter" (as_root k)) k && (clean (as_bass k) && eqb (class_in "bass-step" "bass-alter" (as_bass k)) k)

module _ (k : ℕ) (h : k < 12) where
  abbrev of_root : Bool
  of_root = clean (as_root k) && eqb (class_in "root-step" "root-alter" (as_root k)) k

  abbrev of_bass : Bool
  of_bass = clean (as_bass k) && eqb (class_in "bass-step" "bass-alter" (as_bass k)) k

  all_pitched : T (of_root && of_bass)
  unfolding pitches_computed all
  all_pitched = at pitched 12 tt k h

  root_clean : T (clean (as_root k))
  root_clean = left (clean (as_root k)) _ (left of_root of_bass all_pitched)

  root_back : class_in "root-step" "root-alter" (as_root k) ≡ k
  root_back = eqb→eq _ _ (right (clean (as_root k)) _ (left of_root of_bass all_pitched))

  bass_clean : T (clean (as_bass k))
  bass_clean = left (clean (as_bass k)) _ (right of_root of_bass all_pitched)

  bass_back : class_in "bass-step" "bass-alter" (as_bass k) ≡ k
  bass_back = eqb→eq _ _ (right (clean (as_bass k)) _ (right of_root of_bass all_pitched))

kind_clean : (q : ChordQuality) → T (clean (leaf "kind" (kind_of q).name))
unfolding plain is_name clean bytes
kind_clean Maj = tt
kind_clean Maj6 = tt
kind_clean Maj7 = tt
kind_clean Dominant7 = tt
kind_clean Mi = tt
kind_clean Mi6 = tt
kind_clean Mi7 = tt
kind_clean MiMaj7 = tt
kind_clean Augmented = tt
kind_clean Diminished = tt
kind_clean Diminished7 = tt
kind_clean Power = tt
kind_clean Quality.Bass = tt

-- what is clean, in an element of a name
node_clean : (e : Elements) → T (clean e) → (T (clean (node "root" e))) × (T (clean (node "bass" e))) × (T (clean (node "harmony" e)))
unfolding plain is_name clean bytes
node_clean e c = (rw (is_true (clean e) c) tt, rw (is_true (clean e) c) tt, rw (is_true (clean e) c) tt)

-- a bass that is not refused
pub class_of_lem : (b : ℕ) → is_bass (Some b) ≡ true → b < 12
class_of_lem b e = let h = leb→le b 11 (said _ e) in omega arith

under_clean : (b : Option ℕ) → is_bass b ≡ true → T (clean (bass_of flats b))
unfolding clean
under_clean None h = tt
under_clean (Some b) h = (node_clean (as_bass b) (bass_clean b (class_of_lem b h))).1

module _ (root : ℕ) (b : Option ℕ) (s : ℕ) (hr : root < 12) (hb : is_bass b ≡ true) (is : is_rooted s ≡ true) where
  harmony_clean : T (clean (harmony flats root b s))
  unfolding harmony
  harmony_clean =
      (node_clean _
      (clean_then _ _
      (clean_then _ _
      (clean_then _ _ (node_clean (as_root root) (root_clean root hr)).0 (kind_clean (suffix_quality s)))
      (under_clean b hb))
      (row s is).all_clean)).2

read_back : (root : ℕ) (b : Option ℕ) (s : ℕ) → root < 12 → is_bass b ≡ true → is_rooted s ≡ true
    → harmony_in (inside "harmony" (harmony flats root b s)) ≡ record { root = root; bass = b; set = sounding (tones_of (kind_of (suffix_quality s)).name) (degrees_of s) }
unfolding harmony harmony_in inside text_in is_there bass_in degrees_in bytes same ◌then◌
read_back root None s hr hb is = rw (root_back root hr, (row s is).no_bass, (row s is).back)
read_back root (Some b) s hr hb is = rw (root_back root hr, bass_back b (class_of_lem b hb), (row s is).back)

-- "for every rooted set, root and bass or none, what is read back from what is written is that root, that bass and that set"
pub lossless : (root : ℕ) (b : Option ℕ) (s : ℕ) → root < 12 → is_bass b ≡ true → is_rooted s ≡ true
    → read_harmony (harmony_of flats root b s) ≡ record { root = root; bass = b; set = s }
unfolding harmony_of read_harmony
lossless root b s hr hb is =
    ap (λ (e : Elements). harmony_in (inside "harmony" e)) (parsed (harmony flats root b s) (harmony_clean root b s hr hb is))
    ∙ read_back root b s hr hb is
    ∙ rw (sounds s is)

-- "So two candidates that differ have different elements"
pub apart : (root root' : ℕ) (b b' : Option ℕ) (s s' : ℕ) → root < 12 → is_bass b ≡ true → is_rooted s ≡ true → root' < 12 → is_bass b' ≡ true → is_rooted s' ≡ true
    → harmony_of flats root b s ≡ harmony_of flats root' b' s' → (root ≡ root') × (b ≡ b') × (s ≡ s')
apart root root' b b' s s' hr hb is hr' hb' is' e =
    let all = sym (lossless root b s hr hb is) ∙ ap read_harmony e ∙ lossless root' b' s' hr' hb' is' in
    (ap (λ (h : Harmony). h.root) all, ap (λ (h : Harmony). h.bass) all, ap (λ (h : Harmony). h.set) all)
