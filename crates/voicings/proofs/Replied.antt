-- What a call for a voicing has to give, by the tests on its record and its pairs.
--     IsGood                   a record that is not refused
--     IsBadClass, IsBadRange   one that is refused as 2, and one that is refused as 16
--     ChordSays, chord_says    what each outcome of the check says of a record
--     chord_only               and what says so of it is what the check gives: each outcome exactly in its case
--     passed                   so one that passes is good
--     chord_refused            the refusals of the record
--     pairs_refused            those of the pairs
--     gives_voicing            the voicing
--     by_reply                 what is so of each of these is so of what a call has to give
--     few_bass                 at most two keys stand below the guides
use Rattle.answer.proofs.Kit.{◌≡◌, refl, sym, ap, subst, ◌∙◌, Bool, true, false, cond, ◌&&◌, and-false, List, ◌⊎◌, inl, inr, ⊎_elim, ℕ, ◌≤◌, ◌<◌, arith, leb, leb→le, leb-false, le-leb, lt-leb, length, Option, Some, None, Result, Ok, Err, ⊤}
use Rattle.answer.proofs.Tests.{said}
use Rattle.answer.specs.Replies.{Reply, refuse, text, unless_refused}
use Rattle.answer.specs.declared.refusal.Refusal.{Refusal}
use Rattle.answer.specs.declared.refusal.Refusal.TheVariants.{BadClass, BadRange}
use Rattle.intervals.specs.Bass.{is_bass}
use Rattle.voicings.specs.declared.voicing.Chord.{Chord}
use Rattle.pool.specs.declared.pool.Tone.{Tone}
use Rattle.pool.specs.Pool.{tones_of}
use Rattle.pairs.specs.Checks.{pairs_checked}
use Rattle.pairs.proofs.FirstBad.{SaysWhy, Says, checked_says}
use Rattle.voicings.specs.Range.{is_range}
use Rattle.voicings.specs.Voicing.{bass_keys, voicing_of, chord_checked, voicing_reply}

module _ (chord : Chord) where
  pub record IsGood : Type 0 where
    pub root : chord.root ≤ 11
    pub bass : is_bass chord.bass ≡ true
    pub rises : chord.lowest ≤ chord.highest
    pub midi : chord.highest ≤ 127

  abbrev pub IsBadClass : Type 0
  IsBadClass = (11 < chord.root) ⊎ (is_bass chord.bass ≡ false)

  abbrev pub IsBadRange : Type 0
  IsBadRange = (chord.root ≤ 11) × (is_bass chord.bass ≡ true) × ((chord.highest < chord.lowest) ⊎ (127 < chord.highest))

  abbrev pub ChordSays : Result ⊤ Refusal → Type 0
  ChordSays (Ok tt) = IsGood
  ChordSays (Err why) = ((why ≡ BadClass) × IsBadClass) ⊎ ((why ≡ BadRange) × IsBadRange)

  pub chord_says : ChordSays (chord_checked chord)
  chord_says = by_tests (leb chord.root 11) refl (is_bass chord.bass) refl (leb chord.lowest chord.highest) refl (leb chord.highest 127) refl
    where
      by_tests : (r : Bool) → leb chord.root 11 ≡ r → (b : Bool) → is_bass chord.bass ≡ b → (l : Bool) → leb chord.lowest chord.highest ≡ l
          → (h : Bool) → leb chord.highest 127 ≡ h → ChordSays (cond (r && b) (cond (l && h) (Ok tt) (Err BadRange)) (Err BadClass))
      by_tests false r b e l f h g = inl (refl, inl (leb-false _ _ r))
      by_tests true r false e l f h g = inl (refl, inr e)
      by_tests true r true e false f h g = inr (refl, (leb→le _ _ (said _ r), e, inl (leb-false _ _ f)))
      by_tests true r true e true f false g = inr (refl, (leb→le _ _ (said _ r), e, inr (leb-false _ _ g)))
      by_tests true r true e true f true g = record { root = leb→le _ _ (said _ r); bass = e; rises = leb→le _ _ (said _ f); midi = leb→le _ _ (said _ g) }

  -- and what says so of it is what the check gives
  pub chord_only : (outcome : Result ⊤ Refusal) → ChordSays outcome → chord_checked chord ≡ outcome
  chord_only (Ok tt) good = rw (le-leb _ _ good.root, good.bass, le-leb _ _ good.rises, le-leb _ _ good.midi) refl
  chord_only (Err why) says =
      ⊎_elim
      (λ (bad : (why ≡ BadClass) × IsBadClass). bad_class bad.1 ∙ sym (ap Err bad.0))
      (λ (bad : (why ≡ BadRange) × IsBadRange). rw (le-leb _ _ bad.1.0, bad.1.1) (bad_range bad.1.2 ∙ sym (ap Err bad.0)))
      says
    where
      bad_class : IsBadClass → chord_checked chord ≡ Err BadClass
      bad_class bad = ⊎_elim (λ (above : 11 < chord.root). rw (lt-leb _ _ above) refl) (λ (none : is_bass chord.bass ≡ false). rw (none, and-false (leb chord.root 11)) refl) bad

      bad_range : (chord.highest < chord.lowest) ⊎ (127 < chord.highest) → ◌≡◌ {A = Result ⊤ Refusal} (cond (is_range chord.lowest chord.highest) (Ok tt) (Err BadRange)) (Err BadRange)
      bad_range bad =
          ⊎_elim
          (λ (turned : chord.highest < chord.lowest). rw (lt-leb _ _ turned) refl)
          (λ (above : 127 < chord.highest). rw (lt-leb _ _ above, and-false (leb chord.lowest chord.highest)) refl)
          bad

  pub passed : chord_checked chord ≡ (Ok tt) → IsGood
  passed e = subst ChordSays e chord_says

module _ (chord : Chord) (cs is : List ℕ) where
  abbrev tones : List Tone
  tones = tones_of cs is

  pub chord_refused : (why : Refusal) → chord_checked chord ≡ Err why → voicing_reply chord cs is ≡ refuse why
  unfolding voicing_reply
  chord_refused why bad = rw bad refl

  module _ (e : chord_checked chord ≡ (Ok tt)) where
    pub pairs_refused : (why : Refusal) → pairs_checked tones ≡ Err why → voicing_reply chord cs is ≡ refuse why
    unfolding voicing_reply
    pairs_refused why bad = rw (e, bad) refl

    pub gives_voicing : pairs_checked tones ≡ (Ok tt) → voicing_reply chord cs is ≡ text (voicing_of chord cs is)
    unfolding voicing_reply
    gives_voicing good = rw (e, good) refl

  pub by_reply : (P : Reply → Type 0) → P (refuse BadClass) → P (refuse BadRange) → ((why : Refusal) → SaysWhy tones why → P (refuse why))
      → (length tones ≤ 16 → P (text (voicing_of chord cs is))) → P (voicing_reply chord cs is)
  unfolding voicing_reply
  by_reply P class range pairs voicing = by_tests (leb chord.root 11 && is_bass chord.bass) (is_range chord.lowest chord.highest) (pairs_checked tones) (checked_says tones)
    where
      by_tests : (classes inside : Bool) (checked : Result ⊤ Refusal) → Says tones checked
          → P (unless_refused (cond classes (cond inside (Ok tt) (Err BadRange)) (Err BadClass)) (unless_refused checked (text (voicing_of chord cs is))))
      by_tests false inside checked h = class
      by_tests true false checked h = range
      by_tests true true (Err why) h = pairs why h
      by_tests true true (Ok tt) h = voicing h.0

pub few_bass : (root : ℕ) (bass : Option ℕ) → length (bass_keys root bass) ≤ 2
few_bass root None = omega arith
few_bass root (Some class) = omega arith
