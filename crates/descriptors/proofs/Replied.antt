-- What a call for a descriptor answers, and one for the quality that is shown, by the test on its number.
--     not_rooted      refusal 1
--     rooted          the descriptor
--     described       where a descriptor is answered, the number is a rooted set, and the descriptor its own
--     refused         where a refusal is, it is none
--     shown_not_rooted, shown_rooted, shown_told, shown_refused     the same of the quality
use Rattle.answer.proofs.Kit.{◌≡◌, refl, Bool, true, true≢false, false, ℕ, Result, Ok, Err}
use Rattle.answer.specs.declared.refusal.Refusal.{Refusal}
use Rattle.answer.specs.declared.refusal.Refusal.TheVariants.{NotASet}
use Rattle.intervals.specs.Sets.{is_rooted}
use Rattle.descriptors.specs.declared.descriptor.Descriptor.{Descriptor}
use Rattle.qualities.specs.declared.quality.ChordQuality.{ChordQuality}
use Rattle.rules.specs.Parts.{suffix_quality}
use Rattle.descriptors.specs.Descriptors.{descriptor_of, descriptor_answer, shown_answer}

module _ (s : ℕ) where
  pub not_rooted : is_rooted s ≡ false → Err NotASet ≡ descriptor_answer s
  unfolding descriptor_answer
  not_rooted e = rw e

  pub rooted : is_rooted s ≡ true → Ok (descriptor_of s) ≡ descriptor_answer s
  unfolding descriptor_answer
  rooted e = rw e

  module _ (answer : Result Descriptor Refusal) (told : answer ≡ descriptor_answer s) where
    pub described : (d : Descriptor) → answer ≡ Ok d → (is_rooted s ≡ true) × (d ≡ descriptor_of s)
    described d e = by_case (is_rooted s) refl
      where
        by_case : (b : Bool) → is_rooted s ≡ b → (is_rooted s ≡ true) × (d ≡ descriptor_of s)
        by_case true h = (h, cc (rooted h))
        by_case false h = absurd (true≢false (cc (not_rooted h)))

    pub refused : (why : Refusal) → answer ≡ Err why → is_rooted s ≡ false
    refused why e = by_case (is_rooted s) refl
      where
        by_case : (b : Bool) → is_rooted s ≡ b → is_rooted s ≡ false
        by_case true h = absurd (true≢false (cc (rooted h)))
        by_case false h = h

  pub shown_not_rooted : is_rooted s ≡ false → Err NotASet ≡ shown_answer s
  unfolding shown_answer
  shown_not_rooted e = rw e

  pub shown_rooted : is_rooted s ≡ true → Ok (suffix_quality s) ≡ shown_answer s
  unfolding shown_answer
  shown_rooted e = rw e

  module _ (answer : Result ChordQuality Refusal) (told : answer ≡ shown_answer s) where
    pub shown_told : (q : ChordQuality) → answer ≡ Ok q → (is_rooted s ≡ true) × (q ≡ suffix_quality s)
    shown_told q e = by_case (is_rooted s) refl
      where
        by_case : (b : Bool) → is_rooted s ≡ b → (is_rooted s ≡ true) × (q ≡ suffix_quality s)
        by_case true h = (h, cc (shown_rooted h))
        by_case false h = absurd (true≢false (cc (shown_not_rooted h)))

    pub shown_refused : (why : Refusal) → answer ≡ Err why → is_rooted s ≡ false
    shown_refused why e = by_case (is_rooted s) refl
      where
        by_case : (b : Bool) → is_rooted s ≡ b → is_rooted s ≡ false
        by_case true h = absurd (true≢false (cc (shown_rooted h)))
        by_case false h = h
