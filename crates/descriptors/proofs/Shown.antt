-- The quality that a set shows: a set with a third put in is a set, so it has a quality.
--     shown      where an answer is a quality, it is the one shown
--     has_quality     any set has one
use Rattle.answer.proofs.Kit.{◌≡◌, ap, ◌∙◌, ℕ, ◌<◌, arith, le-leb, Result, Ok}
use Rattle.answer.specs.declared.refusal.Refusal.{Refusal}
use Rattle.intervals.specs.Sets.{is_set}
use Rattle.qualities.specs.Qualities.{quality_of, quality_answer}
use Rattle.qualities.specs.declared.quality.ChordQuality.{ChordQuality}
use Rattle.rules.specs.Parts.{with_third, suffix_quality}

pub has_quality : (x : ℕ) → x < 4096 → quality_answer x ≡ Ok (quality_of x)
unfolding is_set quality_answer
has_quality x h = simp (le-leb x 4095 (omega arith))

module _ (a : Result ChordQuality Refusal) (x s : ℕ) (told : a ≡ quality_answer x) (with : (x ≡ with_third s) × (x < 4096)) where
  pub shown : (q : ChordQuality) → a ≡ Ok q → q ≡ suffix_quality s
  unfolding suffix_quality
  shown q e =
      let same : q ≡ quality_of x = cc (has_quality x with.1) in same ∙ ap quality_of with.0
