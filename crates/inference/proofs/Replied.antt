-- What a call for a suffix has to give, by its descriptor.
--     refused_reply   a refusal, which is the descriptor's
--     rooted          the suffix
use Rattle.answer.proofs.Kit.{◌≡◌, refl, Bool, true, true≢false, false, ℕ, Err}
use Rattle.answer.specs.declared.refusal.Refusal.{Refusal}
use Rattle.answer.specs.Replies.{refuse, text}
use Rattle.intervals.specs.Sets.{is_rooted}
use Rattle.rules.specs.Suffix.{suffix_of, suffix_reply}
use Rattle.descriptors.specs.Descriptors.{descriptor_answer}

module _ (s : ℕ) where
  pub rooted : is_rooted s ≡ true → suffix_reply s ≡ text (suffix_of s)
  unfolding suffix_reply
  rooted e = rw e

  pub refused_reply : (why : Refusal) → descriptor_answer s ≡ Err why → suffix_reply s ≡ refuse why
  unfolding suffix_reply descriptor_answer
  refused_reply why e = by_case (is_rooted s) refl
    where
      by_case : (b : Bool) → is_rooted s ≡ b → suffix_reply s ≡ refuse why
      by_case true is = absurd (true≢false (cc (rw is at e)))
      by_case false other = rw other (cc (rw other at e))
