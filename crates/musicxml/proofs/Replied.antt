-- What a call has to give, by the answers on its numbers.
--     by_the_shown   behind what the set was answered
--     no_class       refusal 2
--     element        the element
--     harmony_room_lem  no call's answer has more bytes than the longest element
use Rattle.answer.proofs.Kit.{◌≡◌, refl, Bool, true, false, cond, ◌&&◌, ℕ, arith, leb, leb→le, Option, Result, Ok, Err}
use Rattle.answer.specs.Replies.{Reply, AtMost, refuse, text}
use Rattle.answer.specs.declared.refusal.Refusal.{Refusal}
use Rattle.answer.specs.declared.refusal.Refusal.TheVariants.{NotASet, BadClass}
use Rattle.answer.proofs.Tests.{left, right, is_true, said}
use Rattle.intervals.specs.Bass.{is_bass}
use Rattle.intervals.specs.Sets.{is_rooted}
use Rattle.qualities.specs.declared.quality.ChordQuality.{ChordQuality}
use Rattle.rules.specs.Parts.{suffix_quality}
use Rattle.names.specs.Names.{flats}
use Rattle.descriptors.specs.Descriptors.{shown_answer}
use Rattle.harmonies.specs.Harmony.{harmony_of, longest}
use Rattle.harmonies.proofs.Long.{harmony_short}
use Rattle.musicxml.specs.Replies.{harmony_reply}

module _ (root : ℕ) (b : Option ℕ) (s : ℕ) where
  abbrev on_classes : Reply
  on_classes = cond (leb root 11 && is_bass b) (text (harmony_of flats root b s)) (refuse BadClass)

  abbrev pub on_shown : Result ChordQuality Refusal → Reply
  on_shown (Ok q) = on_classes
  on_shown (Err why) = refuse why

  pub by_the_shown : harmony_reply flats root b s ≡ on_shown (shown_answer s)
  unfolding harmony_reply shown_answer
  by_the_shown = by_test (is_rooted s)
    where
      by_test : (c : Bool) → cond c on_classes (refuse NotASet) ≡ on_shown (cond c (Ok (suffix_quality s)) (Err NotASet))
      by_test true = refl
      by_test false = refl

  pub no_class : is_rooted s ≡ true → leb root 11 && is_bass b ≡ false → harmony_reply flats root b s ≡ refuse BadClass
  unfolding harmony_reply
  no_class e f = rw (e, f)

  pub element : is_rooted s ≡ true → leb root 11 && is_bass b ≡ true → harmony_reply flats root b s ≡ text (harmony_of flats root b s)
  unfolding harmony_reply
  element e f = rw (e, f)

pub harmony_room_lem : (root : ℕ) (b : Option ℕ) (s : ℕ) → AtMost longest (harmony_reply flats root b s)
unfolding harmony_reply
harmony_room_lem root b s = by_set (is_rooted s) refl
  where
    by_class : is_rooted s ≡ true → (c : Bool) → leb root 11 && is_bass b ≡ c → AtMost longest (cond c (text (harmony_of flats root b s)) (refuse BadClass))
    by_class is true e =
        let told = said _ e in
        let class = leb→le root 11 (left (leb root 11) (is_bass b) told) in
        harmony_short root b s (omega arith) (is_true (is_bass b) (right (leb root 11) (is_bass b) told)) is
    by_class is false e = tt

    by_set : (c : Bool) → is_rooted s ≡ c
        → AtMost longest (cond c (cond (leb root 11 && is_bass b) (text (harmony_of flats root b s)) (refuse BadClass)) (refuse NotASet))
    by_set true is = by_class is (leb root 11 && is_bass b) refl
    by_set false e = tt
