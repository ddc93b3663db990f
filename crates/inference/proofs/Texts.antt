-- The texts of a suffix are short.
use Rattle.answer.proofs.Kit.{◌≡◌, refl, Bool, true, false, true≢false, cond, List, [], ◌∷◌, ℕ, T, Option, Some, None}
use Rattle.answer.specs.Words.{bytes, low, packed}
use Rattle.answer.proofs.Digits.{are_bytes, is_short}
use Rattle.answer.proofs.Tests.{all}
use Rattle.intervals.specs.Sets.{is_in}
use Rattle.intervals.specs.Intervals.{intervals, nth, numbered, notation_of}
use Rattle.intervals.proofs.Rows.{at_interval}
use Rattle.intervals.specs.declared.interval.Interval.{Interval}
use Rattle.qualities.specs.declared.quality.ChordQuality.{ChordQuality}
use Rattle.qualities.specs.declared.quality.ChordQuality.TheVariants.{Maj, Maj6, Maj7, Dominant7, Mi, Mi6, Mi7, MiMaj7, Augmented, Diminished, Diminished7, Power, Bass}
use Rattle.rules.specs.Stack.{is_one_of}
use Rattle.rules.specs.Heading.{wording, shows_modifier, unmodified, modified}
use Rattle.inference.specs.declared.wording.Prefix.{Prefix}
use Rattle.inference.specs.declared.wording.Prefix.TheVariants as Prefixes
use Rattle.inference.specs.private.Prefixes.{before_part}
use Rattle.inference.specs.private.Described.{modifier_word}

pub notation_short : (i : Interval) → T (is_short (notation_of i))
unfolding bytes are_bytes is_short all intervals nth numbered
notation_short = at_interval (λ i. is_short (notation_of i)) tt

pub wording_short : (q : ChordQuality) → T (is_short (wording q))
unfolding bytes are_bytes is_short
wording_short Maj = tt
wording_short Maj6 = tt
wording_short Maj7 = tt
wording_short Dominant7 = tt
wording_short Mi = tt
wording_short Mi6 = tt
wording_short Mi7 = tt
wording_short MiMaj7 = tt
wording_short Augmented = tt
wording_short Diminished = tt
wording_short Diminished7 = tt
wording_short Power = tt
wording_short Bass = tt

-- a word, and the text that it holds
pub record IsWord (t : List ℕ) (w : ℕ) : Type 0 where
  pub short : T (is_short t)
  pub is : w ≡ packed t

-- one word or another
either_word : (b : Bool) {t u : List ℕ} {w v : ℕ} → IsWord t w → IsWord u v → IsWord (cond b t u) (cond b w v)
either_word true p q = p
either_word false p q = q

no_word : IsWord [] 0
unfolding are_bytes is_short low packed
no_word = record { short = tt; is = refl }

pub close_word : IsWord (bytes ")") 0x0100000000000029
unfolding bytes are_bytes is_short low packed
close_word = record { short = tt; is = refl }

pub nine_word : IsWord (bytes "9") 0x0100000000000039
unfolding bytes are_bytes is_short low packed
nine_word = record { short = tt; is = refl }

pub sus_word : IsWord (bytes "sus") 0x0300000000737573
unfolding bytes are_bytes is_short low packed
sus_word = record { short = tt; is = refl }

-- a quality that shows no modifier has no word without one
hidden : (q : ChordQuality) → shows_modifier q ≡ false → unmodified q ≡ []
unfolding is_in
hidden Maj e = refl
hidden Mi e = refl
hidden Mi6 e = refl
hidden Diminished e = refl
hidden Diminished7 e = refl
hidden Power e = refl
hidden Bass e = refl
hidden Maj6 e = absurd (true≢false e)
hidden Maj7 e = absurd (true≢false e)
hidden Dominant7 e = absurd (true≢false e)
hidden Mi7 e = absurd (true≢false e)
hidden MiMaj7 e = absurd (true≢false e)
hidden Augmented e = absurd (true≢false e)

-- a modifier's word by the row of its quality
pub modifier_word_lem : (q : ChordQuality) (word : Option ℕ) (m : Option Interval) → word ≡ cond (shows_modifier q) (Some (packed (unmodified q))) None
    → IsWord (modified q m) (modifier_word word m)
unfolding bytes are_bytes is_short
modifier_word_lem q word m e = rw e (by_shows (shows_modifier q) refl m)
  where
    short : T (is_short (unmodified q))
    short = either_short (is_one_of q (Maj7 ∷ Dominant7 ∷ Mi7 ∷ MiMaj7 ∷ []))
      where
        either_short : (b : Bool) → T (is_short (cond b (bytes "7") []))
        either_short true = tt
        either_short false = tt

    by_shows : (b : Bool) → shows_modifier q ≡ b → (m : Option Interval) → IsWord (modified q m) (modifier_word (cond b (Some (packed (unmodified q))) None) m)
    by_shows true h (Some i) = rw h record { short = notation_short i; is = refl }
    by_shows true h None = record { short = short; is = refl }
    by_shows false h (Some i) = rw h no_word
    by_shows false h None = rw (hidden q h) no_word

pub before_short : (first : Bool) (prefix : Prefix) → T (is_short (before_part first prefix))
unfolding bytes are_bytes is_short
before_short true Prefixes.None = tt
before_short true Prefixes.Add = tt
before_short true Prefixes.Omit = tt
before_short false Prefixes.None = tt
before_short false Prefixes.Add = tt
before_short false Prefixes.Omit = tt
