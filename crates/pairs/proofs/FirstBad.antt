-- What the check of some pairs says, in words that ask for no search.
--     IsGood          a note class up to 11 and an interval up to 22
--     FirstBad        at most sixteen pairs, those before a place good, and the one there bad in this way
--     by_why          what is so of the refusals that it says
--     Says            what each outcome of the check says of the pairs
--     checked_says    so it is with `pairs_checked`
--     said_only       and what a check that says so comes to is that outcome: each is given exactly in its case
use Rattle.answer.proofs.Kit.{◌≡◌, refl, sym, ap, ◌∙◌, Bool, true, false, cond, ◌&&◌, List, Memᴰ, ℕ, ◌≤◌, ◌<◌, leb, leb→le, length, lt-leb, le-leb, leb-false, not-false, not-true, Result, Ok, Err, ⊤}
use Rattle.answer.proofs.Tests.{left, right, said}
use Rattle.answer.proofs.First.{IsFirst, first_as, Passes, Fails}
use Rattle.answer.proofs.FirstRefused.{refused_says, first_refused_lem, none_refused}
use Rattle.answer.specs.declared.refusal.Refusal.{Refusal}
use Rattle.answer.specs.declared.refusal.Refusal.TheVariants.{NotASet, BadClass, TooManyPairs, BadPairClass, BadPairInterval, BadNote, BadMove, NotAKey, BadRange, NoRoom}
use Rattle.pool.specs.declared.pool.Tone.{Tone}
use Rattle.pairs.specs.Checks.{is_bad, bad_pair, first_checked, pairs_checked}

abbrev pub IsGood : Tone → Type 0
IsGood t = (t.class ≤ 11) × (t.interval ≤ 22)

-- the note is looked at first
abbrev pub ClassAbove : Tone → Type 0
ClassAbove t = 11 < t.class

abbrev pub IntervalAbove : Tone → Type 0
IntervalAbove t = (t.class ≤ 11) × (22 < t.interval)

pub record FirstBad (Bad : Tone → Type 0) (tones : List Tone) (place : ℕ) : Type 0 where
  pub few : length tones ≤ 16
  pub pair : Tone
  pub first : IsFirst Bad IsGood tones place pair

-- every other refusal is for something else
abbrev pub SaysWhy : List Tone → Refusal → Type 0
SaysWhy tones TooManyPairs = 16 < length tones
SaysWhy tones (BadPairClass place) = FirstBad ClassAbove tones place
SaysWhy tones (BadPairInterval place) = FirstBad IntervalAbove tones place
SaysWhy tones NotASet = ⊥
SaysWhy tones BadClass = ⊥
SaysWhy tones BadNote = ⊥
SaysWhy tones BadMove = ⊥
SaysWhy tones (NotAKey place) = ⊥
SaysWhy tones BadRange = ⊥
SaysWhy tones NoRoom = ⊥

-- what is so of these three is so of any refusal that the check says
pub by_why : (tones : List Tone) (P : Refusal → Type 0) → (16 < length tones → P TooManyPairs)
    → ((place : ℕ) → FirstBad ClassAbove tones place → P (BadPairClass place))
    → ((place : ℕ) → FirstBad IntervalAbove tones place → P (BadPairInterval place)) → (why : Refusal) → SaysWhy tones why → P why
by_why tones P many class interval TooManyPairs h = many h
by_why tones P many class interval (BadPairClass place) h = class place h
by_why tones P many class interval (BadPairInterval place) h = interval place h
by_why tones P many class interval NotASet h = absurd h
by_why tones P many class interval BadClass h = absurd h
by_why tones P many class interval BadNote h = absurd h
by_why tones P many class interval BadMove h = absurd h
by_why tones P many class interval (NotAKey place) h = absurd h
by_why tones P many class interval BadRange h = absurd h
by_why tones P many class interval NoRoom h = absurd h

abbrev pub Says : List Tone → Result ⊤ Refusal → Type 0
Says tones (Ok tt) = (length tones ≤ 16) × ((t : Tone) → Memᴰ t tones → IsGood t)
Says tones (Err why) = SaysWhy tones why

good : (t : Tone) → is_bad t ≡ false → IsGood t
good t e =
    let both = said (leb t.class 11 && leb t.interval 22) (not-false _ e) in
    (leb→le _ _ (left (leb t.class 11) _ both), leb→le _ _ (right (leb t.class 11) _ both))

not_bad : (t : Tone) → IsGood t → is_bad t ≡ false
not_bad t g = rw (le-leb _ _ g.0, le-leb _ _ g.1)

module _ (tones : List Tone) (few : length tones ≤ 16) where
  is_bad_lem : (place : ℕ) (t : Tone) → IsFirst (Passes is_bad) (Fails is_bad) tones place t → SaysWhy tones (bad_pair place t)
  is_bad_lem place t h = by_class (leb t.class 11) refl
    where
      by_class : (b : Bool) → leb t.class 11 ≡ b → SaysWhy tones (cond b (BadPairInterval place) (BadPairClass place))
      by_class true e =
          let wide : leb t.interval 22 ≡ false = sym (ap (λ (b : Bool). b && leb t.interval 22) e) ∙ not-true _ h.found in
          record { few = few; pair = t; first = first_as h (leb→le _ _ (said _ e), leb-false _ _ wide) good }
      by_class false e = record { few = few; pair = t; first = first_as h (leb-false _ _ e) good }

  first_says : Says tones (first_checked tones)
  first_says = refused_says is_bad bad_pair (Says tones) tones (λ h. (few, λ t m. good t (h t m))) is_bad_lem

pub checked_says : (tones : List Tone) → Says tones (pairs_checked tones)
unfolding pairs_checked
checked_says tones = by_count (leb (length tones) 16) refl
  where
    by_count : (b : Bool) → leb (length tones) 16 ≡ b → Says tones (cond b (first_checked tones) (Err TooManyPairs))
    by_count true e = first_says tones (leb→le _ _ (said _ e))
    by_count false e = leb-false _ _ e

-- a bad pair's refusal, where it is the first
module _ (Bad : Tone → Type 0) (tones : List Tone) (place : ℕ) (bad : (t : Tone) → Bad t → is_bad t ≡ true) (h : FirstBad Bad tones place) where
  is_refused : pairs_checked tones ≡ Err (bad_pair place h.pair)
  unfolding pairs_checked
  is_refused =
      rw (le-leb _ _ h.few) (first_refused_lem is_bad bad_pair tones place h.pair (first_as h.first (bad h.pair h.first.found) not_bad))

said_why : (tones : List Tone) (why : Refusal) → SaysWhy tones why → pairs_checked tones ≡ Err why
unfolding pairs_checked
said_why tones =
    by_why tones (λ (why : Refusal). pairs_checked tones ≡ Err why) (λ h. rw (lt-leb _ _ h))
    (λ place h. is_refused ClassAbove tones place (λ t above. rw (lt-leb _ _ above)) h ∙ rw (lt-leb _ _ h.first.found))
    (λ place h. is_refused IntervalAbove tones place (λ t above. rw (le-leb _ _ above.0, lt-leb _ _ above.1)) h ∙ rw (le-leb _ _ h.first.found.0))

pub said_only : (tones : List Tone) (r : Result ⊤ Refusal) → Says tones r → pairs_checked tones ≡ r
unfolding pairs_checked
said_only tones (Ok tt) h = rw (le-leb _ _ h.0) (none_refused is_bad bad_pair tones (λ t m. not_bad t (h.1 t m)))
said_only tones (Err why) h = said_why tones why h
