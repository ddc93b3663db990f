-- Keys that tones are placed at, turn by turn, in words that ask for no search.
--     InTurns       each is the best key that a tone has which is left, earliest on a tie, and with it the tones of its interval leave; at the end no
--                   tone that is left has a key
--     placed_turns  so it is with what tones are placed at, by nearness to the wanted key
--     turns_as      better said otherwise, by the tones' keys
--     InOrder, order_as   each key and those that come later; said otherwise
--     turns_order   in turns, no later key is better
--     placed_from   a key that some tones are placed at is a key of one of them
use Rattle.answer.proofs.Kit.{◌≡◌, refl, sym, subst, ◌∙◌, List, [], ◌∷◌, Memᴰ, Memᴰ-not_nil, Memᴰ-cases_cons, ⊎_elim, ℕ, zero, suc, ◌≤◌, ◌<◌, not-suc-le-zero, arith, length}
use mathlib.Core.Option.{Option, none, some, Option-elim}
use Rattle.pool.specs.declared.pool.Tone.{Tone}
use Rattle.keys.specs.Choice.{ToneKey, keys_of_tones, nearest, other_tones, placed_in, placed}
use Rattle.keys.proofs.Others.{gone, tones_by}
use Rattle.keys.proofs.Winner.{KeyOf, tone_of_lem, tone_interval, from_tones, to_tones}
use Rattle.keys.proofs.Among.{in_others}
use Rattle.keys.proofs.Earliest.{Earliest, earliest_is, Nearer, IsEarliest, earliest}

-- each element and every one that comes later
abbrev pub InOrder : (ℕ → ℕ → Type 0) → List ℕ → Type 0
InOrder Before [] = Unit {0}
InOrder Before (key ∷ more) = ((later : ℕ) → Memᴰ later more → Before key later) × InOrder Before more

pub order_as : {Before Before' : ℕ → ℕ → Type 0} → ((key later : ℕ) → Before key later → Before' key later) → (keys : List ℕ) → InOrder Before keys → InOrder Before' keys
order_as said [] h = tt
order_as said (key ∷ more) h = (λ later m. said key later (h.0 later m), order_as said more h.1)

module _ (lowest limit : ℕ) where
  -- the key of a turn, and what is so of the tones that are left
  pub record Turn (Better : ℕ → ℕ → Type 0) (Rest : List Tone → Type 0) (tones : List Tone) (key : ℕ) : Type 0 where
    pub of : ToneKey
    pub its_key : key ≡ of.key
    pub best : Earliest Better (keys_of_tones lowest limit tones) of
    pub rest : Rest (other_tones of.interval tones)

  abbrev pub InTurns : (ℕ → ℕ → Type 0) → List Tone → List ℕ → Type 0
  InTurns Better tones [] = keys_of_tones lowest limit tones ≡ []
  InTurns Better tones (key ∷ more) = Turn Better (λ (left : List Tone). InTurns Better left more) tones key

  -- the tones of other intervals have no other keys, and where a tone has a key they are fewer
  keys_of_others : (i : ℕ) (tones : List Tone) (k : ToneKey) → Memᴰ k (keys_of_tones lowest limit (other_tones i tones)) → Memᴰ k (keys_of_tones lowest limit tones)
  keys_of_others i tones k h =
      let of = tone_of_lem lowest limit (other_tones i tones) k h in
      to_tones lowest limit tones of.0 k (in_others i tones of.0 of.1) of.2

  fewer : (tones : List Tone) (k : ToneKey) → Memᴰ k (keys_of_tones lowest limit tones) → length (other_tones k.interval tones) < length tones
  fewer tones k h =
      let of = tone_of_lem lowest limit tones k h in
      rw (tones_by k.interval tones) (gone (λ (t : Tone). t.interval) k.interval tones of.0 (tone_interval lowest limit of.0 k of.2) of.1)

  in_turns : (wanted n : ℕ) (tones : List Tone) → length tones ≤ n → InTurns (Nearer wanted) tones (placed_in lowest limit wanted n tones)
  unfolding placed_in keys_of_tones Option-elim
  in_turns wanted zero [] h = refl
  in_turns wanted zero (t ∷ l) h = absurd (not-suc-le-zero h)
  in_turns wanted (suc n) tones h =
      by_case (nearest wanted (keys_of_tones lowest limit tones)) (earliest wanted (keys_of_tones lowest limit tones)) (λ i less. in_turns wanted n (other_tones i tones) (omega arith))
    where
      by_case : (o : Option ToneKey) → IsEarliest wanted (keys_of_tones lowest limit tones) o
          → ((i : ℕ) → length (other_tones i tones) < length tones → InTurns (Nearer wanted) (other_tones i tones) (placed_in lowest limit wanted n (other_tones i tones)))
          → InTurns (Nearer wanted) tones (Option-elim o [] (λ (k : ToneKey). k.key ∷ placed_in lowest limit wanted n (other_tones k.interval tones)))
      by_case none e rest = e
      by_case (some k) e rest = record { of = k; its_key = refl; best = e; rest = rest k.interval (fewer tones k (earliest_is (Nearer wanted) e)) }

  pub placed_turns : (wanted : ℕ) (tones : List Tone) → InTurns (Nearer wanted) tones (placed lowest limit wanted tones)
  unfolding placed
  placed_turns wanted tones = in_turns wanted (length tones) tones (omega arith)

  pub turns_as : {Better Better' : ℕ → ℕ → Type 0}
      → ((tones : List Tone) (k : ToneKey) → Earliest Better (keys_of_tones lowest limit tones) k → Earliest Better' (keys_of_tones lowest limit tones) k)
      → (tones : List Tone) (keys : List ℕ) → InTurns Better tones keys → InTurns Better' tones keys
  turns_as said tones [] h = h
  turns_as said tones (key ∷ more) h = record { of = h.of; its_key = h.its_key; best = said tones h.of h.best; rest = turns_as said (other_tones h.of.interval tones) more h.rest }

  -- a key of a turn is one of the tones'
  turn_of : (Better : ℕ → ℕ → Type 0) (tones : List Tone) (keys : List ℕ) → InTurns Better tones keys → (key : ℕ) → Memᴰ key keys
      → (k : ToneKey) × Memᴰ k (keys_of_tones lowest limit tones) × (key ≡ k.key)
  turn_of Better tones [] h key m = absurd (Memᴰ-not_nil m)
  turn_of Better tones (first ∷ more) h key m =
      ⊎_elim
      (λ (same : key ≡ first). (h.of, earliest_is Better h.best, same ∙ h.its_key))
      (λ later. let k = turn_of Better (other_tones h.of.interval tones) more h.rest key later in (k.0, keys_of_others h.of.interval tones k.0 k.1, k.2))
      (Memᴰ-cases_cons m)

  pub turns_order : (Better : ℕ → ℕ → Type 0) (tones : List Tone) (keys : List ℕ) → InTurns Better tones keys → InOrder (λ (key later : ℕ). ¬ Better later key) keys
  turns_order Better tones [] h = tt
  turns_order Better tones (key ∷ more) h = (
    λ later m. let k = turn_of Better (other_tones h.of.interval tones) more h.rest later m in
        rw (h.its_key, k.2) (h.best.first.found k.0 (keys_of_others h.of.interval tones k.0 k.1)),
    turns_order Better (other_tones h.of.interval tones) more h.rest,
  )

  pub placed_from : (wanted : ℕ) (tones : List Tone) (key : ℕ) → Memᴰ key (placed lowest limit wanted tones) → KeyOf lowest limit tones key
  placed_from wanted tones key h =
      let k = turn_of (Nearer wanted) tones (placed lowest limit wanted tones) (placed_turns wanted tones) key h in
      subst (KeyOf lowest limit tones) (sym k.2) (from_tones lowest limit tones k.0 k.1)
