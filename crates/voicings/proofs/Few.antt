-- How many keys are placed: never more than the pool has tones.
--     few_of, few_guides, few_tensions
use Rattle.answer.proofs.Kit.{Bool, true, false, cond, ◌||◌, List, [], ◌∷◌, ℕ, zero, suc, ◌≤◌, le_trans, arith, length}
use mathlib.Core.Option.{Option, none, some, Option-elim}
use Rattle.intervals.specs.Sets.{has, without}
use Rattle.pool.specs.declared.pool.Tone.{Tone}
use Rattle.keys.specs.Choice.{ToneKey, keys_of_tones, nearest, chosen, other_tones, placed_in, placed}
use Rattle.voicings.specs.Guides.{guide_keys, tension_keys}

some_or_none : (o : Option ToneKey) (n : ℕ) (more : ToneKey → List ℕ) → ((k : ToneKey) → length (more k) ≤ n)
    → length (Option-elim o [] (λ (k : ToneKey). k.key ∷ more k)) ≤ suc n
unfolding Option-elim
some_or_none none n more h = omega arith
some_or_none (some k) n more h = let less = h k in omega arith

module _ (lowest limit wanted : ℕ) where
  few_placed : (n : ℕ) (tones : List Tone) → length (placed_in lowest limit wanted n tones) ≤ n
  unfolding placed_in
  few_placed zero tones = omega arith
  few_placed (suc n) tones =
      some_or_none (nearest wanted (keys_of_tones lowest limit tones)) n (λ (k : ToneKey). placed_in lowest limit wanted n (other_tones k.interval tones))
      (λ k. few_placed n (other_tones k.interval tones))

  one_or_none : (b : Bool) (t : Tone) (n : ℕ) (l m : List Tone) → length l ≤ n → length m ≤ n → length (cond b (t ∷ l) m) ≤ suc n
  one_or_none true t n l m h k = omega arith
  one_or_none false t n l m h k = omega arith

  few_chosen : (whole once : ℕ) (tones : List Tone) → length (chosen whole once tones) ≤ length tones
  unfolding chosen
  few_chosen whole once [] = omega arith
  few_chosen whole once (t ∷ l) =
      one_or_none (has whole t.interval || has once t.interval) t (length l) (chosen whole (without t.interval once) l) (chosen whole once l)
      (few_chosen whole (without t.interval once) l) (few_chosen whole once l)

  pub few_of : (whole once : ℕ) (tones : List Tone) → length (placed lowest limit wanted (chosen whole once tones)) ≤ length tones
  unfolding placed
  few_of whole once tones = le_trans (few_placed (length (chosen whole once tones)) (chosen whole once tones)) (few_chosen whole once tones)

pub few_guides : (lowest limit : ℕ) (pool : List Tone) → length (guide_keys lowest limit pool) ≤ length pool
unfolding guide_keys
few_guides lowest limit pool = few_of lowest _ _ _ _ pool

pub few_tensions : (lowest lead : ℕ) (pool : List Tone) → length (tension_keys lowest lead pool) ≤ length pool
unfolding tension_keys
few_tensions lowest lead pool = few_of lowest _ _ _ _ pool
