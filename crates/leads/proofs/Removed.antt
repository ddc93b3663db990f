-- A pool without one of its tones.
--     last_gone     the tone at a place that owns a key, with none behind that does, is the last that owns it
--     none_gone     where no tone owns the key, none leaves
--     owner_gone    so what leaves is what a search from the end has found
use Rattle.answer.proofs.Kit.{◌≡◌, refl, sym, ap, Bool, true, false, ◌||◌, List, [], ◌∷◌, ℕ, zero, suc, ◌+◌, ◌≤◌, ◌<◌, not-suc-le-zero, le_of_suc-le-suc, add-one, length, arith, Option, Some, None, drop, get_or}
use Rattle.std.specs.Prelude.{MatchOption}
use Rattle.answer.proofs.Tests.{said}
use Rattle.pool.specs.declared.pool.Tone.{Tone}
use Rattle.pool.specs.Pool.{any_tone, without_at}
use Rattle.leads.specs.Lead.{owns, without_last}
use Rattle.leads.specs.private.Leaves.{left_by}

or_right : (a b : Bool) → b ≡ true → a || b ≡ true
or_right true b e = refl
or_right false b e = e

not_left : (a b : Bool) → a || b ≡ false → a ≡ false
not_left true b e = e
not_left false b e = refl

not_right : (a b : Bool) → a || b ≡ false → b ≡ false
not_right true b e = absurd (said false (sym e))
not_right false b e = e

module _ (lowest limit key : ℕ) where
  owned_at : (d : Tone) (l : List Tone) (i : ℕ) → i < length l → owns lowest limit key (get_or l i d) ≡ true → any_tone (owns lowest limit key) l ≡ true
  unfolding any_tone
  owned_at d [] i h e = absurd (not-suc-le-zero h)
  owned_at d (t ∷ l) zero h e = rw e
  owned_at d (t ∷ l) (suc i) h e = or_right (owns lowest limit key t) _ (owned_at d l i (le_of_suc-le-suc h) e)

  last_at : (d : Tone) (l : List Tone) (i : ℕ) → i < length l → owns lowest limit key (get_or l i d) ≡ true
      → any_tone (owns lowest limit key) (drop (suc i) l) ≡ false → without_at i l ≡ without_last lowest limit key l
  unfolding without_at without_last
  last_at d [] i h e rest = absurd (not-suc-le-zero h)
  last_at d (t ∷ l) zero h e rest = rw (rest, e)
  last_at d (t ∷ l) (suc i) h e rest =
      rw (owned_at d l i (le_of_suc-le-suc h) e) (ap (λ (x : List Tone). t ∷ x) (last_at d l i (le_of_suc-le-suc h) e rest))

  last_gone : (d : Tone) (l : List Tone) (i : ℕ) → i < length l → owns lowest limit key (get_or l i d) ≡ true
      → any_tone (owns lowest limit key) (drop (i + 1) l) ≡ false → without_at i l ≡ without_last lowest limit key l
  last_gone d l i h e rest = last_at d l i h e (rw add-one at rest)

  none_gone : (l : List Tone) → any_tone (owns lowest limit key) l ≡ false → without_last lowest limit key l ≡ l
  unfolding any_tone without_last
  none_gone [] e = refl
  none_gone (t ∷ l) e = rw (not_right (owns lowest limit key t) _ e, not_left (owns lowest limit key t) _ e)

  -- none of those from a place on owns it
  abbrev pub NoneFrom : Tone → List Tone → ℕ → Type 0
  NoneFrom d l n = (k : ℕ) → n ≤ k → k < length l → owns lowest limit key (get_or l k d) ≡ false

  none_from : (d : Tone) (l : List Tone) (n : ℕ) → NoneFrom d l n → any_tone (owns lowest limit key) (drop n l) ≡ false
  unfolding any_tone
  none_from d [] zero h = refl
  none_from d [] (suc n) h = refl
  none_from d (t ∷ l) zero h = rw (h 0 (omega arith) (omega arith)) (none_from d l 0 (λ k from less. h (suc k) (omega arith) (omega arith)))
  none_from d (t ∷ l) (suc n) h = none_from d l n (λ k from less. h (suc k) (omega arith) (omega arith))

  -- what a search from the end has found: the last that owns it, or none
  abbrev pub IsLastOwner : Tone → List Tone → Option ℕ → Type 0
  IsLastOwner d l place = MatchOption place (NoneFrom d l 0) (λ i. (i < length l) × (owns lowest limit key (get_or l i d) ≡ true) × NoneFrom d l (i + 1))

  pub owner_gone : (d : Tone) (l : List Tone) (place : Option ℕ) → IsLastOwner d l place → without_last lowest limit key l ≡ left_by place l
  owner_gone d l None h = none_gone l (none_from d l 0 h)
  owner_gone d l (Some i) h = sym (last_gone d l i h.0 h.1 (none_from d l (i + 1) h.2))
