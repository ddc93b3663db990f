-- Theorems on how many keys a class has, for every range.
--     from_48     a range begins at 48 at the lowest: what is below is no key
--     as_many     a key for each twelve that the range holds, and at most one more
--     some_key    so a range of twelve keys leaves no class without one
use Rattle.answer.proofs.Kit.{◌≡◌, refl, ap, ◌∙◌, List, ◌∷◌, ℕ, zero, suc, ◌+◌, ◌*◌, ◌-◌, ◌≤◌, ◌<◌, dec_lt, arith, leb, ltb, ◌&&◌, cond, length, le-leb}
use Rattle.keys.specs.Choice.{keys_from, keys_of}
use Rattle.keys.proofs.Climb.{passed, taken, past_limit}

-- how many keys a class has
abbrev pub key_count : ℕ → ℕ → ℕ → ℕ
key_count lowest limit class = length (keys_of lowest limit class)

module _ (lowest limit : ℕ) where
  abbrev count : ℕ → ℕ → ℕ
  count n key = length (keys_from lowest limit n key)

  -- a climb takes a step: the key is passed, or taken, or past the limit
  by_step : (P : ℕ → Type 0) (n key : ℕ) → (key < lowest → P (count n (key + 12))) → (lowest ≤ key → key < limit → P (suc (count n (key + 12))))
      → (lowest ≤ key → limit ≤ key → P 0) → P (count (suc n) key)
  by_step P n key pass take end = by_order (dec_lt key lowest) (dec_lt key limit)
    where
      by_order : Dec (key < lowest) → Dec (key < limit) → P (count (suc n) key)
      by_order (yes low) high = rw (passed lowest limit n key low) (pass low)
      by_order (no low) (yes high) = rw (taken lowest limit n key (omega arith) high) (take (omega arith) high)
      by_order (no low) (no high) = rw (past_limit lowest limit (suc n) key (omega arith)) (end (omega arith) (omega arith))

  few_above : (n key : ℕ) → 12 * count n key ≤ limit - key + 11
  unfolding keys_from
  few_above zero key = omega arith
  few_above (suc n) key =
      let rest = few_above n (key + 12) in
      by_step (λ (k : ℕ). 12 * k ≤ limit - key + 11) n key (λ low. omega (arith, rest)) (λ low high. omega (arith, rest)) (λ low high. omega arith)

  few : (n key : ℕ) → 12 * count n key ≤ limit - lowest + 11
  unfolding keys_from
  few zero key = omega arith
  few (suc n) key =
      by_step (λ (k : ℕ). 12 * k ≤ limit - lowest + 11) n key (λ low. few n (key + 12)) (λ low high. omega (arith, few_above n (key + 12))) (λ low high. omega arith)

  many_above : (n key : ℕ) → lowest ≤ key → limit ≤ key + 12 * n → limit - key ≤ 12 * count n key
  unfolding keys_from
  many_above zero key low end = omega arith
  many_above (suc n) key low end =
      by_step (λ (k : ℕ). limit - key ≤ 12 * k) n key (λ less. absurd (let no_way : ⊥ = omega arith in no_way))
      (λ low high. omega (arith, many_above n (key + 12) (omega arith) (omega arith))) (λ low high. omega arith)

  many : (n key : ℕ) → key < lowest + 12 → limit ≤ key + 12 * n → limit - lowest ≤ 12 * count n key + 11
  unfolding keys_from
  many zero key near end = omega arith
  many (suc n) key near end = by_order (dec_lt key lowest) (λ low. many n (key + 12) (omega arith) (omega arith))
    where
      by_order : Dec (key < lowest) → (key < lowest → limit - lowest ≤ 12 * count n (key + 12) + 11) → limit - lowest ≤ 12 * count (suc n) key + 11
      by_order (yes low) rest = rw (passed lowest limit n key low) (rest low)
      by_order (no low) rest = omega (arith, many_above (suc n) key (omega arith) end)

  pub as_many : (class : ℕ) → class < 12 → 48 ≤ lowest → limit ≤ 255
      → (limit - lowest ≤ 12 * key_count lowest limit class + 11) × (12 * key_count lowest limit class ≤ limit - lowest + 11)
  unfolding keys_of
  as_many class h low high = (many 18 (48 + class) (omega arith) (omega arith), few 18 (48 + class))

  pub some_key : (class : ℕ) → class < 12 → 48 ≤ lowest → limit ≤ 255 → lowest + 12 ≤ limit → 0 < key_count lowest limit class
  some_key class h low high wide = omega (arith, (as_many class h low high).0)

pub from_48 : (lowest limit class : ℕ) → lowest ≤ 48 → keys_of lowest limit class ≡ keys_of 48 limit class
unfolding keys_from keys_of
from_48 lowest limit class low = same 18 (48 + class) (omega arith)
  where
    same : (n key : ℕ) → 48 ≤ key → keys_from lowest limit n key ≡ keys_from 48 limit n key
    same zero key h = refl
    same (suc n) key h =
        ap (λ (l : List ℕ). cond (leb lowest key && ltb key limit) (key ∷ l) l) (same n (key + 12) (omega arith))
        ∙ rw (le-leb lowest key (omega arith), le-leb 48 key h) refl
