-- `keys::nearest::first_key` meets its contract: by whether the class's own key, or the next, is within the range.
use Rattle.answer.proofs.Kit.{◌≡◌, ap, ap₂, ◌∙◌, ℕ, ◌+◌, ◌-◌, ◌*◌, ◌/◌, ◌≤◌, ◌<◌, dec_lt, arith, ltb, lt-ltb, le-ltb}
use mir.Val.{bool_byte}
use Rattle.keys.proofs.nearest.first_key.Goals as goal

-- one octave up where the key is below the lowest, or none
is_first : (key low up : ℕ) → up ≡ bool_byte (ltb key low) → low ≤ key + up * 12 → key + up * 12 ≡ key + (low - key + 11) / 12 * 12
is_first key low up e h = by_order (dec_lt key low)
  where
    by_order : Dec (key < low) → key + up * 12 ≡ key + (low - key + 11) / 12 * 12
    by_order (yes less) = let one : up ≡ 1 = e ∙ ap bool_byte (lt-ltb key low less) in omega arith
    by_order (no more) = let none : up ≡ 0 = e ∙ ap bool_byte (le-ltb key low (omega arith)) in omega arith

-- where both are below it the own one is
own_below : (key low up : ℕ) → key + up * 12 < low → key ≤ low
own_below key low up h = omega arith

pub returns-then-low-near : goal.returns-then-low-near
returns-then-low-near c =
    is_first _ _ _ c.from.ensures c.if-low-near.true
    ∙ ap₂ (λ (class low : ℕ). 48 + class + (low - (48 + class) + 11) / 12 * 12) c.from-key.ensures c.from-low.ensures

pub overflow_sub-result : goal.overflow_sub-result
overflow_sub-result c = own_below _ _ _ c.if-low-near.false
