-- Which keys are a tone's: those of the range that are some twelves above the key of its class.
--     none_below   no key below the first
--     by_twelves   from the first on, those of the range whose distance from it has no rest by twelve
use Rattle.answer.proofs.Kit.{◌≡◌, refl, sym, ap, ◌∙◌, Bool, true, false, cond, ◌&&◌, ◌||◌, and-true, and-false, or-false, List, ◌∷◌, ℕ, zero, suc, ◌+◌, ◌-◌, ◌*◌, ◌%◌, ◌≤◌, ◌<◌, dec_lt, arith, eqb, leb, ltb, eq-eqb, ne_eqb}
use Rattle.intervals.specs.Sets.{is_in}
use Rattle.keys.specs.Choice.{keys_from}

module _ (lowest limit k : ℕ) where
  abbrev fits : ℕ → Bool
  fits key = leb lowest key && ltb key limit

  -- a key, and the rest of them
  step : (key : ℕ) (l : List ℕ) (b : Bool) → is_in k (cond b (key ∷ l) l) ≡ b && eqb k key || is_in k l
  unfolding is_in
  step key l true = refl
  step key l false = refl

  pub none_below : (n key : ℕ) → k < key → is_in k (keys_from lowest limit n key) ≡ false
  unfolding is_in keys_from
  none_below zero key h = refl
  none_below (suc n) key h =
      let other : k ≡ key → ⊥ = λ e. omega arith in
      step key (keys_from lowest limit n (key + 12)) (fits key)
      ∙ rw (ne_eqb k key other, and-false (fits key)) (none_below n (key + 12) (omega arith))

  pub by_twelves : (n key : ℕ) → key ≤ k → k < key + 12 * n → is_in k (keys_from lowest limit n key) ≡ fits k && eqb ((k - key) % 12) 0
  unfolding keys_from
  by_twelves zero key h less = absurd (let no_way : ⊥ = omega arith in no_way)
  by_twelves (suc n) key h less =
      step key (keys_from lowest limit n (key + 12)) (fits key) ∙ by_order (dec_lt key k) (dec_lt k (key + 12)) (by_twelves n (key + 12))
    where
      rest : List ℕ
      rest = keys_from lowest limit n (key + 12)

      by_order : Dec (key < k) → Dec (k < key + 12) → (key + 12 ≤ k → k < key + 12 + 12 * n → is_in k rest ≡ fits k && eqb ((k - (key + 12)) % 12) 0)
          → fits key && eqb k key || is_in k rest ≡ fits k && eqb ((k - key) % 12) 0
      by_order (no least) near more =
          let e : k ≡ key = omega arith in
          let no-rest : (k - key) % 12 ≡ 0 = omega arith in
          rw (none_below n (key + 12) (omega arith), eq-eqb k key e, eq-eqb ((k - key) % 12) 0 no-rest, and-true (fits key), and-true (fits k), or-false (fits key))
          (ap fits (sym e))
      by_order (yes above) (yes near) more =
          let other : k ≡ key → ⊥ = λ e. omega arith in
          let part : (k - key) % 12 ≡ 0 → ⊥ = λ e. omega arith in
          rw (none_below n (key + 12) near, ne_eqb k key other, ne_eqb ((k - key) % 12) 0 part, and-false (fits key), and-false (fits k))
      by_order (yes above) (no far) more =
          let other : k ≡ key → ⊥ = λ e. omega arith in
          let same : (k - (key + 12)) % 12 ≡ (k - key) % 12 = omega arith in
          rw (ne_eqb k key other, and-false (fits key)) (more (omega arith) (omega arith) ∙ ap (λ (r : ℕ). fits k && eqb r 0) same)
