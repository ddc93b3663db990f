-- A set with a class put in that it had not: what is in it, how many they are, and how large it is.
--     held, absent    the digit of a class that is in a set, and of one that is not
--     present, missing     and from the digit to the class
--     alone           a set's bitwise and with a class is that class, or nothing
--     joined          putting it in is a bitwise or
--     joined_less     the set stays below the same power of two
--     joined_ones     it has one class more
--     joined_has      and that class beside its own
--     with_held, with_fresh, with_has, with_less     the same of a class that it may have had
--     bits_has        a number is in the set of a list where it is in the list
--     bit_least       a class that a set has is worth no more than it
--     taken_has       a set with a class taken out that it had: it has the others
use Rattle.answer.proofs.Kit.{◌≡◌, refl, sym, ap, ap₂, subst, ◌∙◌, Bool, true, false, not, cond, ◌&&◌, ◌||◌, and-true, List, [], ◌∷◌, ℕ, zero, suc, ◌+◌, ◌-◌, ◌*◌, ◌/◌, ◌%◌, ◌^◌, ◌<◌, ◌≤◌, max, div-add-mod', mod-lt, max-le, max-zero, max-eq_right, add-mul, one-mul, zero-add, suc-add, add-sub_of_le, div_self, div-eq_of_lt, mul-div_cancel_left, mul-mod_left, pow-suc, add-div_right, zero-div, dec_le, one-add, arith, bit_and, bit_or, and_block, and_mask, and_zero_r, or_disjoint, or_lt, or_shr, or_step, ones, ones_step, ones_cat, eqb, pow_pos, pow-lt, pow-add, eqb-true, eqb-false, eq-eqb, ne_eqb}
use Rattle.intervals.specs.Sets.{has, with_member, bits, is_in}

pub held : (s c : ℕ) → has s c ≡ true → s / 2 ^ c % 2 ≡ 1
unfolding has
held s c e = eqb-true (s / 2 ^ c % 2) 1 e

pub absent : (s c : ℕ) → has s c ≡ false → s / 2 ^ c % 2 ≡ 0
unfolding has
absent s c e = let other = eqb-false (s / 2 ^ c % 2) 1 e in omega (arith, other)

pub present : (s c : ℕ) → (s / 2 ^ c % 2 ≡ 0 → ⊥) → has s c ≡ true
unfolding has
present s c other = eq-eqb (s / 2 ^ c % 2) 1 (omega (arith, other))

pub missing : (s c : ℕ) → s / 2 ^ c % 2 ≡ 0 → has s c ≡ false
unfolding has
missing s c e = ne_eqb (s / 2 ^ c % 2) 1 (let other : s / 2 ^ c % 2 ≡ 1 → ⊥ = omega arith in other)

-- a set by the digits from a class up and those below it
parted : (s c : ℕ) → s ≡ s / 2 ^ c * 2 ^ c + s % 2 ^ c
parted s c = sym (div-add-mod' s (2 ^ c))

rest_less : (s c : ℕ) → s % 2 ^ c < 2 ^ c
rest_less s c = mod-lt s (pow_pos c)

-- a class by itself, or none
abbrev pub only : Bool → ℕ → ℕ
only b c = cond b (2 ^ c) 0

pub alone : (s c : ℕ) → bit_and s (2 ^ c) ≡ only (has s c) c
alone s c =
    let one : 2 ^ c ≡ 1 * 2 ^ c + 0 = omega arith in
    ap₂ bit_and (parted s c) one ∙ and_block c (s / 2 ^ c) 1 (s % 2 ^ c) 0 (rest_less s c) (pow_pos c)
    ∙ ap₂ (λ (x y : ℕ). x * 2 ^ c + y) (and_mask (s / 2 ^ c) 1) (and_zero_r (s % 2 ^ c)) ∙ by_case (has s c) refl
  where
    by_case : (b : Bool) → has s c ≡ b → s / 2 ^ c % 2 * 2 ^ c + 0 ≡ only b c
    by_case true e = rw (held s c e) (omega arith)
    by_case false e = rw (absent s c e) (omega arith)

module _ (s c : ℕ) (no_class : has s c ≡ false) where
  -- the digits from the class up, which are even in number
  even : s / 2 ^ c % 2 ≡ 0
  even = absent s c no_class

  apart : bit_and s (2 ^ c) ≡ 0
  apart = alone s c ∙ ap (λ (b : Bool). only b c) no_class

  pub joined : bit_or s (2 ^ c) ≡ s + 2 ^ c
  joined = or_disjoint s (2 ^ c) apart

  pub joined_less : (n : ℕ) → s < 2 ^ n → 2 ^ c < 2 ^ n → s + 2 ^ c < 2 ^ n
  joined_less n h k = subst (λ (x : ℕ). x < 2 ^ n) joined (or_lt n s (2 ^ c) h k)

  -- the digits from the class up, with the class among them
  next_ones : ones (s / 2 ^ c + 1) ≡ suc (ones (s / 2 ^ c))
  next_ones =
      let odd : (s / 2 ^ c + 1) % 2 ≡ 1 = omega (arith, even) in
      let half : (s / 2 ^ c + 1) / 2 ≡ s / 2 ^ c / 2 = omega (arith, even) in
      ones_step (s / 2 ^ c + 1) ∙ ap₂ ◌+◌ odd (ap ones half)
      ∙ sym (ap suc (ones_step (s / 2 ^ c) ∙ ap (λ (x : ℕ). x + ones (s / 2 ^ c / 2)) even ∙ zero-add (ones (s / 2 ^ c / 2))) ∙ sym (one-add (ones (s / 2 ^ c / 2))))

  pub joined_ones : ones (s + 2 ^ c) ≡ suc (ones s)
  joined_ones =
      let more : s + 2 ^ c ≡ (s / 2 ^ c + 1) * 2 ^ c + s % 2 ^ c = ap (λ (x : ℕ). x + 2 ^ c) (parted s c) ∙ rw (add-mul, one-mul) (omega arith) in
      ap ones more ∙ ones_cat c (s / 2 ^ c + 1) (s % 2 ^ c) (rest_less s c)
      ∙ ap (λ (x : ℕ). x + ones (s % 2 ^ c)) next_ones
      ∙ suc-add (ones (s / 2 ^ c)) (ones (s % 2 ^ c)) ∙ ap suc (sym (ap ones (parted s c) ∙ ones_cat c (s / 2 ^ c) (s % 2 ^ c) (rest_less s c)))

-- the digit of a bitwise or
pub or_digit : (a b : ℕ) → bit_or a b % 2 ≡ max (a % 2) (b % 2)
or_digit a b =
    let most : max (a % 2) (b % 2) ≤ 1 = max-le (omega arith) (omega arith) in
    let step : bit_or a b ≡ bit_or (a / 2) (b / 2) * 2 + max (a % 2) (b % 2) = or_step a b in
    omega arith

-- the digits of a power of two
pow_digit : (c k : ℕ) → 2 ^ c / 2 ^ k % 2 ≡ cond (eqb k c) 1 0
pow_digit c k = by_order (dec_le k c)
  where
    above : (d : ℕ) → 2 ^ (k + suc d) / 2 ^ k % 2 ≡ 0
    above d =
        ap (λ (x : ℕ). x / 2 ^ k % 2) (pow-add 2 k (suc d)) ∙ ap (λ (x : ℕ). x % 2) (mul-div_cancel_left (2 ^ suc d) (pow_pos k))
        ∙ ap (λ (x : ℕ). x % 2) (pow-suc 2 d) ∙ mul-mod_left (2 ^ d) 2

    at_or_above : (d : ℕ) → k + d ≡ c → 2 ^ c / 2 ^ k % 2 ≡ cond (eqb k c) 1 0
    at_or_above zero e = let same : k ≡ c = omega arith in rw (eq-eqb k c same, same) (ap (λ (x : ℕ). x % 2) (div_self (pow_pos c)))
    at_or_above (suc d) e = let other : k ≡ c → ⊥ = omega arith in rw (ne_eqb k c other, ← e) (above d)

    by_order : Dec (k ≤ c) → 2 ^ c / 2 ^ k % 2 ≡ cond (eqb k c) 1 0
    by_order (yes h) = at_or_above (c - k) (add-sub_of_le h)
    by_order (no h) =
        let less : c < k = omega arith in
        let other : k ≡ c → ⊥ = omega arith in
        rw (ne_eqb k c other) (ap (λ (x : ℕ). x % 2) (div-eq_of_lt (pow-lt less)))

-- of two digits
either : (a : ℕ) (b : Bool) → a ≤ 1 → eqb (max a (cond b 1 0)) 1 ≡ b || eqb a 1
either a true h = rw (max-eq_right h)
either a false h = rw max-zero

pub joined_has : (s c : ℕ) → has s c ≡ false → (k : ℕ) → has (s + 2 ^ c) k ≡ eqb k c || has s k
unfolding has
joined_has s c no_class k =
    ap (λ (x : ℕ). eqb (x / 2 ^ k % 2) 1) (sym (joined s c no_class))
    ∙ ap (λ (x : ℕ). eqb (x % 2) 1) (or_shr s (2 ^ c) k)
    ∙ ap (λ (x : ℕ). eqb x 1) (or_digit (s / 2 ^ k) (2 ^ c / 2 ^ k) ∙ ap (max (s / 2 ^ k % 2)) (pow_digit c k))
    ∙ either (s / 2 ^ k % 2) (eqb k c) (omega arith)

-- what is in a set with a number put in, and how large it is
module _ (k s : ℕ) where
  pub with_held : has s k ≡ true → with_member k s ≡ s
  unfolding has
  with_held e = ap (λ (b : Bool). cond b s (s + 2 ^ k)) e

  pub with_fresh : has s k ≡ false → with_member k s ≡ s + 2 ^ k
  unfolding has
  with_fresh e = ap (λ (b : Bool). cond b s (s + 2 ^ k)) e

  pub with_has : (j : ℕ) → has (with_member k s) j ≡ eqb j k || has s j
  with_has j = by_case (has s k) refl
    where
      its_own : has s k ≡ true → (b : Bool) → eqb j k ≡ b → has s j ≡ b || has s j
      its_own e true same = ap (has s) (eqb-true j k same) ∙ e
      its_own e false other = refl

      by_case : (b : Bool) → has s k ≡ b → has (with_member k s) j ≡ eqb j k || has s j
      by_case true e = ap (λ (x : ℕ). has x j) (with_held e) ∙ its_own e (eqb j k) refl
      by_case false e = ap (λ (x : ℕ). has x j) (with_fresh e) ∙ joined_has s k e j

  pub with_less : (n : ℕ) → s < 2 ^ n → k < n → with_member k s < 2 ^ n
  with_less n h l = by_case (has s k) refl
    where
      by_case : (b : Bool) → has s k ≡ b → with_member k s < 2 ^ n
      by_case true e = subst (λ (x : ℕ). x < 2 ^ n) (sym (with_held e)) h
      by_case false e = subst (λ (x : ℕ). x < 2 ^ n) (sym (with_fresh e)) (joined_less s k e n h (pow-lt l))

-- the set of a list has its members, and no others
pub bits_has : (l : List ℕ) (k : ℕ) → has (bits l) k ≡ is_in k l
unfolding is_in
bits_has [] k = missing 0 k (ap (λ (x : ℕ). x % 2) (zero-div (2 ^ k)))
bits_has (j ∷ more) k = with_has j (bits more) k ∙ ap (◌||◌ (eqb k j)) (bits_has more k)

-- a set with a class taken out: its digit there is the one that goes, and the class put back makes the set
module _ (s c : ℕ) (class : has s c ≡ true) where
  pub bit_least : 2 ^ c ≤ s
  bit_least =
      let odd = held s c class in
      by_order odd (dec_le (2 ^ c) s)
    where
      by_order : s / 2 ^ c % 2 ≡ 1 → Dec (2 ^ c ≤ s) → 2 ^ c ≤ s
      by_order odd (yes h) = h
      by_order odd (no h) = let less : s < 2 ^ c = omega arith in absurd (let no_way : ⊥ = omega (arith, odd, div-eq_of_lt less) in no_way)

  put_back : s - 2 ^ c + 2 ^ c ≡ s
  put_back = omega (arith, bit_least)

  gone : has (s - 2 ^ c) c ≡ false
  unfolding has
  gone =
      let odd = held s c class in
      let quotient : s / 2 ^ c ≡ (s - 2 ^ c) / 2 ^ c + 1 = ap (λ (x : ℕ). x / 2 ^ c) (sym put_back) ∙ add-div_right (s - 2 ^ c) (pow_pos c) in
      missing (s - 2 ^ c) c (omega (arith, odd, quotient))

  pub taken_has : (k : ℕ) → has (s - 2 ^ c) k ≡ has s k && not (eqb k c)
  taken_has k = by_case (eqb k c) refl
    where
      with_it : has s k ≡ eqb k c || has (s - 2 ^ c) k
      with_it = ap (λ (x : ℕ). has x k) (sym put_back) ∙ joined_has (s - 2 ^ c) c gone k

      by_case : (b : Bool) → eqb k c ≡ b → has (s - 2 ^ c) k ≡ has s k && not b
      by_case true e = ap (has (s - 2 ^ c)) (eqb-true k c e) ∙ gone ∙ sym (rw (with_it, e))
      by_case false e = sym (rw (with_it, e) (and-true (has (s - 2 ^ c) k)))
