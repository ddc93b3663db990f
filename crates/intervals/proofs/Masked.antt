-- A set against a mask: one test asks for some classes and keeps others away.
--     and_has    a class is in the bitwise and of two sets where it is in both
--     and_or     a bitwise and goes over a bitwise or
--     once       no class is named twice
--     masked     of the classes named, those in the set are those asked for: it has all of these and none of the others
use Rattle.answer.proofs.Kit.{◌≡◌, refl, sym, ap, ap₂, ◌∙◌, Bool, true, false, not, ◌&&◌, and_assoc, and-false, true≢false, List, [], ◌∷◌, ◌++◌, ℕ, zero, suc, ◌+◌, ◌*◌, ◌/◌, ◌%◌, ◌^◌, ◌≤◌, min, max, add_comm, zero-add, zero-div, zero-min, min-eq_right, min-le_left, max-le, le_of_suc-le-suc, not-suc-le-zero, arith, bit_and, bit_or, and_shr, and_step, and_zero_r, or_shr, or_step, or_zero_r, T, eqb, eqb-true, eqb-false, eq-eqb, ne_eqb, not-true}
use lib.Arith.{bin_ind}
use Rattle.answer.proofs.Tests.{left, right, is_true}
use Rattle.intervals.specs.Sets.{has, has_all, has_none, bits}
use Rattle.intervals.proofs.Members.{missing, only, alone, joined, joined_has, with_fresh, or_digit}

-- the digit of a bitwise and
and_digit : (a b : ℕ) → bit_and a b % 2 ≡ min (a % 2) (b % 2)
and_digit a b =
    let least : min (a % 2) (b % 2) ≤ a % 2 = min-le_left (a % 2) (b % 2) in
    let step : bit_and a b ≡ bit_and (a / 2) (b / 2) * 2 + min (a % 2) (b % 2) = and_step a b in
    omega arith

-- of two digits
both_one : (a b : ℕ) → a ≤ 1 → b ≤ 1 → eqb (min a b) 1 ≡ eqb a 1 && eqb b 1
both_one zero b h k = rw zero-min
both_one (suc zero) b h k = rw (min-eq_right k)
both_one (suc (suc a)) b h k = absurd (not-suc-le-zero (le_of_suc-le-suc h))

pub and_has : (s m k : ℕ) → has (bit_and s m) k ≡ has s k && has m k
unfolding has
and_has s m k =
    ap (λ (x : ℕ). eqb (x % 2) 1) (and_shr s m k) ∙ ap (λ (x : ℕ). eqb x 1) (and_digit (s / 2 ^ k) (m / 2 ^ k))
    ∙ both_one (s / 2 ^ k % 2) (m / 2 ^ k % 2) (omega arith) (omega arith)

-- of three digits
min_max : (x a b : ℕ) → x ≤ 1 → a ≤ 1 → b ≤ 1 → min x (max a b) ≡ max (min x a) (min x b)
min_max zero a b h i k = simp zero-min
min_max (suc zero) a b h i k = rw (min-eq_right (max-le i k), min-eq_right i, min-eq_right k)
min_max (suc (suc x)) a b h i k = absurd (not-suc-le-zero (le_of_suc-le-suc h))

pub and_or : (s a b : ℕ) → bit_and s (bit_or a b) ≡ bit_or (bit_and s a) (bit_and s b)
and_or =
    bin_ind (λ (n : ℕ). (a b : ℕ) → bit_and n (bit_or a b) ≡ bit_or (bit_and n a) (bit_and n b)) (λ a b. refl)
    (λ n ih a b. and_step n (bit_or a b)
    ∙ ap₂ (λ (x y : ℕ). x * 2 + y)
    (ap (bit_and (n / 2)) (or_shr a b 1) ∙ ih (a / 2) (b / 2) ∙ sym (ap₂ bit_or (and_shr n a 1) (and_shr n b 1)))
    (ap (min (n % 2)) (or_digit a b) ∙ min_max (n % 2) (a % 2) (b % 2) (omega arith) (omega arith) (omega arith)
    ∙ sym (ap₂ max (and_digit n a) (and_digit n b)))
    ∙ sym (or_step (bit_and n a) (bit_and n b)))

-- equal numbers more on both sides
eqb_more : (n x y : ℕ) → eqb (n + x) (n + y) ≡ eqb x y
eqb_more n x y = by_case (eqb x y) refl
  where
    by_case : (b : Bool) → eqb x y ≡ b → eqb (n + x) (n + y) ≡ b
    by_case true e = eq-eqb (n + x) (n + y) (ap (◌+◌ n) (eqb-true x y e))
    by_case false e = ne_eqb (n + x) (n + y) (let other = eqb-false x y e in omega (arith, other))

-- a class is in the one and not in the other
differ : (a b k : ℕ) → has a k ≡ true → has b k ≡ false → a ≡ b → ⊥
differ a b k here away e = true≢false (sym here ∙ ap (λ (x : ℕ). has x k) e ∙ away)

-- a class that was put in
put_in : (s k : ℕ) → has s k ≡ false → has (2 ^ k + s) k ≡ true
put_in s k fresh = ap (λ (x : ℕ). has x k) (add_comm (2 ^ k) s) ∙ joined_has s k fresh k ∙ rw (eq-eqb k k refl)

-- a mask m and the classes asked for, w, with a class k that is in neither
module _ (s m w k : ℕ) (m-fresh : has m k ≡ false) (w-fresh : has w k ≡ false) where
  fresh : has (bit_and s m) k ≡ false
  fresh = and_has s m k ∙ ap (◌&&◌ (has s k)) m-fresh ∙ and-false (has s k)

  -- the mask with the class
  and_more : bit_and s (2 ^ k + m) ≡ only (has s k) k + bit_and s m
  and_more =
      ap (bit_and s) (add_comm (2 ^ k) m ∙ sym (joined m k m-fresh)) ∙ and_or s m (2 ^ k)
      ∙ ap (bit_or (bit_and s m)) (alone s k) ∙ by_case (has s k)
    where
      by_case : (b : Bool) → bit_or (bit_and s m) (only b k) ≡ only b k + bit_and s m
      by_case true = joined (bit_and s m) k fresh ∙ add_comm (bit_and s m) (2 ^ k)
      by_case false = or_zero_r (bit_and s m) ∙ sym (zero-add (bit_and s m))

  -- the class asked for
  asked_more : eqb (bit_and s (2 ^ k + m)) (2 ^ k + w) ≡ has s k && eqb (bit_and s m) w
  asked_more = ap (λ (x : ℕ). eqb x (2 ^ k + w)) and_more ∙ by_case (has s k)
    where
      by_case : (b : Bool) → eqb (only b k + bit_and s m) (2 ^ k + w) ≡ b && eqb (bit_and s m) w
      by_case true = eqb_more (2 ^ k) (bit_and s m) w
      by_case false = rw zero-add (ne_eqb (bit_and s m) (2 ^ k + w) (λ e. differ (2 ^ k + w) (bit_and s m) k (put_in w k w-fresh) fresh (sym e)))

  -- and kept away
  kept_more : eqb (bit_and s (2 ^ k + m)) w ≡ not (has s k) && eqb (bit_and s m) w
  kept_more = ap (λ (x : ℕ). eqb x w) and_more ∙ by_case (has s k)
    where
      by_case : (b : Bool) → eqb (only b k + bit_and s m) w ≡ not b && eqb (bit_and s m) w
      by_case true = ne_eqb (2 ^ k + bit_and s m) w (differ (2 ^ k + bit_and s m) w k (put_in (bit_and s m) k fresh) w-fresh)
      by_case false = rw zero-add

unfoldable pub once : List ℕ → Bool
once [] = true
once (k ∷ more) = not (has (bits more) k) && once more

module _ (k : ℕ) (more : List ℕ) (t : T (once (k ∷ more))) where
  -- the first is not among the others, of which each is named once
  first_once : has (bits more) k ≡ false
  unfolding once
  first_once = not-true (has (bits more) k) (is_true _ (left (not (has (bits more) k)) (once more) t))

  -- so that it is one number more
  bits_more : bits (k ∷ more) ≡ 2 ^ k + bits more
  bits_more = with_fresh k (bits more) first_once ∙ add_comm (bits more) (2 ^ k)

  rest_once : T (once more)
  unfolding once
  rest_once = right (not (has (bits more) k)) (once more) t

-- nothing is asked for
kept : (s : ℕ) (away : List ℕ) → T (once away) → eqb (bit_and s (bits away)) 0 ≡ has_none s away
unfolding has_none
kept s [] t = ap (λ (x : ℕ). eqb x 0) (and_zero_r s)
kept s (k ∷ away) t =
    let none : has 0 k ≡ false = missing 0 k (ap (λ (x : ℕ). x % 2) (zero-div (2 ^ k))) in
    ap (λ (m : ℕ). eqb (bit_and s m) 0) (bits_more k away t) ∙ kept_more s (bits away) 0 k (first_once k away t) none ∙ ap (◌&&◌ (not (has s k))) (kept s away (rest_once k away t))

pub masked : (s : ℕ) (here away : List ℕ) → T (once here) → T (once (here ++ away))
    → eqb (bit_and s (bits (here ++ away))) (bits here) ≡ has_all s here && has_none s away
unfolding has_all
masked s [] away h t = kept s away t
masked s (k ∷ here) away h t =
    ap₂ (λ (m w : ℕ). eqb (bit_and s m) w) (bits_more k (here ++ away) t) (bits_more k here h)
    ∙ asked_more s (bits (here ++ away)) (bits here) k (first_once k (here ++ away) t) (first_once k here h)
    ∙ ap (◌&&◌ (has s k)) (masked s here away (rest_once k here h) (rest_once k (here ++ away) t))
    ∙ sym (and_assoc (has s k) (has_all s here) (has_none s away))
