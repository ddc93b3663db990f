-- The lowest bit of a set of intervals is its first interval: the rest of them are those of the set without that bit.
--     First      an interval is the first of a set, at a number below 23
--     first_of   the count of zeros below the lowest bit finds it
--     lowest_of, number_small, bit, bit_within, less      a turn of a loop that takes it: its number, its bit as the code has it (a 1,
--                shifted), and what is left once it is taken
use Rattle.answer.proofs.Kit.{◌≡◌, refl, sym, ap, subst, ◌∙◌, Bool, true, cond, ◌&&◌, List, [], ◌∷◌, ⊎_elim, ℕ, zero, suc, ◌*◌, ◌/◌, ◌%◌, ◌-◌, ◌^◌, ◌≤◌, ◌<◌, arith, pow-suc, div-div-eq-div-mul, div-one, eq-or-lt_of_le, not-suc-le-zero, le_of_suc-le-suc, count_trailing_zeros, under, T, eqb, eqb→eq, length, pow_pos, eq-eqb, ne_eqb, Some}
use Rattle.answer.proofs.Tests.{left, right}
use Rattle.intervals.specs.Sets.{has}
use Rattle.intervals.proofs.Width.{bit_held}
use Rattle.intervals.specs.Intervals.{intervals, nth, numbered, number_of}
use Rattle.intervals.specs.declared.interval.Interval.{Interval}
use Rattle.rules.specs.Classes.{keep, intervals_in}

-- the members of a list at whose places a number has a bit
marked : List Interval → ℕ → List Interval
marked [] n = []
marked (i ∷ more) n = cond (eqb (n % 2) 1) (i ∷ marked more (n / 2)) (marked more (n / 2))

-- intervals numbered from b on
counted : ℕ → List Interval → Bool
counted b [] = true
counted b (i ∷ more) = eqb (number_of i) b && counted (suc b) more

keep_marked : (b : ℕ) (l : List Interval) → T (counted b l) → (n : ℕ) → keep (λ i. has n (number_of i)) l ≡ marked l (n / 2 ^ b)
unfolding keep marked counted has
keep_marked b [] t n = refl
keep_marked b (i ∷ more) t n =
    let here : number_of i ≡ b = eqb→eq (number_of i) b (left (eqb (number_of i) b) (counted (suc b) more) t) in
    let half : n / 2 ^ suc b ≡ n / 2 ^ b / 2 = rw (pow-suc, ← div-div-eq-div-mul) in
    let rest = keep_marked (suc b) more (right (eqb (number_of i) b) (counted (suc b) more) t) n ∙ ap (marked more) half in
    rw (here, rest)

in_marked : (n : ℕ) → intervals_in n ≡ marked intervals n
unfolding intervals counted intervals_in
in_marked n = keep_marked 0 intervals tt n ∙ ap (marked intervals) (div-one n)

record Lowest (l : List Interval) (n k : ℕ) : Type 0 where
  pub first : Interval
  pub there : nth l k ≡ Some first
  pub within : k < length l
  pub bit : 2 ^ k ≤ n
  pub rest : marked l n ≡ first ∷ marked l (n - 2 ^ k)

odd_lowest : (i : Interval) (more : List Interval) (n : ℕ) → n % 2 ≡ 1 → Lowest (i ∷ more) n 0
unfolding marked nth
odd_lowest i more n odd =
    let none : (n - 1) % 2 ≡ 1 → ⊥ = λ e. omega arith in
    let half : (n - 1) / 2 ≡ n / 2 = omega arith in
    record {
      first = i;
      there = refl;
      within = omega arith;
      bit = omega arith;
      rest = rw (eq-eqb (n % 2) 1 odd, ne_eqb ((n - 1) % 2) 1 none, half);
    }

even_lowest : (i : Interval) (more : List Interval) (n k : ℕ) → n % 2 ≡ 0 → Lowest more (n / 2) k → Lowest (i ∷ more) n (suc k)
unfolding marked nth
even_lowest i more n k even low =
    let twice : 2 ^ suc k ≡ 2 ^ k * 2 = pow-suc 2 k in
    let bit = low.bit in
    let none : n % 2 ≡ 1 → ⊥ = λ e. omega arith in
    let none' : (n - 2 ^ suc k) % 2 ≡ 1 → ⊥ = λ e. omega arith in
    let half : (n - 2 ^ suc k) / 2 ≡ n / 2 - 2 ^ k = omega arith in
    record {
      first = low.first;
      there = low.there;
      within = omega (arith, low.within);
      bit = omega arith;
      rest = rw (ne_eqb (n % 2) 1 none, ne_eqb ((n - 2 ^ suc k) % 2) 1 none', half) low.rest;
    }

lowest : (d : ℕ) (l : List Interval) (n : ℕ) → length l ≤ d → 0 < n → n < 2 ^ length l → Lowest l n (count_trailing_zeros d n)
unfolding count_trailing_zeros
lowest zero (i ∷ more) n h p s = absurd (not-suc-le-zero h)
lowest d [] n h p s = absurd (let no : ⊥ = omega arith in no)
lowest (suc d) (i ∷ more) n h p s =
    ⊎_elim
    (λ e. subst (λ (m : ℕ). Lowest (i ∷ more) n (under m (count_trailing_zeros d (n / 2)))) (sym e) (odd_lowest i more n e))
    (λ l.
    let e : n % 2 ≡ 0 = omega arith in
    let twice : 2 ^ suc (length more) ≡ 2 ^ length more * 2 = pow-suc 2 (length more) in
    subst (λ (m : ℕ). Lowest (i ∷ more) n (under m (count_trailing_zeros d (n / 2)))) (sym e)
    (even_lowest i more n (count_trailing_zeros d (n / 2)) e (lowest d more (n / 2) (le_of_suc-le-suc h) (omega arith) (omega arith))))
    (let top : n % 2 ≤ 1 = omega arith in eq-or-lt_of_le top)

-- the first interval of a set, and its number
pub record First (n k : ℕ) : Type 0 where
  pub first : Interval
  pub there : numbered k ≡ Some first
  pub within : k < 23
  pub bit : 2 ^ k ≤ n
  pub rest : intervals_in n ≡ first ∷ intervals_in (n - 2 ^ k)

pub first_of : (n : ℕ) → 0 < n → n < 2 ^ 23 → First n (count_trailing_zeros 32 n)
unfolding intervals numbered
first_of n p h =
    let low = lowest 32 intervals n (omega arith) p h in
    record {
      first = low.first;
      there = low.there;
      within = low.within;
      bit = low.bit;
      rest = in_marked n ∙ low.rest ∙ ap (λ (l : List Interval). low.first ∷ l) (sym (in_marked (n - 2 ^ count_trailing_zeros 32 n)));
    }

module _ (left : ℕ) (some : left ≡ 0 → ⊥) (small : left < 2 ^ 23) where
  pub lowest_of : First left (count_trailing_zeros 32 left)
  lowest_of = first_of left (let p : 0 < left = omega arith in p) small

  pub number_small : count_trailing_zeros 32 left < 32
  number_small = omega (arith, lowest_of.within)

  pub bit : (1 * 2 ^ count_trailing_zeros 32 left) % 2 ^ 32 ≡ 2 ^ count_trailing_zeros 32 left
  bit = bit_held (count_trailing_zeros 32 left) number_small

  pub bit_within : (1 * 2 ^ count_trailing_zeros 32 left) % 2 ^ 32 ≤ left
  bit_within = rw bit lowest_of.bit

  pub less : left - (1 * 2 ^ count_trailing_zeros 32 left) % 2 ^ 32 < left
  less = rw bit (omega (arith, lowest_of.bit, pow_pos (count_trailing_zeros 32 left)))

pub none_in : intervals_in 0 ≡ []
unfolding intervals keep has intervals_in
none_in = refl
