-- The intervals of a set are told by its lowest 23 bits.
use Rattle.std.proofs.Math.Pow.{field, mod-mod-pow}
use Rattle.answer.proofs.Kit.{◌≡◌, refl, ap, ◌∙◌, List, [], ◌∷◌, ℕ, ◌+◌, ◌-◌, ◌/◌, ◌%◌, ◌^◌, ◌<◌, arith, eqb}
use Rattle.intervals.specs.Sets.{has}
use Rattle.intervals.specs.Intervals.{intervals, number_of}
use Rattle.intervals.specs.declared.interval.Interval.{Interval}
use Rattle.intervals.proofs.Rows.{number_small}
use Rattle.rules.specs.Classes.{keep, intervals_in}

has_low : (n k : ℕ) → k < 23 → has (n % 2 ^ 23) k ≡ has n k
unfolding has
has_low n k h =
    let split : 23 ≡ 22 - k + 1 + k = omega arith in
    ap (λ (x : ℕ). eqb (x % 2) 1) (ap (λ (b : ℕ). n % 2 ^ b / 2 ^ k) split ∙ field n (22 - k + 1) k)
    ∙ ap (λ (x : ℕ). eqb x 1) (mod-mod-pow (n / 2 ^ k) (22 - k) 1)

keep_low : (n : ℕ) (l : List Interval) → keep (λ i. has (n % 2 ^ 23) (number_of i)) l ≡ keep (λ i. has n (number_of i)) l
unfolding keep
keep_low n [] = refl
keep_low n (i ∷ more) = rw (has_low n (number_of i) (number_small i), keep_low n more)

pub low_members : (n : ℕ) → intervals_in (n % 2 ^ 23) ≡ intervals_in n
unfolding intervals_in
low_members n = keep_low n intervals
