-- Numbers in a set of 32 bits.
--     past        a number past 31 is in no such set
--     within      so one that is in it is below 32
--     bit_held    its bit, as code shifts it
use Rattle.answer.proofs.Kit.{◌≡◌, ap, subst, ◌∙◌, true, false, ℕ, ◌*◌, ◌%◌, ◌^◌, ◌<◌, dec_lt, div-eq_of_lt, lt_of_lt_of_le, pow-le-pow_right, one-mul, arith, T, eqb, lit<, shl_exact}
use Rattle.answer.proofs.Tests.{said}
use Rattle.intervals.specs.Sets.{has}

pub past : (s k : ℕ) → s < 2 ^ 32 → 31 < k → has s k ≡ false
unfolding has
past s k small h = ap (λ (x : ℕ). eqb (x % 2) 1) (div-eq_of_lt (lt_of_lt_of_le small (pow-le-pow_right (lit< tt) h)))

pub within : (s k : ℕ) → s < 2 ^ 32 → has s k ≡ true → k < 32
within s k small member = by_order (dec_lt k 32)
  where
    by_order : Dec (k < 32) → k < 32
    by_order (yes h) = h
    by_order (no h) =
        let far : 31 < k = omega arith in
        absurd (subst T (past s k small far) (said (has s k) member))

pub bit_held : (k : ℕ) → k < 32 → 1 * 2 ^ k % 2 ^ 32 ≡ 2 ^ k
bit_held k h = shl_exact {a = 1} 1 k 32 (lit< tt) (omega arith) ∙ one-mul (2 ^ k)
