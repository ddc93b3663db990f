-- Minus a size, in a host's signed 64 bits.
--     as_written, at_lowest  minus a size that they hold, and one that they don't
--     size_told              minus a size that they hold tells the size
use Rattle.answer.proofs.Kit.{◌≡◌, ℕ, ◌^◌, ◌<◌, ◌≤◌, arith, pos, neg_ℤ, min-eq_left, min-eq_right}
use Rattle.host.specs.Numbers.{minus}

pub as_written : (n : ℕ) → n ≤ 2 ^ 63 → minus n ≡ neg_ℤ (pos n)
as_written n h = rw (min-eq_left h)

pub at_lowest : (n : ℕ) → 2 ^ 63 ≤ n → minus n ≡ neg_ℤ (pos (2 ^ 63))
at_lowest n h = rw (min-eq_right h)

pub size_told : (n size : ℕ) → size < 2 ^ 63 → minus n ≡ minus size → n ≡ size
size_told n size h e = grind arith
