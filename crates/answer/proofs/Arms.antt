-- The last arm of a `match` on a number below n, whose other arms have the numbers below n in order, is never taken.
--     Nones, nones     the number is none of those below n
use Rattle.answer.proofs.Kit.{◌≡◌, ⊎_elim, ℕ, zero, suc, ◌<◌, eq-or-lt_of_le, le_of_suc-le-suc, not-suc-le-zero}

abbrev pub Nones : ℕ → ℕ → Type 0
Nones k zero = Unit {0}
Nones k (suc n) = Nones k n × (k ≡ n → ⊥)

pub nones : (k n : ℕ) → Nones k n → k < n → ⊥
nones k zero r h = absurd (not-suc-le-zero h)
nones k (suc n) r h = ⊎_elim r.1 (nones k n r.0) (eq-or-lt_of_le (le_of_suc-le-suc h))
