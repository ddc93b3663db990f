-- The range of a host that names none.
--     two_or_three    "two or three keys, never none": a note class has so many in it
use Rattle.answer.proofs.Kit.{ℕ, suc, ◌≤◌, ◌<◌, arith}
use Rattle.keys.proofs.Laws.{key_count, as_many}
use Rattle.voicings.specs.Range.{lowest_key, highest_key}

pub two_or_three : (class : ℕ) → class < 12 → (2 ≤ key_count lowest_key (suc highest_key) class) × (key_count lowest_key (suc highest_key) class ≤ 3)
two_or_three class h = let many = as_many lowest_key (suc highest_key) class h (omega arith) (omega arith) in (omega (arith, many.0), omega (arith, many.1))
