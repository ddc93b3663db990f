-- The loop of `pool::pool::ordered_pool`: the tones so far are the first of all, and blanks are left.
use Rattle.answer.proofs.Kit.{◌≡◌, length, take, drop}
use Rattle.pool.specs.Held.{blanks}
use Rattle.pool.specs.Pool.{tones_of}
use Rattle.pool.proofs.pool.ordered_pool.Given as goal

abbrev pub invariant-loop-i : goal.invariant-loop-i
invariant-loop-i l = (length l.tones ≡ 16) × (drop l.i l.tones ≡ drop l.i blanks) × (take l.i l.tones ≡ take l.i (tones_of l.pairs.classes.now l.pairs.intervals.now))
