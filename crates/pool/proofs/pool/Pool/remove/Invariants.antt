-- The loop of `pool::pool::Pool::remove`: those put in front, with those behind the next, are the pool without the tone,
-- and from the place on the run is as it was.
use Rattle.answer.proofs.Kit.{◌≡◌, ◌++◌, ◌+◌, ◌≤◌, length, take, drop, slice}
use Rattle.pool.specs.Pool.{without_at}
use Rattle.pool.proofs.pool.Pool.remove.Given as goal

abbrev pub invariant-loop-at : goal.invariant-loop-at
invariant-loop-at l =
    let tones = l.self-inside.tones in
    (l.place ≤ l.at) × (l.at ≤ l.last) × (length tones ≡ 16) × (l.last + 1 ≤ 16) × (l.self-inside.count ≡ l.last + 1)
    × (drop l.at tones ≡ drop l.at l.initial.self-inside.tones)
    × (take l.at tones ++ slice (l.at + 1) (l.last + 1) tones ≡ without_at l.place (take (l.last + 1) l.initial.self-inside.tones))
