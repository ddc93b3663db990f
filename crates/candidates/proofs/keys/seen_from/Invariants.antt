-- `candidates::keys::seen_from` meets its contract. The loop's invariant: what has been seen is the set's classes below `k`.
use Rattle.answer.proofs.Kit.{◌≡◌}
use Rattle.candidates.proofs.Turned.{seen_below}
use Rattle.candidates.proofs.keys.seen_from.Given as goal

abbrev pub invariant-loop-k : goal.invariant-loop-k
invariant-loop-k l = l.seen ≡ seen_below l.k l.root l.set
