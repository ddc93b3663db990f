-- No more bytes than the range has.
use Rattle.answer.proofs.Kit.{◌-◌, ◌≤◌, length}
use Rattle.requests.proofs.read_full.Given as goal

abbrev pub invariant-loop-count : goal.invariant-loop-count
invariant-loop-count g l = l.count ≤ length l.range

abbrev pub decreases-loop-count : goal.decreases-loop-count
decreases-loop-count g l = length l.initial.range - l.count
