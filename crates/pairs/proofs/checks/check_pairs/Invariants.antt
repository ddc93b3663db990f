-- The loop of `pairs::checks::check_pairs`: the first bad one of the pairs that are left is the first of all.
use Rattle.answer.proofs.Kit.{◌≡◌}
use Rattle.answer.proofs.FirstRefused.{refused_from}
use Rattle.pool.specs.Pool.{tones_of}
use Rattle.pairs.specs.Checks.{is_bad, bad_pair, first_checked}
use Rattle.pairs.proofs.checks.check_pairs.Given as goal

abbrev pub invariant-loop-place : goal.invariant-loop-place
invariant-loop-place l = let left = l.place-iterator in
    refused_from is_bad bad_pair left.count (tones_of left.iter.a.rest.now left.iter.b.rest.now) ≡ first_checked (tones_of l.pairs.classes.now l.pairs.intervals.now)
