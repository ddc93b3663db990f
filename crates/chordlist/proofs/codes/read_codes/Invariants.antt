-- The loop's invariant: what has been read of the parts so far.
use Rattle.answer.proofs.Kit.{length}
use Rattle.chordlist.proofs.Reading.{Read}
use Rattle.chordlist.proofs.codes.read_codes.Given as goal

abbrev pub invariant-loop-part : goal.invariant-loop-part
invariant-loop-part l = Read l.line l.codes (length l.yielded)
