-- `spelling::tones::tones` meets its contract: the row so far, with the tones of the intervals that are left, is the whole.
use Rattle.answer.proofs.Kit.{◌≡◌, ◌++◌}
use Rattle.spelling.specs.Tones.{spelled_by}
use Rattle.spelling.proofs.Row.{row_of}
use Rattle.spelling.proofs.tones.tones.Given as goal

abbrev pub invariant-loop-interval : goal.invariant-loop-interval
invariant-loop-interval l = l.row ++ row_of spelled_by l.root l.interval-iterator ≡ row_of spelled_by l.root l.initial.interval-iterator
