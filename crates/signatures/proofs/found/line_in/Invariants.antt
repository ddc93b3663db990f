-- `signatures::found::line_in` meets its contract. The loop's invariant: what the rest of the text has behind the lines passed is what the whole has.
use Rattle.answer.proofs.Kit.{◌≡◌, ◌-◌, ◌≤◌, length, drop}
use Rattle.signatures.specs.Part.{found_in}
use Rattle.signatures.proofs.Walked.{found_behind}
use Rattle.signatures.proofs.found.line_in.Given as goal

abbrev pub invariant-loop : goal.invariant-loop
invariant-loop l = (l.start ≤ length l.text) × (found_behind l.start (drop l.start l.text) (l.number - l.counter) ≡ found_in l.text l.number)
