-- `inference::normalize::push_parts` meets its contract. The loop's invariant: what is added so far, with what is left to add, is the whole.
use Rattle.rules.specs.Classes.{intervals_in}
use Rattle.inference.proofs.Turn.{Turn}
use Rattle.inference.proofs.normalize.push_parts.Given as goal

abbrev pub invariant-loop-interval : goal.invariant-loop-interval
invariant-loop-interval g l = Turn g.row.N l.initial.text l.initial.first l.initial.prefix (intervals_in l.set) l.text l.first l.prefix l.interval-iterator
