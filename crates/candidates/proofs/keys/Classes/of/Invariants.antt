-- `candidates::keys::Classes::of` meets its contract. The loop's invariant: what the contract says, of the keys before this one.
use Rattle.answer.proofs.Kit.{take}
use Rattle.candidates.proofs.Firsts.{Finds}
use Rattle.candidates.proofs.keys.Classes.of.Given as goal

abbrev pub invariant-loop-key : goal.invariant-loop-key
invariant-loop-key l = Finds (take l.key-index l.keys) l.order l.set l.count
