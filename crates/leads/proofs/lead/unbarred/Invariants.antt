-- The loop of `leads::lead::unbarred`: what the tones that are left bar, behind the one before them, leaves the set that they all leave.
use Rattle.answer.proofs.Kit.{◌≡◌, drop}
use Rattle.leads.specs.Lead.{barring, unbarred}
use Rattle.leads.proofs.lead.unbarred.Given as goal

abbrev pub invariant-loop-next : goal.invariant-loop-next
invariant-loop-next l = barring l.tone (drop l.next-index l.tones) l.free ≡ unbarred l.tones
