-- `leads::lead::last_owner` meets its contract: by what the search from the end has found.
use Rattle.answer.proofs.Kit.{rules}
use Rattle.pool.specs.declared.pool.Tone.{Tone}
use Rattle.leads.proofs.Removed.{IsLastOwner, owner_gone}
use Rattle.leads.proofs.lead.last_owner.Goals as goal

pub returns : goal.returns
returns c =
    let a = c.args in
    let none : Tone = record { base = 0; class = 0; interval = 0 } in
    let found : IsLastOwner a.span.lowest a.span.limit a.key none a.tones.now c.rposition.result = search rules in
    owner_gone a.span.lowest a.span.limit a.key none a.tones.now c.rposition.result found
