-- `leads::lead::owns` meets its contract: by how far the key is above the tone's first.
use Rattle.answer.proofs.Kit.{sym, ◌∙◌, lt-leb, ◌+◌, arith}
use Rattle.keys.specs.Choice.{keys_of}
use Rattle.leads.specs.Lead.{owns}
use Rattle.leads.proofs.Owned.{none_below, by_twelves}
use Rattle.leads.proofs.lead.owns.Goals as goal

pub returns-then-first-wide : goal.returns-then-first-wide
unfolding owns keys_of
returns-then-first-wide c = let a = c.args in
    rw (c.from-wide.ensures, c.from-first.ensures) (sym (by_twelves a.span.lowest a.span.limit a.key 18 (48 + a.tone.class) (omega arith) (omega arith)))

pub returns-else-first-wide : goal.returns-else-first-wide
unfolding owns keys_of
returns-else-first-wide c = let a = c.args in
    lt-leb _ _ c.if-first-wide.false ∙ sym (none_below a.span.lowest a.span.limit a.key 18 (48 + a.tone.class) (omega arith))
