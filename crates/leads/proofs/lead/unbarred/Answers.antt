-- `leads::lead::unbarred` meets its contract: by the turns of the ring.
use Rattle.answer.proofs.Kit.{sym, ap, ◌∙◌, List, arith}
use lib.ListN.{drop_of_length-le}
use Rattle.std.proofs.lemmas.List.{drop_more}
use Rattle.pool.specs.declared.pool.Tone.{Tone}
use Rattle.leads.specs.Lead.{barring}
use Rattle.leads.proofs.Ring.{started, no_tones}
use Rattle.leads.proofs.lead.unbarred.Goals as goal

pub returns-in_default : goal.returns-in_default
returns-in_default c = no_tones c.args.tones.now (omega (arith, c.in_default.ensures.item))

pub loop-next-init : goal.loop-next-init
loop-next-init c =
    let last = c.in-Some.ensures.item in
    ap (λ (x : Tone). barring x c.args.tones.now 8388607) last.1 ∙ started _ c.args.tones.now (omega (arith, last))

pub loop-next-preserved : goal.loop-next-preserved
unfolding barring
loop-next-preserved c =
    let l = c.loop-next in
    let tones = c.args.tones.now in
    let i = l.next-index in
    rw c.barring-free.ensures (sym (ap (λ (x : List Tone). barring l.tone x l.free) (drop_more tones i _ (omega arith)))) ∙ l.invariant

pub returns : goal.returns
unfolding barring
returns c = let l = c.loop-next in sym (ap (λ (x : List Tone). barring l.tone x l.free) (drop_of_length-le c.args.tones.now (omega arith))) ∙ l.invariant
