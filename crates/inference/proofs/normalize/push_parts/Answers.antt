-- `inference::normalize::push_parts` meets its contract. The loop's invariant: what is added so far, with what is left to add, is the whole.
use Rattle.answer.proofs.Kit.{sym, ap, subst, ◌∙◌, ◌++◌, append-nil, refl, List}
use Rattle.intervals.specs.declared.interval.Interval.{Interval}
use Rattle.rules.specs.Classes.{intervals_in}
use Rattle.rules.specs.Suffix.{listed, worded}
use Rattle.inference.specs.private.Prefixes.{is_first_behind}
use Rattle.inference.proofs.Members.{low_members}
use Rattle.inference.proofs.Turn.{Turn, parts_text, turn}
use Rattle.inference.proofs.normalize.push_parts.Goals as goal

pub loop-interval-init : goal.loop-interval-init
loop-interval-init g c =
    let whole = c.into_iter-interval-iterator.ensures.into_iter_gives ∙ c.of-interval-items.ensures ∙ low_members c.args.set in
    subst (Turn g.row.N c.args.text.now c.args.first c.args.prefix (intervals_in c.args.set) c.args.text.now c.args.first c.args.prefix) (sym whole) record { next = refl; adds_up = λ room. refl }

pub loop-interval-preserved : goal.loop-interval-preserved
loop-interval-preserved g c =
    let h = c.loop-interval in
    turn g.row.N _ _ _ _ h.text h.first h.prefix _ _ _
    (subst (Turn g.row.N c.args.text.now c.args.first c.args.prefix (intervals_in c.args.set) h.text h.first h.prefix) c.in-Some.ensures.steps h.invariant) c.push_part.ensures

pub returns-clause-next : goal.returns-clause-next
returns-clause-next g c =
    let h = c.loop-interval in
    ap (λ (l : List Interval). is_first_behind h.first l) (sym c.in-None.ensures.steps.0) ∙ h.invariant.next

pub returns-clause-adds : goal.returns-clause-adds
unfolding worded listed
returns-clause-adds g c =
    λ room.
    let h = c.loop-interval in
    sym (append-nil h.text) ∙ ap (λ (l : List Interval). h.text ++ parts_text h.first h.prefix l) (sym c.in-None.ensures.steps.0) ∙ h.invariant.adds_up room
